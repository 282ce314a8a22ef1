-- Who has just spoken waits: after a report that was sent or is to be tried again, the next one is not allowed at the same instant. And who is
-- allowed and has a change pending is reportable.
-- Assumes nothing.
use mathlib.Core.Path.{◌≡◌, refl, ap}
use mathlib.Core.Bool.{Bool, true, false, ◌&&◌, ◌||◌}
use Prim.Native.Nat.{ℕ, ◌+◌, ◌≤◌, ◌<◌}
use native.Mathlib.Omega.{arith}
use borrow.Author.Tests.{ne_eqb}
use lib.Dec.{leb}
use Rattle.instants.specs.declared.Instant.{Instant}
use Rattle.time.specs.declared.KeepAlive.{KeepAlive}
use Rattle.instants.specs.Instants.{last_instant, never_reported}
use Rattle.time.specs.Moments.{since_report}
use Rattle.time.proofs.Laws.{backoff_least, backoff_most, since_within, retry_within}
use Rattle.subscription.specs.declared.Subscription.{Subscription}
use Rattle.subscription.specs.When.{gate_of, allowed_of, is_due, pending, along, reportable}
use Rattle.subscription.specs.Life.{next_fails, closed}
use Rattle.subscription.proofs.Watermarks.{closed_shortest, sent_reported, retried_retry}

gate_first : (x : Subscription) → (since_report x.reported x.shortest).ms ≤ (allowed_of x).ms
unfolding allowed_of gate_of
gate_first x = omega arith

retry_first : (x : Subscription) → x.retry.ms ≤ (allowed_of x).ms
unfolding allowed_of
retry_first x = omega arith

-- "at one instant at least 65,535 s before the last": then no interval of sixteen bits passes the last instant
module _ (x : Subscription) (time : x.opened.ms + 65535000 ≤ last_instant.ms) where
  pub sent_waits : 1 ≤ x.shortest → x.shortest ≤ 65535 → x.opened.ms < (allowed_of (closed x 0)).ms
  sent_waits least most =
      let before : never_reported x.opened ≡ false = ne_eqb x.opened.ms last_instant.ms (λ e. omega (arith, e)) in
      let gate = ap (λ i. i.ms) (since_within x.opened x.shortest (omega arith) before) in
      let same = ap (λ r. (since_report r x.shortest).ms) (sent_reported x) in
      let width = ap (λ n. (since_report (closed x 0).reported n).ms) (closed_shortest x 0) in
      omega (arith, gate_first (closed x 0), width, same, gate)

  pub retry_waits : x.longest ≤ 65535 → x.opened.ms < (allowed_of (closed x 2)).ms
  retry_waits most =
      let b = backoff_least (next_fails x) x.longest in
      let m = backoff_most (next_fails x) x.longest in
      let at = ap (λ i. i.ms) (retry_within x.opened (next_fails x) x.longest (omega arith)) in
      omega (arith, retry_first (closed x 2), ap (λ i. i.ms) (retried_retry x), at)

module _ (x : Subscription) (now : Instant) (changed : Bool) (events : ℕ) (kind : KeepAlive) (all : Bool) where
  pub reportable_allowed : reportable x now changed events kind all ≡ true → leb (allowed_of x).ms now.ms ≡ true
  unfolding reportable
  reportable_allowed h = go (leb (allowed_of x).ms now.ms) (along x now all || (is_due x now kind || pending x changed events)) h
    where
      go : (b c : Bool) → (b && c) ≡ true → b ≡ true
      go true c e = refl
      go false c e = e

  pub changed_reportable : leb (allowed_of x).ms now.ms ≡ true → changed ≡ true → reportable x now changed events kind all ≡ true
  unfolding reportable pending
  changed_reportable allowed e = rw (allowed, e) (always (along x now all) (is_due x now kind))
    where
      always : (a b : Bool) → (a || (b || true)) ≡ true
      always true b = refl
      always false true = refl
      always false false = refl
