-- What floors above may use of one subscription: what stays as it is through its life, and when it can report next. They never open a
-- definition of this crate.
-- Assumes nothing.
use mathlib.Core.Path.{◌≡◌, refl, sym, ◌∙◌}
use mathlib.Core.Bool.{Bool, true, false, cond, ◌&&◌, ◌||◌}
use Prim.Native.Nat.{ℕ, ◌≤◌, max}
use native.Mathlib.Omega.{arith}
use borrow.Author.Tests.{le-leb, leb-true, lt-leb, leb-false}
use lib.Dec.{eqb, leb}
use Rattle.instants.specs.declared.Instant.{Instant}
use Rattle.time.specs.declared.KeepAlive.{KeepAlive}
use Rattle.instants.specs.Instants.{last_instant}
use Rattle.time.specs.Intervals.{due_after_secs}
use Rattle.time.proofs.Laws.{since_most, retry_most}
use Rattle.subscription.specs.declared.Request.{Request}
use Rattle.subscription.specs.declared.Subscription.{Subscription}
use Rattle.subscription.specs.When.{gate_of, allowed_of, due_of, is_due, pending, along, reportable, next_of}
use Rattle.subscription.specs.Life.{priming, resumed, opened, stored_with, closed_sent, closed_unsent, closed_retry, next_fails, closed}

-- ---- when it can report next

leb_max : (a b n : ℕ) → leb (max a b) n ≡ (leb a n && leb b n)
leb_max a b n = go (leb a n) (leb b n) refl refl
  where
    go : (x y : Bool) → leb a n ≡ x → leb b n ≡ y → leb (max a b) n ≡ (x && y)
    go true true e f = le-leb (max a b) n (omega (arith, leb-true a n e, leb-true b n f))
    go true false e f = lt-leb (max a b) n (omega (arith, leb-false b n f))
    go false y e f = lt-leb (max a b) n (omega (arith, leb-false a n e))

-- Without the all flag it is reportable exactly from its next instant on.
pub reportable_next : (x : Subscription) (now : Instant) (changed : Bool) (events : ℕ) (kind : KeepAlive)
    → reportable x now changed events kind false ≡ leb (next_of x changed events kind).ms now.ms
unfolding reportable along is_due next_of
reportable_next x now changed events kind =
    go (pending x changed events) (leb (allowed_of x).ms now.ms) (leb (due_of x kind).ms now.ms) refl refl
  where
    go : (p a d : Bool) → leb (allowed_of x).ms now.ms ≡ a → leb (due_of x kind).ms now.ms ≡ d
        → (a && (d || p)) ≡ leb (cond p (allowed_of x) (record { ms = max (allowed_of x).ms (due_of x kind).ms })).ms now.ms
    go true true true e f = sym e
    go true true false e f = sym e
    go true false d e f = sym e
    go false true true e f = sym (leb_max (allowed_of x).ms (due_of x kind).ms now.ms ∙ rw (e, f))
    go false true false e f = sym (leb_max (allowed_of x).ms (due_of x kind).ms now.ms ∙ rw (e, f))
    go false false d e f = sym (leb_max (allowed_of x).ms (due_of x kind).ms now.ms ∙ rw e)

-- Its due instant is an instant.
pub due_most : (x : Subscription) (kind : KeepAlive) → (due_of x kind).ms ≤ last_instant.ms
unfolding due_of
due_most x kind = since_most x.reported (due_after_secs kind x.longest)

-- Where its retry is an instant, so is its next report.
pub next_most : (x : Subscription) (changed : Bool) (events : ℕ) (kind : KeepAlive) → x.retry.ms ≤ last_instant.ms
    → (next_of x changed events kind).ms ≤ last_instant.ms
unfolding next_of allowed_of gate_of due_of
next_most x changed events kind h =
    go (since_most x.reported x.shortest) (since_most x.reported (due_after_secs kind x.longest)) (pending x changed events)
  where
    go : (gate_of x).ms ≤ last_instant.ms → (due_of x kind).ms ≤ last_instant.ms → (p : Bool)
        → (cond p (allowed_of x) (record { ms = max (allowed_of x).ms (due_of x kind).ms })).ms ≤ last_instant.ms
    go gate due true = omega arith
    go gate due false = omega arith

-- ---- what it is when it is admitted

module _ (request : Request) (id mark events : ℕ) (now : Instant) where
  pub priming_id : (priming request id mark events now).id ≡ id
  unfolding priming
  priming_id = refl

  pub priming_fabric : (priming request id mark events now).fabric ≡ request.fabric
  unfolding priming
  priming_fabric = refl

  pub priming_retry : (priming request id mark events now).retry.ms ≡ 0
  unfolding priming
  priming_retry = refl

  pub priming_reporting : (priming request id mark events now).reporting ≡ false
  unfolding priming
  priming_reporting = refl

module _ (request : Request) (id mark events : ℕ) where
  pub resumed_id : (resumed request id mark events).id ≡ id
  unfolding resumed
  resumed_id = refl

  pub resumed_fabric : (resumed request id mark events).fabric ≡ request.fabric
  unfolding resumed
  resumed_fabric = refl

  pub resumed_retry : (resumed request id mark events).retry.ms ≡ 0
  unfolding resumed
  resumed_retry = refl

-- ---- what stays when it is handed out

module _ (x : Subscription) (mark events : ℕ) (now : Instant) where
  pub opened_id : (opened x mark events now).id ≡ x.id
  unfolding opened
  opened_id = refl

  pub opened_fabric : (opened x mark events now).fabric ≡ x.fabric
  unfolding opened
  opened_fabric = refl

  pub opened_retry : (opened x mark events now).retry ≡ x.retry
  unfolding opened
  opened_retry = refl

  pub opened_reporting : (opened x mark events now).reporting ≡ true
  unfolding opened
  opened_reporting = refl

-- ---- and when it is stored again

module _ (x : Subscription) where
  -- what holds of it with any values stored holds of it after each outcome
  pub closed_by : (P : Subscription → Type 0) (outcome : ℕ) → P (closed_retry x) → P (closed_unsent x) → P (closed_sent x) → P (closed x outcome)
  unfolding closed
  closed_by P outcome retry unsent sent = go (eqb outcome 2) (eqb outcome 1)
    where
      go : (a b : Bool) → P (cond a (closed_retry x) (cond b (closed_unsent x) (closed_sent x)))
      go true b = retry
      go false true = unsent
      go false false = sent

  pub closed_id : (outcome : ℕ) → (closed x outcome).id ≡ x.id
  unfolding stored_with
  closed_id outcome = closed_by (λ y. y.id ≡ x.id) outcome refl refl refl

  pub closed_fabric : (outcome : ℕ) → (closed x outcome).fabric ≡ x.fabric
  unfolding stored_with
  closed_fabric outcome = closed_by (λ y. y.fabric ≡ x.fabric) outcome refl refl refl

  -- its retry is an instant, whatever stood there before
  pub closed_retry_lem : (outcome : ℕ) → (closed x outcome).retry.ms ≤ last_instant.ms
  unfolding stored_with
  closed_retry_lem outcome =
      closed_by (λ y. y.retry.ms ≤ last_instant.ms) outcome (retry_most x.opened (next_fails x) x.longest) (omega arith) (omega arith)
