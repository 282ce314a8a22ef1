-- What a subscription has seen, what its open report began with, and when it may speak again, through its life.
-- Assumes nothing.
use mathlib.Core.Path.{◌≡◌, refl}
use mathlib.Core.Bool.{Bool, true, false, not, cond, ◌&&◌}
use Prim.Native.Nat.{ℕ, ◌≤◌}
use native.Mathlib.Omega.{arith}
use borrow.Author.Tests.{leb-true}
use lib.Dec.{eqb, leb}
use Rattle.instants.specs.declared.Instant.{Instant}
use Rattle.subscription.specs.declared.Request.{Request}
use Rattle.subscription.specs.declared.Subscription.{Subscription}
use Rattle.time.specs.Moments.{retry_at}
use Rattle.subscription.specs.Life.{priming, resumed, opened, stored_with, next_fails, closed_sent, closed_unsent, closed_retry, closed, gives_up, keeps}
use Rattle.subscription.proofs.Laws.{closed_by}

module _ (request : Request) (id mark events : ℕ) where
  pub priming_seen : (now : Instant) → (priming request id mark events now).seen ≡ mark
  unfolding priming
  priming_seen now = refl

  pub priming_mark : (now : Instant) → (priming request id mark events now).mark ≡ mark
  unfolding priming
  priming_mark now = refl

  pub resumed_seen : (resumed request id mark events).seen ≡ mark
  unfolding resumed
  resumed_seen = refl

  pub resumed_mark : (resumed request id mark events).mark ≡ 0
  unfolding resumed
  resumed_mark = refl

module _ (x : Subscription) (mark events : ℕ) (now : Instant) where
  pub opened_seen : (opened x mark events now).seen ≡ x.seen
  unfolding opened
  opened_seen = refl

  pub opened_mark : (opened x mark events now).mark ≡ mark
  unfolding opened
  opened_mark = refl

  -- when it may speak hangs on nothing that an opening writes
  pub opened_reported : (opened x mark events now).reported ≡ x.reported
  unfolding opened
  opened_reported = refl

  pub opened_shortest : (opened x mark events now).shortest ≡ x.shortest
  unfolding opened
  opened_shortest = refl

  pub opened_longest : (opened x mark events now).longest ≡ x.longest
  unfolding opened
  opened_longest = refl

  pub opened_opened : (opened x mark events now).opened ≡ now
  unfolding opened
  opened_opened = refl

module _ (x : Subscription) (outcome : ℕ) where
  pub closed_mark : (closed x outcome).mark ≡ 0
  unfolding stored_with
  closed_mark = closed_by x (λ y. y.mark ≡ 0) outcome refl refl refl

  pub closed_shortest : (closed x outcome).shortest ≡ x.shortest
  unfolding stored_with
  closed_shortest = closed_by x (λ y. y.shortest ≡ x.shortest) outcome refl refl refl

  pub closed_longest : (closed x outcome).longest ≡ x.longest
  unfolding stored_with
  closed_longest = closed_by x (λ y. y.longest ≡ x.longest) outcome refl refl refl

  -- a retry has seen what it had, every other outcome what its report began with
  pub closed_seen : (closed x outcome).seen ≡ cond (eqb outcome 2) x.seen x.mark
  unfolding closed stored_with
  closed_seen = go (eqb outcome 2) (eqb outcome 1)
    where
      go : (a b : Bool) → (cond a (closed_retry x) (cond b (closed_unsent x) (closed_sent x))).seen ≡ cond a x.seen x.mark
      go true b = refl
      go false true = refl
      go false false = refl

module _ (x : Subscription) where
  -- "0 sent: opening values stored"
  pub sent_reported : (closed x 0).reported ≡ x.opened
  unfolding closed stored_with
  sent_reported = refl

  -- "2 retry: .. retry_at = opening now + backoff"
  pub retried_retry : (closed x 2).retry ≡ retry_at x.opened (next_fails x) x.longest
  unfolding closed stored_with
  retried_retry = refl

  -- "3 failed and 4 abandoned: dropped."
  pub kept_most : (outcome : ℕ) → keeps x outcome ≡ true → outcome ≤ 2
  unfolding keeps
  kept_most outcome h = go (not (gives_up x outcome)) h
    where
      go : (b : Bool) → (b && leb outcome 2) ≡ true → outcome ≤ 2
      go true e = leb-true outcome 2 e
      go false e = absurd (let z : ◌≡◌ {A = ℕ} 0 1 = cc in omega arith)
