-- The next instant is a least over the stored ones and the last instant, so it has come where one of these has; and one subscription is
-- reportable exactly from its own next instant on.
-- Assumes nothing.
use mathlib.Core.Path.{◌≡◌, sym, ◌∙◌}
use mathlib.Core.Bool.{true, false, ◌||◌, or-false}
use mathlib.Core.List.{List, [], ◌∷◌}
use Prim.Native.Nat.{ℕ, ◌≤◌, ◌<◌}
use native.Mathlib.Omega.{arith}
use native.Mathlib.Nat.{not-suc-le-zero}
use borrow.Author.Tests.{leb-true, le-leb, lt-leb, leb-false, ltb-false}
use lib.Dec.{leb}
use lib.ListN.{length}
use Rattle.lists.specs.Search.{some}
use Rattle.lists.proofs.Bools.{split, or_left, or_neither}
use Rattle.lists.proofs.Counts.{some_cons}
use Rattle.lists.proofs.Numbers.{some_same, least_most}
use Rattle.instants.specs.declared.Instant.{Instant}
use Rattle.time.specs.declared.KeepAlive.{KeepAlive}
use Rattle.instants.specs.Instants.{last_instant}
use Rattle.subscription.specs.declared.Subscription.{Subscription}
use Rattle.subscription.specs.When.{next_of}
use Rattle.subscription.proofs.Laws.{reportable_next, next_most}
use Rattle.rules.specs.States.{State}
use Rattle.rules.specs.Histories.{late_retry}
use Rattle.rules.specs.Machine.{changed_for, ready, next_instant_in, any_reportable_in}

module _ (now : Instant) (events : ℕ) (kind : KeepAlive) (s : State) where
  -- when one of them can report next
  abbrev next_for : Subscription → ℕ
  next_for x = (next_of x (changed_for s x) events kind).ms

  by_next : any_reportable_in now events kind s ≡ some (λ x. leb (next_for x) now.ms) s.stored
  unfolding any_reportable_in ready
  by_next = some_same _ _ s.stored (λ x. reportable_next x now (changed_for s x) events kind)

  next_come : leb (next_instant_in events kind s).ms now.ms
      ≡ (some (λ x. leb (next_for x) now.ms) s.stored || leb last_instant.ms now.ms)
  unfolding next_instant_in
  next_come = least_most next_for last_instant.ms now.ms s.stored

  -- by the last instant whoever is stored first is reportable
  first_come : (l : List Subscription) → 0 < length l → some late_retry l ≡ false → last_instant.ms ≤ now.ms
      → some (λ x. leb (next_for x) now.ms) l ≡ true
  first_come [] h fit late = absurd (not-suc-le-zero h)
  first_come (x ∷ xs) h fit late =
      let fits = (or_neither (late_retry x) (some late_retry xs) (sym (some_cons late_retry x xs) ∙ fit)).0 in
      let retry = ltb-false last_instant.ms x.retry.ms fits in
      some_cons (λ x. leb (next_for x) now.ms) x xs
      ∙ or_left (some (λ x. leb (next_for x) now.ms) xs)
      (le-leb (next_for x) now.ms (omega (arith, next_most x (changed_for s x) events kind retry)))

  pub before_last : now.ms < 18446744073709551615 → any_reportable_in now events kind s ≡ leb (next_instant_in events kind s).ms now.ms
  before_last h =
      by_next ∙ sym (next_come ∙ rw (lt-leb last_instant.ms now.ms h) (or-false (some (λ x. leb (next_for x) now.ms) s.stored)))

  pub with_stored : 0 < length s.stored → some late_retry s.stored ≡ false
      → any_reportable_in now events kind s ≡ leb (next_instant_in events kind s).ms now.ms
  with_stored h fit =
      split (leb 18446744073709551615 now.ms)
      (λ t. let found = first_come s.stored h fit (leb-true _ _ t) in by_next ∙ found ∙ sym (next_come ∙ rw found))
      (λ t. before_last (leb-false _ _ t))
