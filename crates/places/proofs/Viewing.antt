-- How the table's moves look in the state that it stands for: what leaves the array leaves the machine's list, in the machine's order.
-- Assumes nothing.
use mathlib.Core.Path.{◌≡◌, sym, ap, ◌∙◌}
use mathlib.Core.Bool.{Bool}
use mathlib.Core.List.{[], ◌∷◌, ◌++◌}
use Prim.Native.Nat.{ℕ, suc, ◌+◌, ◌-◌, ◌≤◌, ◌<◌}
use native.Mathlib.Omega.{arith}
use native.Mathlib.Numerals.{add-one}
use lib.ListN.{length, drop, get_or, set, length-set, length-drop}
use lib.Seq.{take-suc-set, take-set-le, drop-set-lt, drop-set-add, drop-cons, drop-drop, get_or-set_same, get_or-drop}
use Rattle.subscription.specs.declared.Subscription.{Subscription}
use Rattle.places.specs.declared.Table.{Table}
use Rattle.lists.specs.Search.{first}
use Rattle.lists.specs.Removal.{take_out, take_out_newest}
use Rattle.subscription.specs.Life.{blank}
use Rattle.places.specs.Views.{stored_of, opens_of}
use Rattle.places.specs.Moves.{taken_out, stored_last, opened_up, closed_at}
use Rattle.lists.proofs.Places.{array_taken, newest_taken}

module _ (t : Table) (long : length t.places ≡ 80) where
  -- the first stored one that p holds of is taken out by swap removal
  pub taken_stored : (p : Subscription → Bool) → t.stored ≤ 80 → first p (stored_of t) < t.stored
      → stored_of (taken_out t (first p (stored_of t))) ≡ take_out p (stored_of t)
  unfolding taken_out
  taken_stored p fits h = array_taken p t.stored t.places blank blank (omega arith) h

  -- and the open ones stay
  pub taken_opens : (i : ℕ) → t.stored + t.opens ≤ 80 → i < t.stored → opens_of (taken_out t i) ≡ opens_of t
  unfolding taken_out
  taken_opens i fits h =
      let m = set t.places i (get_or t.places (t.stored - 1) blank) in
      drop-set-lt (80 - t.opens) m (t.stored - 1) blank (omega arith)
      ∙ drop-set-lt (80 - t.opens) t.places i (get_or t.places (t.stored - 1) blank) (omega arith)

  -- one that is stored stands at the end
  pub stored_stored : (x : Subscription) → t.stored < 80 → stored_of (stored_last t x) ≡ stored_of t ++ (x ∷ [])
  unfolding stored_last
  stored_stored x h =
      let within : t.stored < length t.places = omega arith in
      rw (add-one, take-suc-set t.places t.stored x within)

  pub stored_opens : (x : Subscription) → t.stored + t.opens < 80 → opens_of (stored_last t x) ≡ opens_of t
  unfolding stored_last
  stored_opens x h = drop-set-lt (80 - t.opens) t.places t.stored x (omega arith)

  -- one that opens is the newest
  pub opened_opens : (x : Subscription) → t.opens < 80 → opens_of (opened_up t x) ≡ x ∷ opens_of t
  unfolding opened_up
  opened_opens x h =
      let at : 80 - (t.opens + 1) ≡ 79 - t.opens = omega arith in
      let next : suc (79 - t.opens) ≡ 80 - t.opens = omega arith in
      let within : 79 - t.opens < length t.places = omega arith in
      let m = set t.places (79 - t.opens) x in
      ap (λ n. drop n m) at
      ∙ drop-cons m (79 - t.opens) blank (omega (arith, length-set t.places (79 - t.opens) x))
      ∙ rw (get_or-set_same t.places (79 - t.opens) x blank within, next)
      (ap (λ l. x ∷ l) (drop-set-lt (80 - t.opens) t.places (79 - t.opens) x (omega arith)))

  pub opened_stored : (x : Subscription) → t.stored + t.opens < 80 → stored_of (opened_up t x) ≡ stored_of t
  unfolding opened_up
  opened_stored x h = take-set-le t.stored t.places (79 - t.opens) x (omega arith)

  -- an open one that ends leaves its place to the newest
  pub closed_opens : (p : Subscription → Bool) → t.opens ≤ 80 → first p (opens_of t) < t.opens
      → opens_of (closed_at t (80 - t.opens + first p (opens_of t))) ≡ take_out_newest p (opens_of t)
  unfolding closed_at
  closed_opens p fits h =
      let n = 80 - t.opens in
      let k = first p (opens_of t) in
      let newest = get_or t.places n blank in
      let m = set t.places (n + k) newest in
      let size : length (opens_of t) ≡ t.opens = length-drop n t.places ∙ (omega arith) in
      let one : 80 - (t.opens - 1) ≡ n + 1 = omega arith in
      let zero : n + 0 ≡ n = omega arith in
      let front : newest ≡ get_or (opens_of t) 0 blank = sym (get_or-drop n t.places 0 blank ∙ ap (λ i. get_or t.places i blank) zero) in
      rw one
      (sym (drop-drop 1 n (set m n blank))
      ∙ ap (drop 1) (ap (λ i. drop n (set m i blank)) (sym zero) ∙ drop-set-add n m 0 blank)
      ∙ ap (λ l. drop 1 (set l 0 blank)) (drop-set-add n t.places k newest ∙ ap (λ y. set (opens_of t) k y) front)
      ∙ newest_taken p (opens_of t) blank blank (omega arith))

  pub closed_stored : (j : ℕ) → t.stored + t.opens ≤ 80 → 80 - t.opens ≤ j → stored_of (closed_at t j) ≡ stored_of t
  unfolding closed_at
  closed_stored j fits h =
      let n = 80 - t.opens in
      take-set-le t.stored (set t.places j (get_or t.places n blank)) n blank (omega arith)
      ∙ take-set-le t.stored t.places j (get_or t.places n blank) (omega arith)
