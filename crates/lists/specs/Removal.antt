-- Swap removal from a list of any element type: the last element fills the hole. The order of what stays is not kept.
-- Assumes nothing.
use Rattle.std.specs.Prelude.{Bool, true, false, cond, List, [], ◌∷◌, ◌++◌, ℕ, zero, suc, ◌-◌, length, take}
use Rattle.std.proofs.Math.Seq.{slice}
use Rattle.lists.specs.Search.{change_first}

module _ {A : Type 0} where
  -- the last of x and the list
  unfoldable pub last_of : A → List A → A
  last_of x [] = x
  last_of x (y ∷ ys) = last_of y ys

  -- all but the last of x and the list
  unfoldable pub init_of : A → List A → List A
  init_of x [] = []
  init_of x (y ∷ ys) = x ∷ init_of y ys

  -- what stood behind a hole, once the last of it has filled the hole
  unfoldable pub refilled : List A → List A
  refilled [] = []
  refilled (x ∷ xs) = last_of x xs ∷ init_of x xs

  -- scanning from the front, swap removal of each element that p holds of; what fills the hole is looked at next. The number is how many
  -- are still to be looked at
  unfoldable pub sweep_for : ℕ → (A → Bool) → List A → List A
  sweep_for zero p l = l
  sweep_for (suc n) p [] = []
  sweep_for (suc n) p (x ∷ xs) = elim (p x) [ true ↦ sweep_for n p (refilled xs) | false ↦ x ∷ sweep_for n p xs ]

  -- the list after such a scan
  unfoldable pub sweep : (A → Bool) → List A → List A
  sweep p l = sweep_for (length l) p l

  -- a scan under way in an array l whose first n places are held: those before i are settled, those from i on are still to be looked at
  unfoldable pub scanned : (A → Bool) → ℕ → ℕ → List A → List A
  scanned p i n l = take i l ++ sweep_for (n - i) p (slice i n l)

  -- swap removal of the first element that p holds of
  unfoldable pub take_out : (A → Bool) → List A → List A
  take_out p [] = []
  take_out p (x ∷ xs) = elim (p x) [ true ↦ refilled xs | false ↦ x ∷ take_out p xs ]

  -- the same from a list whose newest element is its first: that one fills the hole
  unfoldable pub take_out_newest : (A → Bool) → List A → List A
  take_out_newest p [] = []
  take_out_newest p (x ∷ xs) = cond (p x) xs (change_first p (λ y. x) xs)
