-- Searching a list of any element type by a test: is there one, where is the first, how many are there; and changing the first.
-- Assumes nothing.
use Rattle.std.specs.Prelude.{Bool, true, false, cond, not, ◌&&◌, ◌||◌, List, [], ◌∷◌, ℕ, suc, ◌+◌, min, eqb}

-- 1 for yes, 0 for no
abbrev pub one : Bool → ℕ
one true = 1
one false = 0

module _ {A : Type 0} where
  -- is there an element that p holds of
  unfoldable pub some : (A → Bool) → List A → Bool
  some p [] = false
  some p (x ∷ xs) = p x || some p xs

  -- how many elements p holds of
  unfoldable pub count : (A → Bool) → List A → ℕ
  count p [] = 0
  count p (x ∷ xs) = one (p x) + count p xs

  -- the place of the first element that p holds of, or the length where there is none
  unfoldable pub first : (A → Bool) → List A → ℕ
  first p [] = 0
  first p (x ∷ xs) = cond (p x) 0 (suc (first p xs))

  -- the list with f of the first element that p holds of in its place
  unfoldable pub change_first : (A → Bool) → (A → A) → List A → List A
  change_first p f [] = []
  change_first p f (x ∷ xs) = cond (p x) (f x ∷ xs) (x ∷ change_first p f xs)

  -- the first element that p holds of, or d where there is none
  unfoldable pub first_by : (A → Bool) → A → List A → A
  first_by p d [] = d
  first_by p d (x ∷ xs) = cond (p x) x (first_by p d xs)

  -- all numbers that f gives of the elements differ
  unfoldable pub distinct : (A → ℕ) → List A → Bool
  distinct f [] = true
  distinct f (x ∷ xs) = not (some (λ y. eqb (f x) (f y)) xs) && distinct f xs

  -- the least number that f gives of the elements and m
  unfoldable pub least_by : (A → ℕ) → ℕ → List A → ℕ
  least_by f m [] = m
  least_by f m (x ∷ xs) = min (f x) (least_by f m xs)
