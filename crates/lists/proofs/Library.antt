-- The words of `Search` in the library's: the contract of a chain of iterators speaks in those, and one of these equations leads over.
-- Assumes nothing.
use mathlib.Core.Path.{◌≡◌, refl, sym, ap, ◌∙◌}
use mathlib.Core.Bool.{Bool, true, false, cond, ◌||◌}
use mathlib.Core.List.{List, [], ◌∷◌}
use Prim.Native.Nat.{ℕ, ◌+◌, min, max, ◌<◌}
use native.Mathlib.Omega.{arith}
use borrow.Author.Tests.{ltb-true, lt-ltb}
use lib.Dec.{ltb}
use lib.ListN.{length}
use Rattle.std.specs.List.{list_any, fold, count_by, find, position, position_or_len}
use Rattle.std.specs.Prelude.{unwrap_or, Some, None}
use Rattle.lists.specs.Search.{some, count, first, first_by, least_by}
use Rattle.lists.proofs.Bools.{split}
use Rattle.lists.proofs.Searches.{first_some}

module _ {A : Type 0} (p : A → Bool) where
  -- `xs.iter().any(p)`
  pub some_any : (xs : List A) → some p xs ≡ list_any p xs
  unfolding some
  some_any [] = refl
  some_any (x ∷ xs) = ap (λ b. p x || b) (some_any xs)

  count_from : (n : ℕ) (xs : List A) → fold (λ a x. a + cond (p x) 1 0) n xs ≡ n + count p xs
  unfolding count
  count_from n [] = omega arith
  count_from n (x ∷ xs) =
      split (p x)
      (λ t. rw t (omega (arith, count_from (n + 1) xs)))
      (λ t. rw t (omega (arith, count_from (n + 0) xs)))

  -- `xs.iter().filter(p).count()`
  pub count_filter : (xs : List A) → count p xs ≡ count_by p xs
  count_filter xs = omega (arith, count_from 0 xs)

  -- the first place in the library's other words
  pub first_len : (xs : List A) → first p xs ≡ position_or_len p xs
  unfolding first
  first_len [] = refl
  first_len (x ∷ xs) = split (p x) (λ t. rw (t, first)) (λ t. rw (t, first) (omega (arith, first_len xs)))

  -- where `position` answers, there is one, and its place is the first
  pub found_at : (xs : List A) {i : ℕ} → position p xs ≡ Some i → (some p xs ≡ true) × (i ≡ first p xs) × (first p xs < length xs)
  found_at xs e =
      split (ltb (position_or_len p xs) (length xs))
      (λ t. let here = rw t at e in
      let same = first_len xs in
      let within : first p xs < length xs = omega (arith, ltb-true _ _ t) in
      (sym (first_some p xs) ∙ lt-ltb _ _ within, cc, within))
      (λ t. let here = rw t at e in cc)

  -- and where it does not, there is none
  pub found_nowhere : (xs : List A) → position p xs ≡ None → some p xs ≡ false
  found_nowhere xs e =
      split (ltb (position_or_len p xs) (length xs))
      (λ t. let here = rw t at e in cc)
      (λ t. sym (first_some p xs) ∙ rw (first_len xs) t)

  -- `xs.iter().find(p)`, and d where there is none
  pub first_find : (d : A) (xs : List A) → first_by p d xs ≡ unwrap_or (find p xs) d
  unfolding first_by
  first_find d [] = refl
  first_find d (x ∷ xs) = split (p x) (λ t. rw (t, first_by)) (λ t. rw (t, first_by) (first_find d xs))

module _ {A : Type 0} (f : A → ℕ) where
  min_cons : (m k : ℕ) (xs : List A) → min k (fold (λ m x. min m (f x)) m xs) ≡ fold (λ m x. min m (f x)) (min m k) xs
  min_cons m k [] = omega arith
  min_cons m k (y ∷ ys) =
      let e : min (min m (f y)) k ≡ min (min m k) (f y) = omega arith in
      min_cons (min m (f y)) k ys ∙ ap (λ n. fold (λ m x. min m (f x)) n ys) e

  -- `xs.iter().fold(m, |m, x| m.min(f(x)))`
  pub least_fold : (m : ℕ) (xs : List A) → least_by f m xs ≡ fold (λ m x. min m (f x)) m xs
  unfolding least_by
  least_fold m [] = refl
  least_fold m (x ∷ xs) = ap (min (f x)) (least_fold m xs) ∙ min_cons m (f x) xs

  -- `xs.iter().fold(m, |m, x| m.max(f(x)))`, an element at a time: the greatest so far may be taken last
  pub greatest_fold : (m k : ℕ) (xs : List A) → fold (λ m x. max m (f x)) (max m k) xs ≡ max k (fold (λ m x. max m (f x)) m xs)
  greatest_fold m k [] = omega arith
  greatest_fold m k (y ∷ ys) =
      let e : max (max m k) (f y) ≡ max (max m (f y)) k = omega arith in
      ap (λ n. fold (λ m x. max m (f x)) n ys) e ∙ greatest_fold (max m (f y)) k ys
