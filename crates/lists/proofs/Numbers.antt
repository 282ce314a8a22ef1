-- Laws of the numbers that a function gives of a list's elements: that they are distinct, told by counts, and the least of them.
-- Assumes nothing.
use mathlib.Core.Path.{◌≡◌, refl, sym, ap, ◌∙◌}
use mathlib.Core.Bool.{Bool, true, false, not, ◌||◌, or_assoc}
use mathlib.Core.List.{List, [], ◌∷◌}
use Prim.Native.Nat.{ℕ, ◌≤◌, min}
use native.Mathlib.Omega.{arith}
use borrow.Author.Tests.{le-leb, leb-true, lt-leb, leb-false, eqb-true, eq-eqb, not-true}
use lib.Dec.{eqb, leb}
use Rattle.lists.specs.Search.{some, count, distinct, least_by}
use Rattle.lists.proofs.Bools.{split, and_both, not_so}
use Rattle.lists.proofs.Bools.{and_true as both_true}
use Rattle.lists.proofs.Searches.{some_weaken}
use Rattle.lists.proofs.Counts.{count_none, none_count, one_most, one_no, one_yes}

-- the lesser of two numbers is at most n where one of them is
leb_min : (a b n : ℕ) → leb (min a b) n ≡ (leb a n || leb b n)
leb_min a b n =
    split (leb a n)
    (λ t. rw t (le-leb (min a b) n (omega (arith, leb-true a n t))))
    (λ t. rw t
    (split (leb b n)
    (λ u. rw u (le-leb (min a b) n (omega (arith, leb-true b n u))))
    (λ u. rw u (lt-leb (min a b) n (omega (arith, leb-false a n t, leb-false b n u))))))

module _ {A : Type 0} where
  -- ---- distinct numbers: no number is given twice

  -- where p holds of none, nothing that it would hold of is counted
  pub none_counted : (p q : A → Bool) (l : List A) → ((x : A) → q x ≡ true → p x ≡ true) → some p l ≡ false → count q l ≡ 0
  none_counted p q l f h = count_none q l (not_so (some_weaken q p l f) h)

  pub distinct_counts : (f : A → ℕ) (l : List A) → distinct f l ≡ true → (j : ℕ) → count (λ x. eqb (f x) j) l ≤ 1
  unfolding distinct count
  distinct_counts f [] h j = omega arith
  distinct_counts f (x ∷ xs) h j =
      let w = and_both (not (some (λ y. eqb (f x) (f y)) xs)) (distinct f xs) h in
      let r = distinct_counts f xs w.1 j in
      let most = one_most (eqb (f x) j) in
      split (eqb (f x) j)
      (λ t. let others : count (λ y. eqb (f y) j) xs ≡ 0 =
      none_counted (λ y. eqb (f x) (f y)) (λ y. eqb (f y) j) xs
      (λ y e. eq-eqb (f x) (f y) (eqb-true (f x) j t ∙ sym (eqb-true (f y) j e))) (not-true _ w.0) in
      omega arith)
      (λ t. let no = one_no t in omega arith)

  pub counts_distinct : (f : A → ℕ) (l : List A) → ((j : ℕ) → count (λ x. eqb (f x) j) l ≤ 1) → distinct f l ≡ true
  unfolding distinct count
  counts_distinct f [] h = refl
  counts_distinct f (x ∷ xs) h =
      let here = one_yes (eq-eqb (f x) (f x) refl) in
      both_true
      (ap not
      (not_so
      (some_weaken (λ y. eqb (f x) (f y)) (λ y. eqb (f y) (f x)) xs (λ y e. eq-eqb (f y) (f x) (sym (eqb-true (f x) (f y) e))))
      (none_count (λ y. eqb (f y) (f x)) xs (omega (arith, h (f x))))))
      (counts_distinct f xs (λ j. omega (arith, h j)))

  -- ---- the least number

  pub some_same : (p q : A → Bool) (l : List A) → ((x : A) → p x ≡ q x) → some p l ≡ some q l
  unfolding some
  some_same p q [] f = refl
  some_same p q (x ∷ xs) f = rw (f x, some_same p q xs f)

  -- the least of some numbers and m is at most n where one of them is, or m
  pub least_most : (f : A → ℕ) (m n : ℕ) (l : List A) → leb (least_by f m l) n ≡ (some (λ x. leb (f x) n) l || leb m n)
  unfolding least_by some
  least_most f m n [] = refl
  least_most f m n (x ∷ xs) =
      leb_min (f x) (least_by f m xs) n
      ∙ ap (λ b. leb (f x) n || b) (least_most f m n xs)
      ∙ sym (or_assoc (leb (f x) n) (some (λ x. leb (f x) n) xs) (leb m n))

  -- a bound is never below the least
  pub least_bound : (f : A → ℕ) (m : ℕ) (l : List A) → least_by f m l ≤ m
  unfolding least_by
  least_bound f m [] = omega arith
  least_bound f m (x ∷ xs) = omega (arith, least_bound f m xs)

  -- a number more to begin with
  pub least_start : (f : A → ℕ) (m n : ℕ) (l : List A) → min m (least_by f n l) ≡ least_by f (min m n) l
  unfolding least_by
  least_start f m n [] = refl
  least_start f m n (x ∷ xs) =
      let e : min m (min (f x) (least_by f n xs)) ≡ min (f x) (min m (least_by f n xs)) = omega arith in
      e ∙ ap (min (f x)) (least_start f m n xs)

  -- a first element that is at most m stands in for m
  pub least_lower : (f : A → ℕ) (m : ℕ) (x : A) (xs : List A) → f x ≤ m → least_by f m (x ∷ xs) ≡ least_by f (f x) xs
  unfolding least_by
  least_lower f m x xs h =
      let e : min (f x) m ≡ f x = omega arith in
      least_start f (f x) m xs ∙ ap (λ k. least_by f k xs) e
