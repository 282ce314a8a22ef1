-- Laws of searching and swap removal in a list of which every element was changed by one function: the search is by the test of the change.
-- Assumes nothing.
use mathlib.Core.Path.{◌≡◌, refl, ap, ◌∙◌}
use mathlib.Core.Bool.{Bool, ◌||◌}
use mathlib.Core.List.{List, [], ◌∷◌, map}
use Prim.Native.Nat.{ℕ, zero, suc, ◌+◌}
use lib.Dec.{eqb}
use lib.ListN.{length, length-map}
use Rattle.lists.specs.Search.{one, some, count, change_first, first_by, distinct}
use Rattle.lists.specs.Removal.{last_of, init_of, refilled, sweep_for, sweep, take_out, take_out_newest}
use Rattle.lists.proofs.Bools.{split}

module _ {A B : Type 0} (f : A → B) where
  -- ---- searching

  pub some_map : (p : B → Bool) (l : List A) → some p (map f l) ≡ some (λ x. p (f x)) l
  unfolding some
  some_map p [] = refl
  some_map p (x ∷ xs) = ap (λ b. p (f x) || b) (some_map p xs)

  pub count_map : (p : B → Bool) (l : List A) → count p (map f l) ≡ count (λ x. p (f x)) l
  unfolding count
  count_map p [] = refl
  count_map p (x ∷ xs) = ap (λ n. one (p (f x)) + n) (count_map p xs)

  -- numbers taken off the elements first, or on the way
  pub distinct_map : (g : B → ℕ) (l : List A) → distinct g (map f l) ≡ distinct (λ x. g (f x)) l
  unfolding distinct
  distinct_map g [] = refl
  distinct_map g (x ∷ xs) = rw (some_map (λ n. eqb (g (f x)) (g n)) xs, distinct_map g xs)

  pub first_map : (p : B → Bool) (d : A) (l : List A) → first_by p (f d) (map f l) ≡ f (first_by (λ x. p (f x)) d l)
  unfolding first_by
  first_map p d [] = refl
  first_map p d (x ∷ xs) = split (p (f x)) (λ t. rw (t, first_by)) (λ t. rw (t, first_by) (first_map p d xs))

  -- ---- swap removal

  last_map : (x : A) (l : List A) → last_of (f x) (map f l) ≡ f (last_of x l)
  unfolding last_of
  last_map x [] = refl
  last_map x (y ∷ ys) = last_map y ys

  init_map : (x : A) (l : List A) → init_of (f x) (map f l) ≡ map f (init_of x l)
  unfolding init_of
  init_map x [] = refl
  init_map x (y ∷ ys) = ap (λ l. f x ∷ l) (init_map y ys)

  refilled_map : (l : List A) → refilled (map f l) ≡ map f (refilled l)
  unfolding refilled
  refilled_map [] = refl
  refilled_map (x ∷ xs) = rw (last_map x xs, init_map x xs)

  sweep_for_map : (n : ℕ) (p : B → Bool) (l : List A) → sweep_for n p (map f l) ≡ map f (sweep_for n (λ x. p (f x)) l)
  unfolding sweep_for
  sweep_for_map zero p l = refl
  sweep_for_map (suc n) p [] = refl
  sweep_for_map (suc n) p (x ∷ xs) =
      split (p (f x))
      (λ t. rw (t, sweep_for) (ap (sweep_for n p) (refilled_map xs) ∙ sweep_for_map n p (refilled xs)))
      (λ t. rw (t, sweep_for) (ap (λ l. f x ∷ l) (sweep_for_map n p xs)))

  pub sweep_map : (p : B → Bool) (l : List A) → sweep p (map f l) ≡ map f (sweep (λ x. p (f x)) l)
  unfolding sweep
  sweep_map p l = ap (λ n. sweep_for n p (map f l)) (length-map l f) ∙ sweep_for_map (length l) p l

  pub taken_map : (p : B → Bool) (l : List A) → take_out p (map f l) ≡ map f (take_out (λ x. p (f x)) l)
  unfolding take_out
  taken_map p [] = refl
  taken_map p (x ∷ xs) =
      split (p (f x)) (λ t. rw (t, take_out) (refilled_map xs)) (λ t. rw (t, take_out) (ap (λ l. f x ∷ l) (taken_map p xs)))

  changed_map : (p : B → Bool) (z : A) (l : List A)
      → change_first p (λ y. f z) (map f l) ≡ map f (change_first (λ x. p (f x)) (λ y. z) l)
  unfolding change_first
  changed_map p z [] = refl
  changed_map p z (x ∷ xs) =
      split (p (f x)) (λ t. rw (t, change_first)) (λ t. rw (t, change_first) (ap (λ l. f x ∷ l) (changed_map p z xs)))

  pub newest_taken_map : (p : B → Bool) (l : List A) → take_out_newest p (map f l) ≡ map f (take_out_newest (λ x. p (f x)) l)
  unfolding take_out_newest
  newest_taken_map p [] = refl
  newest_taken_map p (x ∷ xs) =
      split (p (f x)) (λ t. rw (t, take_out_newest)) (λ t. rw (t, take_out_newest) (changed_map p x xs))
