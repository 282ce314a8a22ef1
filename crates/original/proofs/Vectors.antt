-- The Rust's ways with a vector against those of crate lists: a loop over an index with swap_remove is a sweep, position and find give the
-- first one that a test holds of.
-- Assumes nothing.
use Rattle.std.specs.Prelude.{Option, Some, None, slice_get}
use mathlib.Core.Path.{◌≡◌, refl, sym, ap, ◌∙◌}
use mathlib.Core.Bool.{Bool, true, false, cond}
use mathlib.Core.List.{List, [], ◌∷◌, map}
use Prim.Native.Nat.{ℕ, zero, suc, min}
use native.Mathlib.Omega.{arith}
use lib.ListN.{length, take, get_or}
use Rattle.lists.specs.Search.{some, change_first, first_by, least_by}
use Rattle.lists.specs.Removal.{last_of, init_of, refilled, sweep_for, sweep, take_out}
use Rattle.lists.proofs.Bools.{split}
use Rattle.lists.proofs.Numbers.{least_start}
use Rattle.original.specs.Std.{is_some, map_some, swap_remove, position, find, find_mut, remove_while, min_from}
use Rattle.original.specs.Table.{removed_at, swap_removed}

module _ {A : Type 0} where
  -- ---- swap_remove

  last_is : (x : A) (l : List A) (d : A) → get_or (x ∷ l) (length l) d ≡ last_of x l
  unfolding last_of
  last_is x [] d = refl
  last_is x (y ∷ ys) d = last_is y ys d

  init_is : (x : A) (l : List A) → take (length l) (x ∷ l) ≡ init_of x l
  unfolding init_of
  init_is x [] = refl
  init_is x (y ∷ ys) = ap (λ l. x ∷ l) (init_is y ys)

  -- of the first one
  pub swap_first : (x : A) (l : List A) → swap_remove 0 (x ∷ l) ≡ refilled l
  unfolding swap_remove refilled
  swap_first x [] = refl
  swap_first x (y ∷ ys) = rw (last_is y ys x, init_is y ys)

  -- of a later one: the first stays
  pub swap_later : (i : ℕ) (x y : A) (l : List A) → swap_remove (suc i) (x ∷ y ∷ l) ≡ x ∷ swap_remove i (y ∷ l)
  unfolding swap_remove
  swap_later i x y l = rw (last_is y l x, last_is y l y)

  -- ---- the loop over an index

  while_nil : (n : ℕ) (p : A → Bool) (i : ℕ) → remove_while n p i [] ≡ []
  unfolding remove_while
  while_nil zero p i = refl
  while_nil (suc n) p i = refl

  while_past : (n : ℕ) (p : A → Bool) (i : ℕ) (l : List A) → slice_get l i ≡ None → remove_while n p i l ≡ l
  unfolding remove_while
  while_past zero p i l e = refl
  while_past (suc n) p i l e = rw (e, remove_while)

  while_out : (n : ℕ) (p : A → Bool) (i : ℕ) (l : List A) {x : A} → slice_get l i ≡ Some x → p x ≡ true
      → remove_while (suc n) p i l ≡ remove_while n p i (swap_remove i l)
  unfolding remove_while
  while_out n p i l e t = rw (e, remove_while) (rw t)

  while_stays : (n : ℕ) (p : A → Bool) (i : ℕ) (l : List A) {x : A} → slice_get l i ≡ Some x → p x ≡ false
      → remove_while (suc n) p i l ≡ remove_while n p (suc i) l
  unfolding remove_while
  while_stays n p i l e t = rw (e, remove_while) (rw t)

  -- what stands before the index is left alone
  while_later : (n : ℕ) (p : A → Bool) (i : ℕ) (x : A) (l : List A) → remove_while n p (suc i) (x ∷ l) ≡ x ∷ remove_while n p i l
  unfolding remove_while
  while_later zero p i x l = refl
  while_later (suc n) p i x [] = refl
  while_later (suc n) p i x (y ∷ ys) = go (slice_get (y ∷ ys) i) refl (while_later n p)
    where
      go : (o : Option A) → slice_get (y ∷ ys) i ≡ o
          → ((i : ℕ) (x : A) (l : List A) → remove_while n p (suc i) (x ∷ l) ≡ x ∷ remove_while n p i l)
          → remove_while (suc n) p (suc i) (x ∷ y ∷ ys) ≡ x ∷ remove_while (suc n) p i (y ∷ ys)
      go None e ih = rw (while_past (suc n) p (suc i) (x ∷ y ∷ ys) e, while_past (suc n) p i (y ∷ ys) e)
      go (Some z) e ih =
          split (p z)
          (λ t. while_out n p (suc i) (x ∷ y ∷ ys) e t
          ∙ ap (remove_while n p (suc i)) (swap_later i x y ys)
          ∙ ih i x (swap_remove i (y ∷ ys))
          ∙ ap (λ l. x ∷ l) (sym (while_out n p i (y ∷ ys) e t)))
          (λ t. while_stays n p (suc i) (x ∷ y ∷ ys) e t
          ∙ ih (suc i) x (y ∷ ys)
          ∙ ap (λ l. x ∷ l) (sym (while_stays n p i (y ∷ ys) e t)))

  while_for : (n : ℕ) (p : A → Bool) (l : List A) → remove_while n p 0 l ≡ sweep_for n p l
  unfolding remove_while sweep_for
  while_for zero p l = refl
  while_for (suc n) p [] = refl
  while_for (suc n) p (x ∷ xs) =
      split (p x)
      (λ t. rw (t, sweep_for) (ap (remove_while n p 0) (swap_first x xs) ∙ while_for n p (refilled xs)))
      (λ t. rw (t, sweep_for) (while_later n p 0 x xs ∙ ap (λ l. x ∷ l) (while_for n p xs)))

  -- it is a sweep
  pub while_sweeps : (p : A → Bool) (l : List A) → remove_while (length l) p 0 l ≡ sweep p l
  unfolding sweep
  while_sweeps p l = while_for (length l) p l

  -- ---- position, and swap_remove of what it finds

  -- behind one that stays
  abbrev behind : A → A × List A → A × List A
  behind x r = (r.0, x ∷ r.1)

  removed_later : (x : A) (l : List A) (o : Option ℕ)
      → swap_removed (map_some suc o) (x ∷ l) ≡ map_some (behind x) (swap_removed o l)
  unfolding swap_remove
  removed_later x l None = refl
  removed_later x [] (Some i) = refl
  removed_later x (y ∷ ys) (Some i) = go (slice_get (y ∷ ys) i)
    where
      go : (o : Option A)
          → removed_at o (swap_remove (suc i) (x ∷ y ∷ ys)) ≡ map_some (behind x) (removed_at o (swap_remove i (y ∷ ys)))
      go None = refl
      go (Some z) = ap (λ l. Some (z, l)) (swap_later i x y ys)

  -- the first that the test holds of is taken out
  pub first_removed : (p : A → Bool) (d : A) (l : List A)
      → swap_removed (position p l) l ≡ cond (some p l) (Some (first_by p d l, take_out p l)) None
  unfolding position some first_by take_out
  first_removed p d [] = refl
  first_removed p d (x ∷ xs) =
      split (p x)
      (λ t. rw (t, first_by, take_out) (ap (λ l. Some (x, l)) (swap_first x xs)))
      (λ t. rw (t, first_by, take_out) (removed_later x xs (position p xs) ∙ ap (map_some (behind x)) (first_removed p d xs) ∙ go (some p xs)))
    where
      go : (b : Bool)
          → map_some (behind x) (cond b (Some (first_by p d xs, take_out p xs)) None)
          ≡ cond b (Some (first_by p d xs, x ∷ take_out p xs)) None
      go true = refl
      go false = refl

  pub position_some : (p : A → Bool) (l : List A) → is_some (position p l) ≡ some p l
  unfolding position some
  position_some p [] = refl
  position_some p (x ∷ xs) = split (p x) (λ t. rw t) (λ t. rw t (go (position p xs) ∙ position_some p xs))
    where
      go : (o : Option ℕ) → is_some (map_some suc o) ≡ is_some o
      go None = refl
      go (Some i) = refl

  -- ---- find

  pub found_is : (p : A → Bool) (d : A) (l : List A) → find p l ≡ cond (some p l) (Some (first_by p d l)) None
  unfolding find some first_by
  found_is p d [] = refl
  found_is p d (x ∷ xs) = split (p x) (λ t. rw (t, first_by)) (λ t. rw (t, first_by) (found_is p d xs))

  pub found_changed : (p : A → Bool) (f : A → A) (l : List A) → find_mut p f l ≡ cond (some p l) (Some (change_first p f l)) None
  unfolding find_mut some change_first
  found_changed p f [] = refl
  found_changed p f (x ∷ xs) =
      split (p x)
      (λ t. rw (t, change_first))
      (λ t. rw (t, change_first) (ap (map_some (λ l. x ∷ l)) (found_changed p f xs) ∙ go (some p xs)))
    where
      go : (b : Bool)
          → map_some (λ l. x ∷ l) (cond b (Some (change_first p f xs)) None) ≡ cond b (Some (x ∷ change_first p f xs)) None
      go true = refl
      go false = refl

module _ {A B : Type 0} where
  -- ---- the least

  pub least_is : (f : A → B) (g : B → ℕ) (m : ℕ) (l : List A) → min_from m (map g (map f l)) ≡ least_by (λ x. g (f x)) m l
  unfolding min_from least_by
  least_is f g m [] = refl
  least_is f g m (x ∷ xs) =
      let turn : min m (g (f x)) ≡ min (g (f x)) m = omega arith in
      least_is f g (min m (g (f x))) xs
      ∙ ap (λ k. least_by (λ y. g (f y)) k xs) turn
      ∙ sym (least_start (λ y. g (f y)) (g (f x)) m xs)
