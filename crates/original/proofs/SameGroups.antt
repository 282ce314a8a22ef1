-- A fold: the largest group that the Rust finds is the candidate of document 01 that covers most, and the loop that collapses it is a sweep
-- that keeps the greatest identity.
-- Assumes nothing.
use Rattle.std.specs.Prelude.{Option, Some, None, slice_get}
use mathlib.Core.Path.{◌≡◌, refl, sym, ap, ◌∙◌}
use mathlib.Core.Bool.{Bool, true, false, cond}
use mathlib.Core.List.{List, [], ◌∷◌}
use Prim.Native.Nat.{ℕ, zero, suc, ◌≤◌, ◌<◌, max}
use native.Mathlib.Omega.{arith}
use native.Mathlib.Nat.{le_refl}
use borrow.Author.Tests.{ltb-true, ltb-false, lt-ltb, le-ltb}
use lib.Dec.{ltb}
use lib.ListN.{length}
use Rattle.lists.specs.Search.{count}
use Rattle.lists.specs.Removal.{last_of, init_of, refilled, sweep_for, sweep}
use Rattle.lists.proofs.Bools.{split}
use Rattle.lists.proofs.Removals.{length_refilled}
use Rattle.entries.specs.declared.ChangedAttr.{ChangedAttr}
use Rattle.entries.specs.declared.Level.{Level}
use Rattle.entries.specs.Paths.{blank, under, candidate}
use Rattle.notes.specs.declared.Group.{Group}
use Rattle.notes.specs.Notes.{sized, largest_from, largest, newest, folded}
use Rattle.notes.proofs.Cases.{folded_is, newest_nil, newest_cons, largest_is, largest_over, largest_more}
use Rattle.original.specs.Std.{swap_remove}
use Rattle.original.specs.Entries.{covers, coarsen}
use Rattle.original.specs.Log.{best_pivot, collapse, coarsened_by, promoted, promote_largest_group}
use Rattle.original.proofs.Vectors.{swap_first, swap_later}
use Rattle.original.proofs.SameEntries.{under_same, number, coarsen_same}

-- ---- the loop that collapses a group

module _ (by : ChangedAttr) where
  -- behind one that stays
  abbrev behind : ChangedAttr → ℕ × List ChangedAttr → ℕ × List ChangedAttr
  behind x r = (r.0, x ∷ r.1)

  -- the greater of the two, as the loop keeps it
  abbrev greater : ℕ → ChangedAttr → ℕ
  greater m x = cond (ltb m x.identity) x.identity m

  collapse_past : (n i m : ℕ) (l : List ChangedAttr) → slice_get l i ≡ None → collapse n by i m l ≡ (m, l)
  unfolding collapse
  collapse_past zero i m l e = refl
  collapse_past (suc n) i m l e = rw (e, collapse)

  collapse_out : (n i m : ℕ) (l : List ChangedAttr) {x : ChangedAttr} → slice_get l i ≡ Some x → covers by x ≡ true
      → collapse (suc n) by i m l ≡ collapse n by i (greater m x) (swap_remove i l)
  unfolding collapse
  collapse_out n i m l e t = rw (e, collapse) (rw t)

  collapse_stays : (n i m : ℕ) (l : List ChangedAttr) {x : ChangedAttr} → slice_get l i ≡ Some x → covers by x ≡ false
      → collapse (suc n) by i m l ≡ collapse n by (suc i) m l
  unfolding collapse
  collapse_stays n i m l e t = rw (e, collapse) (rw t)

  collapse_later : (n i m : ℕ) (x : ChangedAttr) (l : List ChangedAttr) → collapse n by (suc i) m (x ∷ l) ≡ behind x (collapse n by i m l)
  unfolding collapse
  collapse_later zero i m x l = refl
  collapse_later (suc n) i m x [] = refl
  collapse_later (suc n) i m x (y ∷ ys) = go (slice_get (y ∷ ys) i) refl (collapse_later n)
    where
      go : (o : Option ChangedAttr) → slice_get (y ∷ ys) i ≡ o
          → ((i m : ℕ) (x : ChangedAttr) (l : List ChangedAttr) → collapse n by (suc i) m (x ∷ l) ≡ behind x (collapse n by i m l))
          → collapse (suc n) by (suc i) m (x ∷ y ∷ ys) ≡ behind x (collapse (suc n) by i m (y ∷ ys))
      go None e ih = rw (collapse_past (suc n) (suc i) m (x ∷ y ∷ ys) e, collapse_past (suc n) i m (y ∷ ys) e)
      go (Some z) e ih =
          split (covers by z)
          (λ t. collapse_out n (suc i) m (x ∷ y ∷ ys) e t
          ∙ ap (collapse n by (suc i) (greater m z)) (swap_later i x y ys)
          ∙ ih i (greater m z) x (swap_remove i (y ∷ ys))
          ∙ ap (behind x) (sym (collapse_out n i m (y ∷ ys) e t)))
          (λ t. collapse_stays n (suc i) m (x ∷ y ∷ ys) e t
          ∙ ih (suc i) m x (y ∷ ys)
          ∙ ap (behind x) (sym (collapse_stays n i m (y ∷ ys) e t)))

  -- the greatest identity does not depend on the order
  newest_last : (x : ChangedAttr) (l : List ChangedAttr)
      → max (cond (under by (last_of x l)) (last_of x l).identity 0) (newest (under by) (init_of x l))
      ≡ max (cond (under by x) x.identity 0) (newest (under by) l)
  unfolding last_of init_of
  newest_last x [] = refl
  newest_last x (y ∷ ys) =
      let r = newest_last y ys in
      rw (newest_cons (under by) x (init_of y ys), newest_cons (under by) y ys) (omega arith)

  newest_refilled : (l : List ChangedAttr) → newest (under by) (refilled l) ≡ newest (under by) l
  unfolding refilled
  newest_refilled [] = refl
  newest_refilled (x ∷ xs) =
      newest_cons (under by) (last_of x xs) (init_of x xs) ∙ newest_last x xs ∙ sym (newest_cons (under by) x xs)

  greater_is : (m : ℕ) (x : ChangedAttr) → greater m x ≡ max m x.identity
  greater_is m x =
      split (ltb m x.identity)
      (λ t. rw t (omega (arith, ltb-true m x.identity t)))
      (λ t. rw t (omega (arith, ltb-false m x.identity t)))

  collapse_for : (n m : ℕ) (l : List ChangedAttr) → length l ≤ n
      → collapse n by 0 m l ≡ (max m (newest (under by) l), sweep_for n (under by) l)
  unfolding collapse sweep_for
  collapse_for zero m [] h = let e : m ≡ max m (newest (under by) []) = omega (arith, newest_nil (under by)) in ap (λ k. (k, [])) e
  collapse_for zero m (x ∷ xs) h = absurd (omega arith)
  collapse_for (suc n) m [] h = let e : m ≡ max m (newest (under by) []) = omega (arith, newest_nil (under by)) in ap (λ k. (k, [])) e
  collapse_for (suc n) m (x ∷ xs) h =
      let same = ap (λ p. p x) (under_same by) in
      let k : length xs ≤ n = omega arith in
      split (under by x)
      (λ t. collapse_out n 0 m (x ∷ xs) refl (same ∙ t)
      ∙ ap (collapse n by 0 (greater m x)) (swap_first x xs)
      ∙ collapse_for n (greater m x) (refilled xs) (omega (arith, length_refilled xs))
      ∙ rw (newest_cons (under by) x xs, t, sweep_for)
      (let e : max (greater m x) (newest (under by) (refilled xs)) ≡ max m (max x.identity (newest (under by) xs)) =
      omega (arith, greater_is m x, newest_refilled xs) in
      ap (λ k. (k, sweep_for n (under by) (refilled xs))) e))
      (λ t. collapse_stays n 0 m (x ∷ xs) refl (same ∙ t)
      ∙ collapse_later n 0 m x xs
      ∙ ap (behind x) (collapse_for n m xs k)
      ∙ rw (newest_cons (under by) x xs, t, sweep_for)
      (let e : max m (newest (under by) xs) ≡ max m (max 0 (newest (under by) xs)) = omega arith in
      ap (λ k. (k, x ∷ sweep_for n (under by) xs)) e))

  -- the covered entries go, and the greatest identity of them is kept
  collapse_is : (l : List ChangedAttr) → collapse (length l) by 0 0 l ≡ (newest (under by) l, sweep (under by) l)
  unfolding sweep
  collapse_is l =
      let e : max 0 (newest (under by) l) ≡ newest (under by) l = omega arith in
      collapse_for (length l) 0 l (le_refl (length l)) ∙ ap (λ k. (k, sweep_for (length l) (under by) l)) e

-- ---- the largest group

module _ (level : Level) (l : List ChangedAttr) where
  -- the best pivot so far, coarsened, is the best candidate so far; none is a candidate of size 1
  abbrev Agrees : ℕ → Option ChangedAttr → Group → Type 0
  Agrees c None best = (best.size ≡ c) × (c ≡ 1)
  Agrees c (Some pivot) best = (best.size ≡ c) × ((1 < c) × (coarsen (number level) pivot ≡ Some best.by))

  at_least : (c : ℕ) (b : Option ChangedAttr) (best : Group) → Agrees c b best → 1 ≤ c
  at_least c None best h = omega (arith, h.1)
  at_least c (Some pivot) best h = omega (arith, h.1.0)

  same_size : (c : ℕ) (b : Option ChangedAttr) (best : Group) → Agrees c b best → best.size ≡ c
  same_size c None best h = h.0
  same_size c (Some pivot) best h = h.0

  pivot_is : (rest : List ChangedAttr) (c : ℕ) (b : Option ChangedAttr) (best : Group) → Agrees c b best
      → coarsened_by (number level) (best_pivot (number level) l rest c b)
      ≡ cond (ltb 1 (largest_from level l best rest).size) (Some (largest_from level l best rest).by) None
  unfolding best_pivot
  pivot_is [] c None best h = rw (largest_over level l best, h.0, h.1)
  pivot_is [] c (Some pivot) best h = rw (largest_over level l best, h.0, lt-ltb 1 c h.1.0) h.1.1
  pivot_is (x ∷ rest) c b best h =
      rw (largest_more level l best x rest) (go (candidate level x) (coarsen_same level x) (pivot_is rest))
    where
      go : (k : Option ChangedAttr) → coarsen (number level) x ≡ k
          → ((c : ℕ) (b : Option ChangedAttr) (best : Group) → Agrees c b best
          → coarsened_by (number level) (best_pivot (number level) l rest c b)
          ≡ cond (ltb 1 (largest_from level l best rest).size) (Some (largest_from level l best rest).by) None)
          → coarsened_by (number level) (best_pivot (number level) l (x ∷ rest) c b)
          ≡ cond (ltb 1 (largest_from level l (cond (ltb best.size (sized l k).size) (sized l k) best) rest).size)
          (Some (largest_from level l (cond (ltb best.size (sized l k).size) (sized l k) best) rest).by) None
      go None e ih = rw (e, le-ltb c 0 (omega arith), le-ltb best.size 0 (omega arith), best_pivot) (ih c b best h)
      go (Some by) e ih =
          let size = ap (λ p. count p l) (under_same by) in
          let best-size = ap (λ n. ltb n (count (under by) l)) (same_size c b best h) in
          split (ltb c (count (under by) l))
          (λ t. rw (e, size, t, best-size ∙ t, best_pivot)
          (rw (e, size)
          (ih (count (under by) l) (Some x) (sized l (Some by))
          (refl, (omega (arith, at_least c b best h, ltb-true c (count (under by) l) t), e)))))
          (λ t. rw (e, size, t, best-size ∙ t, best_pivot) (ih c b best h))

  -- one fold: the group goes and its candidate comes to the end, or there is none
  pub group_is : promote_largest_group (number level) l ≡ cond (ltb 1 (largest level l).size) (Some (folded (largest level l).by l)) None
  unfolding promote_largest_group
  group_is =
      rw (pivot_is l 1 None (record { by = blank; size = 1 }) (refl, refl), ← largest_is level l)
      (go (ltb 1 (largest level l).size) (largest level l).by)
    where
      go : (b : Bool) (by : ChangedAttr) → promoted (cond b (Some by) None) l ≡ cond b (Some (folded by l)) None
      go true by = rw (collapse_is by l, folded_is by l)
      go false by = refl
