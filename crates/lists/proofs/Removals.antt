-- Laws of swap removal: what goes, what stays, and how many.
-- Assumes nothing.
use mathlib.Core.Path.{◌≡◌, refl, ap}
use mathlib.Core.Bool.{Bool, true, false, ◌||◌}
use mathlib.Core.List.{List, [], ◌∷◌}
use mathlib.Core.Logic.{⊎_elim}
use Prim.Native.Nat.{ℕ, zero, suc, ◌+◌, ◌≤◌}
use native.Mathlib.Omega.{arith}
use native.Mathlib.Nat.{le_of_suc-le-suc, not-suc-le-zero, le_refl}
use lib.ListN.{length}
use Rattle.lists.specs.Search.{one, some, count}
use Rattle.lists.specs.Removal.{last_of, init_of, refilled, sweep_for, sweep}
use Rattle.lists.proofs.Bools.{split, clash, or_either, or_left, or_right}

module _ {A : Type 0} where
  -- a hole that the last element fills loses none
  pub length_refilled : (l : List A) → length (refilled l) ≡ length l
  unfolding refilled init_of
  length_refilled [] = refl
  length_refilled (x ∷ []) = refl
  length_refilled (x ∷ y ∷ ys) = ap suc (length_refilled (y ∷ ys))

  count_last : (p : A → Bool) (x : A) (l : List A) → one (p (last_of x l)) + count p (init_of x l) ≡ one (p x) + count p l
  unfolding last_of init_of count
  count_last p x [] = refl
  count_last p x (y ∷ ys) = omega (arith, count_last p y ys)

  pub count_refilled : (p : A → Bool) (l : List A) → count p (refilled l) ≡ count p l
  unfolding refilled count
  count_refilled p [] = refl
  count_refilled p (x ∷ xs) = count_last p x xs

  some_last : (p : A → Bool) (x : A) (l : List A) → some p (x ∷ l) ≡ true → some p (last_of x l ∷ init_of x l) ≡ true
  unfolding some last_of init_of
  some_last p x [] h = h
  some_last p x (y ∷ ys) h =
      ⊎_elim
      (λ e. or_right (p (last_of y ys)) (or_left (some p (init_of y ys)) e))
      (λ e. ⊎_elim
      (λ f. or_left (p x || some p (init_of y ys)) f)
      (λ f. or_right (p (last_of y ys)) (or_right (p x) f))
      (or_either (p (last_of y ys)) (some p (init_of y ys)) (some_last p y ys e)))
      (or_either (p x) (some p (y ∷ ys)) h)

  first_some : (p : A → Bool) (x : A) (l : List A) → some p (last_of x l ∷ init_of x l) ≡ true → some p (x ∷ l) ≡ true
  unfolding some last_of init_of
  first_some p x [] h = h
  first_some p x (y ∷ ys) h =
      ⊎_elim
      (λ e. or_right (p x) (first_some p y ys (or_left (some p (init_of y ys)) e)))
      (λ e. ⊎_elim
      (λ f. or_left (some p (y ∷ ys)) f)
      (λ f. or_right (p x) (first_some p y ys (or_right (p (last_of y ys)) f)))
      (or_either (p x) (some p (init_of y ys)) e))
      (or_either (p (last_of y ys)) (p x || some p (init_of y ys)) h)

  some_refilled : (p : A → Bool) (l : List A) → some p l ≡ true → some p (refilled l) ≡ true
  unfolding refilled
  some_refilled p [] h = h
  some_refilled p (x ∷ xs) h = some_last p x xs h

  refilled_some : (p : A → Bool) (l : List A) → some p (refilled l) ≡ true → some p l ≡ true
  unfolding refilled
  refilled_some p [] h = h
  refilled_some p (x ∷ xs) h = first_some p x xs h

  -- what goes and what stays together are what there was
  length_swept_for : (n : ℕ) (p : A → Bool) (l : List A) → length l ≤ n → length (sweep_for n p l) + count p l ≡ length l
  unfolding sweep_for count
  length_swept_for zero p [] h = refl
  length_swept_for zero p (x ∷ xs) h = absurd (not-suc-le-zero h)
  length_swept_for (suc n) p [] h = refl
  length_swept_for (suc n) p (x ∷ xs) h =
      let k : length xs ≤ n = le_of_suc-le-suc h in
      split (p x)
      (λ t. rw (t, sweep_for)
      (let r = length_swept_for n p (refilled xs) (omega (arith, length_refilled xs)) in
      omega (arith, length_refilled xs, count_refilled p xs)))
      (λ t. rw (t, sweep_for) (omega (arith, length_swept_for n p xs k)))

  pub length_swept : (p : A → Bool) (l : List A) → length (sweep p l) + count p l ≡ length l
  unfolding sweep
  length_swept p l = length_swept_for (length l) p l (le_refl (length l))

  -- what p does not hold of stays
  stays_for : (n : ℕ) (p q : A → Bool) (l : List A) → ((x : A) → q x ≡ true → p x ≡ false) → some q l ≡ true
      → some q (sweep_for n p l) ≡ true
  unfolding sweep_for some
  stays_for zero p q l f h = h
  stays_for (suc n) p q [] f h = h
  stays_for (suc n) p q (x ∷ xs) f h =
      split (p x)
      (λ t. rw (t, sweep_for)
      (stays_for n p q (refilled xs) f
      (some_refilled q xs (⊎_elim (λ e. absurd (clash t (f x e))) (λ e. e) (or_either (q x) (some q xs) h)))))
      (λ t. rw (t, sweep_for)
      (⊎_elim (λ e. or_left (some q (sweep_for n p xs)) e) (λ e. or_right (q x) (stays_for n p q xs f e)) (or_either (q x) (some q xs) h)))

  pub stays : (p q : A → Bool) (l : List A) → ((x : A) → q x ≡ true → p x ≡ false) → some q l ≡ true → some q (sweep p l) ≡ true
  unfolding sweep
  stays p q l f h = stays_for (length l) p q l f h

  -- nothing comes that was not there
  was_there_for : (n : ℕ) (p q : A → Bool) (l : List A) → some q (sweep_for n p l) ≡ true → some q l ≡ true
  unfolding sweep_for some
  was_there_for zero p q l h = h
  was_there_for (suc n) p q [] h = h
  was_there_for (suc n) p q (x ∷ xs) h =
      split (p x)
      (λ t. or_right (q x) (refilled_some q xs (was_there_for n p q (refilled xs) (rw (t, sweep_for) at h))))
      (λ t. ⊎_elim
      (λ e. or_left (some q xs) e)
      (λ e. or_right (q x) (was_there_for n p q xs e))
      (or_either (q x) (some q (sweep_for n p xs)) (rw (t, sweep_for) at h)))

  pub was_there : (p q : A → Bool) (l : List A) → some q (sweep p l) ≡ true → some q l ≡ true
  unfolding sweep
  was_there p q l h = was_there_for (length l) p q l h

  -- and nothing that p holds of is left
  gone_for : (n : ℕ) (p : A → Bool) (l : List A) → length l ≤ n → some p (sweep_for n p l) ≡ false
  unfolding sweep_for some
  gone_for zero p [] h = refl
  gone_for zero p (x ∷ xs) h = absurd (not-suc-le-zero h)
  gone_for (suc n) p [] h = refl
  gone_for (suc n) p (x ∷ xs) h =
      let k : length xs ≤ n = le_of_suc-le-suc h in
      split (p x)
      (λ t. rw (t, sweep_for) (gone_for n p (refilled xs) (omega (arith, length_refilled xs))))
      (λ t. rw (t, sweep_for) (rw (t) (gone_for n p xs k)))

  pub gone : (p : A → Bool) (l : List A) → some p (sweep p l) ≡ false
  unfolding sweep
  gone p l = gone_for (length l) p l (le_refl (length l))
