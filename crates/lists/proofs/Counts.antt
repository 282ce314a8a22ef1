-- Laws of counting: what a removal, a change and a joining do to the number of elements that a test holds of.
-- Assumes nothing.
use mathlib.Core.Path.{◌≡◌, refl, sym, ◌∙◌}
use mathlib.Core.Logic.{⊎_elim}
use mathlib.Core.Bool.{Bool, true, false, not, ◌&&◌, ◌||◌, and-true, and-false}
use mathlib.Core.List.{List, [], ◌∷◌, ◌++◌}
use Prim.Native.Nat.{ℕ, zero, suc, ◌+◌, ◌≤◌, ◌<◌}
use native.Mathlib.Omega.{arith}
use native.Mathlib.Nat.{le_refl, le_of_suc-le-suc, not-suc-le-zero}
use borrow.Author.Tests.{lt-ltb, ltb-true, ltb-false, not-true}
use lib.ListN.{length}
use Rattle.lists.specs.Search.{one, some, count, change_first, first_by}
use Rattle.lists.specs.Removal.{refilled, sweep_for, sweep, take_out, take_out_newest}
use Rattle.lists.proofs.Bools.{split, clash, and_both}
use Rattle.lists.proofs.Searches.{some_weaken, some_by, some_counted}
use Rattle.lists.proofs.Removals.{length_refilled, count_refilled}

-- ---- 1 for yes, 0 for no

pub one_yes : {b : Bool} → b ≡ true → one b ≡ 1
one_yes e = rw e

pub one_no : {b : Bool} → b ≡ false → one b ≡ 0
one_no e = rw e

pub none_one : (b : Bool) → one b ≡ 0 → b ≡ false
none_one true e = absurd (omega arith)
none_one false e = refl

pub one_most : (b : Bool) → one b ≤ 1
one_most true = omega arith
one_most false = omega arith

one_both : (a b : Bool) → one (a && b) ≤ one a
one_both true b = one_most b
one_both false b = omega arith

module _ {A : Type 0} where
  -- ---- with no element, and with one more in front

  pub count_nil : (p : A → Bool) → count p [] ≡ 0
  unfolding count
  count_nil p = refl

  pub count_cons : (p : A → Bool) (x : A) (l : List A) → count p (x ∷ l) ≡ one (p x) + count p l
  unfolding count
  count_cons p x l = refl

  pub some_nil : (p : A → Bool) → some p [] ≡ false
  unfolding some
  some_nil p = refl

  pub some_cons : (p : A → Bool) (x : A) (l : List A) → some p (x ∷ l) ≡ (p x || some p l)
  unfolding some
  some_cons p x l = refl

  -- where p holds of the one in front, that is the first, and the newest
  pub in_front : (p : A → Bool) (d x : A) (l : List A) → p x ≡ true → first_by p d (x ∷ l) ≡ x
  unfolding first_by
  in_front p d x l h = rw (h, first_by)

  pub newest_out : (p : A → Bool) (x : A) (l : List A) → p x ≡ true → take_out_newest p (x ∷ l) ≡ l
  unfolding take_out_newest
  newest_out p x l h = rw (h, take_out_newest)

  -- ---- counting

  -- where every element counts, the count is the length
  pub count_every : (l : List A) → count (λ x. true) l ≡ length l
  unfolding count
  count_every [] = refl
  count_every (x ∷ xs) = omega (arith, count_every xs)

  pub count_append : (p : A → Bool) (l m : List A) → count p (l ++ m) ≡ count p l + count p m
  unfolding count
  count_append p [] m = omega arith
  count_append p (x ∷ xs) m = omega (arith, count_append p xs m)

  -- one more at the end
  pub count_end : (p : A → Bool) (l : List A) (x : A) → count p (l ++ (x ∷ [])) ≡ count p l + one (p x)
  unfolding count
  count_end p l x = omega (arith, count_append p l (x ∷ []))

  -- there is one where the count is not 0
  pub count_some : (p : A → Bool) (l : List A) → some p l ≡ true → 1 ≤ count p l
  count_some p l h = ltb-true 0 (count p l) (sym (some_counted p l) ∙ h)

  pub some_count : (p : A → Bool) (l : List A) → 1 ≤ count p l → some p l ≡ true
  some_count p l h = some_counted p l ∙ lt-ltb 0 (count p l) h

  pub count_none : (p : A → Bool) (l : List A) → some p l ≡ false → count p l ≡ 0
  count_none p l h = omega (arith, ltb-false 0 (count p l) (sym (some_counted p l) ∙ h))

  pub none_count : (p : A → Bool) (l : List A) → count p l ≡ 0 → some p l ≡ false
  none_count p l h = some_counted p l ∙ rw h

  pub some_long : (p : A → Bool) (l : List A) → some p l ≡ true → 0 < length l
  some_long p [] h = absurd (clash h (some_nil p))
  some_long p (x ∷ xs) h = omega arith

  -- one that p holds of and q does not is one that r holds of
  pub some_rest : (p q r : A → Bool) (l : List A) → ((x : A) → p x ≡ true → q x ≡ false → r x ≡ true) → some p l ≡ true → count q l ≡ 0
      → some r l ≡ true
  some_rest p q r l f h none =
      ⊎_elim
      (λ e. absurd (clash (some_weaken (λ x. p x && q x) q l (λ x t. (and_both (p x) (q x) t).1) e) (none_count q l none)))
      (λ e. some_weaken (λ x. p x && not (q x)) r l (λ x t. let w = and_both (p x) (not (q x)) t in f x w.0 (not-true (q x) w.1)) e)
      (some_by p q l h)

  -- of those that p holds of, no more meet q too
  pub both_fewer : (p q : A → Bool) (l : List A) → count (λ z. p z && q z) l ≤ count p l
  unfolding count
  both_fewer p q [] = omega arith
  both_fewer p q (z ∷ zs) = omega (arith, both_fewer p q zs, one_both (p z) (q z))

  -- ---- the first one that q holds of

  pub first_meets : (q : A → Bool) (d : A) (l : List A) → some q l ≡ true → q (first_by q d l) ≡ true
  unfolding some first_by
  first_meets q d [] h = absurd (clash h refl)
  first_meets q d (x ∷ xs) h = split (q x) (λ t. rw (t, first_by) t) (λ t. rw (t, first_by) (first_meets q d xs (rw t at h)))

  -- changed, it counts for what it has become
  pub count_changed : (p q : A → Bool) (f : A → A) (d : A) (l : List A) → some q l ≡ true
      → count p (change_first q f l) + one (p (first_by q d l)) ≡ count p l + one (p (f (first_by q d l)))
  unfolding some first_by change_first count
  count_changed p q f d [] h = absurd (clash h refl)
  count_changed p q f d (x ∷ xs) h =
      split (q x)
      (λ t. rw (t, first_by, change_first) (omega arith))
      (λ t. let r = count_changed p q f d xs (rw t at h) in rw (t, first_by, change_first) (omega arith))

  -- taken out, it counts no longer
  pub count_taken : (p q : A → Bool) (d : A) (l : List A) → some q l ≡ true → count p (take_out q l) + one (p (first_by q d l)) ≡ count p l
  unfolding some first_by take_out count
  count_taken p q d [] h = absurd (clash h refl)
  count_taken p q d (x ∷ xs) h =
      split (q x)
      (λ t. rw (t, first_by, take_out) (omega (arith, count_refilled p xs)))
      (λ t. let r = count_taken p q d xs (rw t at h) in rw (t, first_by, take_out) (omega arith))

  pub count_taken_newest : (p q : A → Bool) (d : A) (l : List A) → some q l ≡ true
      → count p (take_out_newest q l) + one (p (first_by q d l)) ≡ count p l
  unfolding some first_by take_out_newest count
  count_taken_newest p q d [] h = absurd (clash h refl)
  count_taken_newest p q d (x ∷ xs) h =
      split (q x)
      (λ t. rw (t, first_by, take_out_newest) (omega arith))
      (λ t. let r = count_changed p q (λ y. x) d xs (rw t at h) in rw (t, first_by, take_out_newest) (omega arith))

  -- ---- all that p holds of removed

  count_swept_for : (n : ℕ) (q p : A → Bool) (l : List A) → length l ≤ n
      → count q (sweep_for n p l) + count (λ x. q x && p x) l ≡ count q l
  unfolding sweep_for count
  count_swept_for zero q p [] h = refl
  count_swept_for zero q p (x ∷ xs) h = absurd (not-suc-le-zero h)
  count_swept_for (suc n) q p [] h = refl
  count_swept_for (suc n) q p (x ∷ xs) h =
      let k : length xs ≤ n = le_of_suc-le-suc h in
      split (p x)
      (λ t. let r = count_swept_for n q p (refilled xs) (omega (arith, length_refilled xs)) in
      rw (t, sweep_for, and-true (q x)) (omega (arith, count_refilled q xs, count_refilled (λ x. q x && p x) xs)))
      (λ t. let r = count_swept_for n q p xs k in rw (t, sweep_for, and-false (q x)) (omega arith))

  -- of those that q holds of, the ones that p holds of too go
  pub count_swept : (q p : A → Bool) (l : List A) → count q (sweep p l) + count (λ x. q x && p x) l ≡ count q l
  unfolding sweep
  count_swept q p l = count_swept_for (length l) q p l (le_refl (length l))
