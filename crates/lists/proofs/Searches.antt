-- Laws of searching: what a search finds in a list that was put together, and the first one by its place.
-- Assumes nothing.
use mathlib.Core.Path.{◌≡◌, refl, sym, ap, ◌∙◌}
use mathlib.Core.Bool.{not, ◌&&◌, Bool, true, false, ◌||◌, or_assoc}
use mathlib.Core.List.{List, [], ◌∷◌, ◌++◌}
use mathlib.Core.Logic.{◌⊎◌, inl, inr, ⊎_elim}
use Prim.Native.Nat.{◌+◌, suc, ◌<◌}
use native.Mathlib.Omega.{arith}
use native.Mathlib.Nat.{le_of_suc-le-suc, not-suc-le-zero}
use borrow.Author.Tests.{le-ltb, lt-ltb}
use lib.Dec.{ltb, leb-suc-suc}
use lib.ListN.{length, get_or, set}
use Rattle.lists.specs.Search.{one, count, some, first, change_first}
use Rattle.lists.proofs.Bools.{and_true, clash, split, or_either, or_left, or_right}

module _ {A : Type 0} where
  -- there is one in two joined lists where there is one in either
  pub some_append : (p : A → Bool) (l m : List A) → some p (l ++ m) ≡ (some p l || some p m)
  unfolding some
  some_append p [] m = refl
  some_append p (x ∷ xs) m = ap (λ b. p x || b) (some_append p xs m) ∙ sym (or_assoc (p x) (some p xs) (some p m))

  pub some_front : (p : A → Bool) (l m : List A) → some p l ≡ true → some p (l ++ m) ≡ true
  some_front p l m h = some_append p l m ∙ or_left (some p m) h

  pub some_end : (p : A → Bool) (l : List A) (x : A) → p x ≡ true → some p (l ++ (x ∷ [])) ≡ true
  unfolding some
  some_end p l x h = some_append p l (x ∷ []) ∙ or_right (some p l) (or_left false h)

  -- what holds of all that p holds of is found where p is
  pub some_weaken : (p q : A → Bool) (l : List A) → ((x : A) → p x ≡ true → q x ≡ true) → some p l ≡ true → some q l ≡ true
  unfolding some
  some_weaken p q [] f h = h
  some_weaken p q (x ∷ xs) f h =
      ⊎_elim (λ e. or_left (some q xs) (f x e)) (λ e. or_right (q x) (some_weaken p q xs f e)) (or_either (p x) (some p xs) h)

  -- what every element that p holds of tells is told where there is one
  pub some_tells : {C : Type 0} (p : A → Bool) (l : List A) → ((x : A) → p x ≡ true → C) → some p l ≡ true → C
  unfolding some
  some_tells p [] f h = absurd (clash h refl)
  some_tells p (x ∷ xs) f h = ⊎_elim (λ e. f x e) (λ e. some_tells p xs f e) (or_either (p x) (some p xs) h)

  -- one that p holds of is one that q holds of too, or one that q does not hold of
  pub some_by : (p q : A → Bool) (l : List A) → some p l ≡ true
      → (some (λ x. p x && q x) l ≡ true) ⊎ (some (λ x. p x && not (q x)) l ≡ true)
  unfolding some
  some_by p q [] h = absurd (clash h refl)
  some_by p q (x ∷ xs) h =
      ⊎_elim
      (λ e. split (q x)
      (λ t. inl (or_left (some (λ x. p x && q x) xs) (and_true e t)))
      (λ t. inr (or_left (some (λ x. p x && not (q x)) xs) (and_true e (ap not t)))))
      (λ e. ⊎_elim (λ t. inl (or_right (p x && q x) t)) (λ t. inr (or_right (p x && not (q x)) t)) (some_by p q xs e))
      (or_either (p x) (some p xs) h)

  -- a change that never brings q about leaves it to what was there
  pub some_unchanged : (p q : A → Bool) (f : A → A) (l : List A) → ((x : A) → q (f x) ≡ false) → some q (change_first p f l) ≡ true
      → some q l ≡ true
  unfolding some change_first
  some_unchanged p q f [] k h = h
  some_unchanged p q f (x ∷ xs) k h =
      split (p x)
      (λ t. let w = rw (t, change_first) at h in
      ⊎_elim (λ e. absurd (clash e (k x))) (λ e. or_right (q x) e) (or_either (q (f x)) (some q xs) w))
      (λ t. let w = rw (t, change_first) at h in
      ⊎_elim
      (λ e. or_left (some q xs) e)
      (λ e. or_right (q x) (some_unchanged p q f xs k e))
      (or_either (q x) (some q (change_first p f xs)) w))

  -- a change of the first that p holds of keeps q where the change keeps it
  pub some_changed : (p q : A → Bool) (f : A → A) (l : List A) → ((x : A) → q x ≡ true → q (f x) ≡ true) → some q l ≡ true
      → some q (change_first p f l) ≡ true
  unfolding some change_first
  some_changed p q f [] k h = h
  some_changed p q f (x ∷ xs) k h =
      split (p x)
      (λ t. rw (t, change_first) (⊎_elim (λ e. or_left (some q xs) (k x e)) (λ e. or_right (q (f x)) e) (or_either (q x) (some q xs) h)))
      (λ t. rw (t, change_first)
      (⊎_elim (λ e. or_left (some q (change_first p f xs)) e) (λ e. or_right (q x) (some_changed p q f xs k e)) (or_either (q x) (some q xs) h)))

  -- and brings q about where it does so of each that p holds of
  pub some_changing : (p q : A → Bool) (f : A → A) (l : List A) → ((x : A) → p x ≡ true → q (f x) ≡ true) → some p l ≡ true
      → some q (change_first p f l) ≡ true
  unfolding some change_first
  some_changing p q f [] k h = h
  some_changing p q f (x ∷ xs) k h =
      split (p x)
      (λ t. rw (t, change_first) (or_left (some q xs) (k x t)))
      (λ t. rw (t, change_first) (or_right (q x) (some_changing p q f xs k (rw t at h))))

  -- a change keeps the length
  pub length_changed : (p : A → Bool) (f : A → A) (l : List A) → length (change_first p f l) ≡ length l
  unfolding change_first
  length_changed p f [] = refl
  length_changed p f (x ∷ xs) = split (p x) (λ t. rw (t, change_first)) (λ t. rw (t, change_first) (ap suc (length_changed p f xs)))

  -- the first one's place is within the list exactly where there is one
  pub first_some : (p : A → Bool) (l : List A) → ltb (first p l) (length l) ≡ some p l
  unfolding first some
  first_some p [] = refl
  first_some p (x ∷ xs) =
      split (p x)
      (λ t. rw (t, first) (lt-ltb 0 (suc (length xs)) (omega arith)))
      (λ t. rw (t, first) (leb-suc-suc (suc (first p xs)) (length xs) ∙ first_some p xs))

  -- the first one changed, by its place
  pub changed_at : (p : A → Bool) (f : A → A) (l : List A) (d : A) → first p l < length l
      → change_first p f l ≡ set l (first p l) (f (get_or l (first p l) d))
  unfolding first change_first
  changed_at p f [] d h = absurd (not-suc-le-zero h)
  changed_at p f (x ∷ xs) d h =
      split (p x)
      (λ t. rw (t, change_first, first))
      (λ t. rw (t, change_first, first) (ap (λ l. x ∷ l) (changed_at p f xs d (le_of_suc-le-suc (rw (t, first) at h)))))

  -- there is one exactly where one is counted
  pub some_counted : (p : A → Bool) (l : List A) → some p l ≡ ltb 0 (count p l)
  unfolding some count
  some_counted p [] = sym (le-ltb 0 0 (omega arith))
  some_counted p (x ∷ xs) =
      split (p x)
      (λ t. or_left (some p xs) t ∙ sym (lt-ltb 0 (one (p x) + count p xs) (omega (arith, ap one t))))
      (λ t. rw t (some_counted p xs ∙ (let same : count p xs ≡ 0 + count p xs = omega arith in ap (λ n. ltb 0 n) same)))
