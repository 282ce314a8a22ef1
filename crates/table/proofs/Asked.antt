-- What a scan answers, in the definitions' words: the contract of a chain of iterators is in the library's.
-- Assumes nothing.
use Rattle.std.proofs.Common.{◌≡◌, ℕ, ◌<◌, Bool, true, false, ltb, List, [], ◌∷◌, length, get_or, sym, refl, ap, ◌∙◌}
use Rattle.std.specs.Prelude.{Option, Some, None, is_some}
use Rattle.std.specs.List.{list_any, find, position, position_or_len}
use Rattle.lists.specs.Search.{some, first}
use Rattle.lists.proofs.Bools.{split}
use Rattle.lists.proofs.Library.{some_any, found_at, found_nowhere, first_len}

module _ {A : Type 0} (p : A → Bool) where
  is_some_position : (m : List A) → is_some (position p m) ≡ ltb (first p m) (length m)
  is_some_position m =
      rw (first_len p m)
      (split (ltb (position_or_len p m) (length m)) (λ t. rw t) (λ t. rw t))

  find_some : (d : A) (m : List A) {x : A} → find p m ≡ Some x → (some p m ≡ true) × (x ≡ get_or m (first p m) d)
  unfolding some first
  find_some d [] e = absurd (cc)
  find_some d (y ∷ m) e =
      split (p y)
      (λ t. let here = rw t at e in rw (t, some, first) (refl, cc))
      (λ t. let rest = find_some d m (rw t at e) in rw (t, some, first) rest)

  find_none : (m : List A) → find p m ≡ None → some p m ≡ false
  unfolding some
  find_none [] e = refl
  find_none (y ∷ m) e =
      split (p y)
      (λ t. let here = rw t at e in absurd (cc))
      (λ t. rw (t, some) (find_none m (rw t at e)))

  -- of the entries l, which are those of m
  module _ {l m : List A} (same : l ≡ m) where
    pub asked : {r : Bool} → r ≡ list_any p l → r ≡ some p m
    asked e = e ∙ ap (list_any p) same ∙ sym (some_any p m)

    pub placed : {r : Option ℕ} {i : ℕ} → r ≡ position p l → r ≡ Some i → (some p m ≡ true) × (i ≡ first p m) × (first p m < length m)
    placed e f = found_at p m (sym (e ∙ ap (position p) same) ∙ f)

    pub placed_nowhere : {r : Option ℕ} → r ≡ position p l → r ≡ None → some p m ≡ false
    placed_nowhere e f = found_nowhere p m (sym (e ∙ ap (position p) same) ∙ f)

    pub is_placed : {r : Option ℕ} → r ≡ position p l → is_some r ≡ ltb (first p m) (length m)
    is_placed e = ap is_some (e ∙ ap (position p) same) ∙ is_some_position m

    pub found : (d : A) {r : Option A} {x : A} → r ≡ find p l → r ≡ Some x → (some p m ≡ true) × (x ≡ get_or m (first p m) d)
    found d e f = find_some d m (sym (e ∙ ap (find p) same) ∙ f)

    pub not_found : {r : Option A} → r ≡ find p l → r ≡ None → some p m ≡ false
    not_found e f = find_none m (sym (e ∙ ap (find p) same) ∙ f)
