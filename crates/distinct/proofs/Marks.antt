-- The quick pass: every residue so far is marked and the numbers so far differ. A residue that is not marked yet belongs to a number that
-- stands nowhere before.
-- Assumes nothing.
use mathlib.Core.Path.{◌≡◌, refl, sym, ap, ◌∙◌}
use mathlib.Core.Bool.{Bool, true, false, not, ◌&&◌, ◌||◌}
use mathlib.Core.List.{List, [], ◌∷◌, ◌++◌}
use mathlib.Core.Logic.{⊎_elim}
use Prim.Native.Nat.{ℕ, zero, suc, ◌+◌, ◌%◌, ◌<◌}
use native.Mathlib.Omega.{arith}
use native.Mathlib.Nat.{mod-lt}
use borrow.Author.Tests.{eqb-true, eq-eqb, ne_eqb}
use lib.Dec.{eqb}
use lib.ListN.{get_or, set, drop, length, length-set}
use lib.Seq.{get_or-set_same}
use Rattle.std.specs.List.{list_any}
use Rattle.lists.specs.Search.{some, distinct}
use Rattle.distinct.specs.Differ.{holds, differ}
use Rattle.lists.proofs.Bools.{split, clash, and_both, and_true, or_either, or_neither}
use Rattle.lists.proofs.Searches.{some_append}
use Rattle.lists.proofs.Numbers.{some_same}
use Rattle.lists.proofs.Parts.{drop_next}
use Rattle.lists.proofs.Library.{some_any}

eqb_sym : (a b : ℕ) → eqb a b ≡ eqb b a
eqb_sym a b =
    split (eqb a b)
    (λ t. t ∙ sym (eq-eqb b a (sym (eqb-true a b t))))
    (λ f. f ∙ sym (ne_eqb b a (λ e. clash (eq-eqb a b (sym e)) f)))

-- a number that stands behind itself, in the words of the library's `contains`
pub differ_here : (l : List ℕ) (i : ℕ) → i < length l
    → differ (drop i l) ≡ (not (list_any (λ y. eqb y (get_or l i 0)) (drop (i + 1) l)) && differ (drop (i + 1) l))
unfolding distinct
differ_here l i h =
    rw (drop_next l i 0 h, distinct)
    (ap (λ b. not b && differ (drop (i + 1) l))
    (some_same (λ y. eqb (get_or l i 0) y) (λ y. eqb y (get_or l i 0)) (drop (i + 1) l) (eqb_sym (get_or l i 0)) ∙ some_any _ _))

-- one more at the end, which stands nowhere before
differ_end : (l : List ℕ) (x : ℕ) → holds x l ≡ false → differ l ≡ true → differ (l ++ (x ∷ [])) ≡ true
unfolding some distinct
differ_end [] x h e = refl
differ_end (y ∷ ys) x h e =
    let w = or_neither (eqb x y) (holds x ys) h in
    let v = and_both (not (holds y ys)) (differ ys) e in
    let apart : holds y (ys ++ (x ∷ [])) ≡ holds y ys =
    some_append (λ z. eqb y z) ys (x ∷ []) ∙ rw (eqb_sym y x ∙ w.0) (or_false (holds y ys)) in
    and_true (rw apart v.0) (differ_end ys x w.1 v.1)
  where
    or_false : (b : Bool) → (b || false) ≡ b
    or_false true = refl
    or_false false = refl

set_keeps : (s : List Bool) (r q : ℕ) → get_or s q false ≡ true → get_or (set s r true) q false ≡ true
set_keeps [] r q e = e
set_keeps (b ∷ s) zero zero e = refl
set_keeps (b ∷ s) zero (suc q) e = e
set_keeps (b ∷ s) (suc r) zero e = e
set_keeps (b ∷ s) (suc r) (suc q) e = set_keeps s r q e

pub residue_below : (n : ℕ) → n % 256 < 256
residue_below n = mod-lt n (omega arith)

-- the residues of the numbers are marked, and the numbers differ
pub record Marked (l : List ℕ) (seen : List Bool) : Type 0 where
  pub room : length seen ≡ 256
  pub marks : (x : ℕ) → holds x l ≡ true → get_or seen (x % 256) false ≡ true
  pub apart : differ l ≡ true

pub mark_begin : (seen : List Bool) → length seen ≡ 256 → Marked [] seen
unfolding some distinct
mark_begin seen e = record { room = e; marks = λ x h. absurd (clash h refl); apart = refl }

pub mark_step : (l : List ℕ) (seen : List Bool) (x : ℕ) → Marked l seen → get_or seen (x % 256) false ≡ false
    → Marked (l ++ (x ∷ [])) (set seen (x % 256) true)
unfolding some
mark_step l seen x m e =
    let small : x % 256 < length seen = omega (arith, m.room, residue_below x) in
    record {
      room = simp length-set m.room;
      marks = λ y h. ⊎_elim
          (λ t. set_keeps seen (x % 256) (y % 256) (m.marks y t))
          (λ t. ⊎_elim
          (λ u. rw (eqb-true y x u) (get_or-set_same seen (x % 256) true false small))
          (λ u. absurd (clash u refl))
          (or_either (eqb y x) false t))
          (or_either (holds y l) (eqb y x || false) (sym (some_append (λ z. eqb y z) l (x ∷ [])) ∙ h));
      apart = differ_end l x (split (holds x l) (λ t. absurd (clash (m.marks x t) e)) (λ f. f)) m.apart;
    }
