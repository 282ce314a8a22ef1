-- The field reader's loop reads what `field_of` says: a number only grows, so it may be refused at the first digit that takes it
-- over its width; and it is 0 behind its first byte exactly if that byte is a zero.
-- Assumes nothing.
use Rattle.std.specs.Prelude.{Option, Some, None}
use mathlib.Core.Path.{◌≡◌, refl, ap, ◌∙◌}
use mathlib.Core.Bool.{Bool, true, false, cond, not, ◌&&◌, and-true, and-false}
use mathlib.Core.List.{List, [], ◌∷◌}
use Prim.Native.Nat.{ℕ, suc, ◌+◌, ◌-◌, ◌*◌, ◌≤◌, ◌<◌}
use native.Mathlib.Nat.{add-zero, zero-add}
use native.Mathlib.Omega.{arith}
use lib.Arith.{lt_of_le-ne}
use lib.Dec.{eqb, leb, ltb, leb-suc-suc}
use lib.ListN.{length}
use borrow.Author.Tests.{ne_eqb, lt-ltb, le-leb, lt-leb, eqb-true, eqb-false, leb-true, leb-false, ltb-true}
use Rattle.fields.specs.Bytes.{comma, zero_digit}
use Rattle.fields.specs.Fields.{digit, digits, decimal, number_from, number_of, front, last, more, field_of}
use Rattle.fields.specs.Inner.{zero_led, grow_of}
use Rattle.fields.specs.declared.Field.{Field}

-- what is left to read, where i bytes have passed and say v
abbrev go_on : (ℕ → Option Field) → Option ℕ → Option Field
go_on go None = None
go_on go (Some w) = go w

unfoldable pub field_from : ℕ → ℕ → ℕ → List ℕ → Option Field
field_from most v i [] = cond (eqb i 0) None (Some (last v))
field_from most v i (b ∷ bs) =
    cond (eqb b comma) (cond (eqb i 0) None (Some (more v (i + 1)))) (go_on (λ w. field_from most w (i + 1) bs) (grow_of most v i b))

-- the bytes that may follow there
unfoldable tidy : ℕ → ℕ → List ℕ → Bool
tidy v i [] = not (eqb i 0)
tidy v i (b ∷ bs) = not (zero_led v i) && (digit b && tidy (v * 10 + (b - zero_digit)) (i + 1) bs)

tidy_on : (v i : ℕ) (bs : List ℕ) → 0 < v → 0 < i → tidy v i bs ≡ digits bs
unfolding tidy digits
tidy_on v i [] h k = rw (ne_eqb i 0 (λ z. omega arith))
tidy_on v i (b ∷ bs) h k =
    rw (ne_eqb v 0 (λ z. omega arith), tidy_on (v * 10 + (b - zero_digit)) (i + 1) bs (omega arith) (omega arith))

-- behind a first digit: nothing where that is 0, and digits where it is not
tidy_second : (b c : ℕ) (bs : List ℕ) (z l : Bool) → eqb b zero_digit ≡ z → leb zero_digit b ≡ l
    → (digit b && tidy (0 * 10 + (b - zero_digit)) 1 (c ∷ bs)) ≡ (digit b && not z && digits (c ∷ bs))
unfolding tidy
tidy_second b c bs true l e k = rw (eqb-true b zero_digit e)
tidy_second b c bs false false e k = rw k
tidy_second b c bs false true e k =
    let n = eqb-false b zero_digit e in let g = leb-true zero_digit b k in
    let h : 0 < 0 * 10 + (b - zero_digit) = lt_of_le-ne (omega arith) (λ z. n (omega arith)) in
    ap (λ (t : Bool). digit b && t) (tidy_on (0 * 10 + (b - zero_digit)) 1 (c ∷ bs) h (omega arith)) ∙ rw and-true

tidy_is : (bs : List ℕ) → tidy 0 0 bs ≡ decimal bs
unfolding tidy decimal
tidy_is [] = refl
tidy_is (b ∷ []) = rw and-true
tidy_is (b ∷ c ∷ bs) = tidy_second b c bs (eqb b zero_digit) (leb zero_digit b) refl refl

number_grows : (v : ℕ) (bs : List ℕ) → v ≤ number_from v bs
unfolding number_from
number_grows v [] = omega arith
number_grows v (b ∷ bs) = let h = number_grows (v * 10 + (b - zero_digit)) bs in omega arith

-- what is made of the bytes f before the comma, where n bytes are left
abbrev judged : ℕ → ℕ → ℕ → List ℕ → ℕ → Option Field
judged most v i f n =
    cond (tidy v i f && leb (number_from v f) most)
    (cond (ltb (length f) n) (Some (more (number_from v f) (i + length f + 1))) (Some (last (number_from v f))))
    None

some : (x : Bool) (a : Option Field) → cond x None a ≡ cond (not x && true) a None
some true a = refl
some false a = refl

module _ (most v i b : ℕ) (bs : List ℕ) where
  abbrev w : ℕ
  w = v * 10 + (b - zero_digit)

  abbrev Read-on : Type 0
  Read-on = w ≤ most → field_from most w (i + 1) bs ≡ judged most w (i + 1) (front bs) (length bs)

  by_digit : (z d l : Bool) → not (zero_led v i) ≡ z → digit b ≡ d → leb w most ≡ l → Read-on
      → go_on (λ (x : ℕ). field_from most x (i + 1) bs) (grow_of most v i b) ≡ judged most v i (b ∷ front bs) (length (b ∷ bs))
  unfolding tidy grow_of number_from
  by_digit false d l e f g ih = rw (e)
  by_digit true false l e f g ih = rw (e, f)
  by_digit true true false e f g ih =
      let k = leb-false w most g in let m = number_grows w (front bs) in
      let n : leb (number_from w (front bs)) most ≡ false = lt-leb (number_from w (front bs)) most (omega arith) in
      rw (e, f, g, n, and-false)
  by_digit true true true e f g ih =
      let k : i + 1 + length (front bs) + 1 ≡ i + suc (length (front bs)) + 1 = omega arith in
      rw (e, f, g, ← k, leb-suc-suc (suc (length (front bs))) (length bs)) (ih (leb-true w most g))

  by_comma : (t : Bool) → eqb b comma ≡ t → v ≤ most → Read-on → field_from most v i (b ∷ bs) ≡ judged most v i (front (b ∷ bs)) (length (b ∷ bs))
  unfolding tidy field_from front number_from
  by_comma true e h ih = rw (e, le-leb v most h, lt-ltb 0 (suc (length bs)) (omega arith), add-zero) (some (eqb i 0) (Some (more v (i + 1))))
  by_comma false e h ih = rw e (by_digit (not (zero_led v i)) (digit b) (leb w most) refl refl refl ih)

field_tidy : (most v i : ℕ) (s : List ℕ) → v ≤ most → field_from most v i s ≡ judged most v i (front s) (length s)
unfolding tidy field_from front number_from
field_tidy most v i [] h = rw (le-leb v most h) (some (eqb i 0) (Some (last v)))
field_tidy most v i (b ∷ bs) h =
    by_comma most v i b bs (eqb b comma) refl h (λ k. field_tidy most (v * 10 + (b - zero_digit)) (i + 1) bs k)

pub field_is : (most : ℕ) (s : List ℕ) → field_from most 0 0 s ≡ field_of most s
unfolding field_of
field_is most s = field_tidy most 0 0 s (omega arith) ∙ rw (tidy_is (front s), zero-add)

-- the value that a field holds, and where the part behind its comma starts
abbrev pub value_of : Option Field → ℕ
value_of (Some f) = f.value
value_of None = 0

abbrev pub start_of : Option ℕ → ℕ
start_of (Some n) = n
start_of None = 0

abbrev pub next_of : Option Field → ℕ
next_of (Some f) = start_of f.next
next_of None = 0

module _ (most v k n : ℕ) where
  abbrev read : Bool → Bool → Bool → Option Field
  read d l m = cond (d && l) (cond m (Some (more v (k + 1))) (Some (last v))) None

  bounded : (d l m : Bool) → leb v most ≡ l → ltb k n ≡ m → (value_of (read d l m) ≤ most) × (next_of (read d l m) ≤ n)
  bounded false l m e f = omega arith
  bounded true false m e f = omega arith
  bounded true true false e f = let h = leb-true v most e in omega arith
  bounded true true true e f = let h = leb-true v most e in let g = ltb-true k n f in omega arith

-- a field is within its width, and the part behind its comma begins in the line
pub field_bounds : (most : ℕ) (s : List ℕ) → (value_of (field_of most s) ≤ most) × (next_of (field_of most s) ≤ length s)
unfolding field_of
field_bounds most s =
    bounded most (number_of (front s)) (length (front s)) (length s) (decimal (front s)) (leb (number_of (front s)) most)
    (ltb (length (front s)) (length s))
    refl
    refl
