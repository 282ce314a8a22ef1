-- A decimal field at the front of a part of a line, as document 01 has it, "Trace lines".
-- Many in a row are said in Rows. Assumes nothing.
use Rattle.std.specs.Prelude.{Option, Some, None, Bool, true, false, cond, not, ◌&&◌, List, [], ◌∷◌, ℕ, ◌+◌, ◌-◌, ◌*◌, eqb, leb, ltb, length}
use Rattle.fields.specs.Bytes.{comma, zero_digit, nine_digit}
use Rattle.fields.specs.declared.Field.{Field}

-- no sign, no space, no quote: a field is made of digits alone
abbrev pub digit : ℕ → Bool
digit b = leb zero_digit b && leb b nine_digit

unfoldable pub digits : List ℕ → Bool
digits [] = true
digits (b ∷ bs) = digit b && digits bs

-- "Decimal fields without sign or leading zero": one digit, or several of which the first is not 0
unfoldable pub decimal : List ℕ → Bool
decimal [] = false
decimal (b ∷ []) = digit b
decimal (b ∷ c ∷ bs) = digit b && not (eqb b zero_digit) && digits (c ∷ bs)

-- the number that digits say behind others that say v
unfoldable pub number_from : ℕ → List ℕ → ℕ
number_from v [] = v
number_from v (b ∷ bs) = number_from (v * 10 + (b - zero_digit)) bs

-- the number that a field says
abbrev pub number_of : List ℕ → ℕ
number_of bs = number_from 0 bs

-- the bytes before the first comma, or all where there is none
unfoldable pub front : List ℕ → List ℕ
front [] = []
front (b ∷ bs) = cond (eqb b comma) [] (b ∷ front bs)

-- "each fitting its width": at most the greatest number of that width
abbrev pub fits : ℕ → List ℕ → Bool
fits most f = decimal f && leb (number_of f) most

-- a number that ends the line
abbrev pub last : ℕ → Field
last x = record { value = x; next = None }

-- a number with a comma behind it
abbrev pub more : ℕ → ℕ → Field
more x next = record { value = x; next = Some next }

-- "The rest of a line after each comma goes on as a part": a field with a comma behind it says where that part begins
unfoldable pub field_of : ℕ → List ℕ → Option Field
field_of most s =
    cond (fits most (front s))
    (cond (ltb (length (front s)) (length s)) (Some (more (number_of (front s)) (length (front s) + 1))) (Some (last (number_of (front s)))))
    None
