-- Many fields in a row, as document 01 has them, "Trace lines": a field for each width, and nothing else.
-- Which fields a line has is not said here. Assumes nothing.
use Rattle.std.specs.Prelude.{Option, Some, None, cond, List, [], ◌∷◌, ℕ, ◌+◌, ◌≤◌, eqb, leb, length, drop, get_or, set, replicate}
use Rattle.fields.specs.Fields.{field_of}
use Rattle.fields.specs.declared.Field.{Field}

-- the greatest number of each width; "Flags are 0 or 1"
abbrev pub flag : ℕ
flag = 1

abbrev pub bits8 : ℕ
bits8 = 0xff

abbrev pub bits16 : ℕ
bits16 = 0xffff

abbrev pub bits32 : ℕ
bits32 = 0xffff_ffff

abbrev pub bits64 : ℕ
bits64 = 0xffff_ffff_ffff_ffff

-- how many fields can be read at once
abbrev pub places : ℕ
places = 12

-- with a comma behind a field the part goes on, without one no field may be left
abbrev pub numbers_next : (ℕ → Option (List ℕ)) → List ℕ → List ℕ → Option ℕ → Option (List ℕ)
numbers_next go ws v None = cond (eqb (length ws) 0) (Some v) None
numbers_next go ws v (Some next) = go next

-- the numbers after a field, which is put into v
abbrev pub numbers_by : (ℕ → ℕ → Option (List ℕ)) → List ℕ → List ℕ → ℕ → Option Field → Option (List ℕ)
numbers_by go ws v j None = None
numbers_by go ws v j (Some f) = numbers_next (go f.value) ws (set v j f.value) f.next

-- a field for each width, put into v from the place j on; "The rest of a line after each comma goes on as a part"
unfoldable pub numbers_from : List ℕ → List ℕ → ℕ → List ℕ → Option (List ℕ)
numbers_from [] v j s = None
numbers_from (w ∷ ws) v j s =
    numbers_by (λ x next. numbers_from ws (set v j x) (j + 1) (drop next s)) ws v j (field_of w s)

-- the numbers of a part that is made of as many fields as there are widths, and of nothing else
unfoldable pub numbers_of : List ℕ → List ℕ → Option (List ℕ)
numbers_of ws s = cond (leb (length ws) places) (numbers_from ws (replicate places 0) 0 s) None

-- each number is at most the width at its place
abbrev pub Fit : List ℕ → List ℕ → Type 0
Fit ws v = (k : ℕ) → get_or v k 0 ≤ get_or ws k 0
