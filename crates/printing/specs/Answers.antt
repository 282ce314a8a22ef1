-- An answer as text, as document 01 has it, "Trace lines", and what is written of a text into a lent buffer.
-- Which code and value answer a line is not said here. Assumes nothing.
use Rattle.std.specs.Prelude.{cond, List, [], ◌∷◌, ◌++◌, ℕ, zero, suc, ◌+◌, ◌/◌, ◌%◌, leb, ltb, length}
use Rattle.std.proofs.lemmas.List.Edits.{sets}
use Rattle.fields.specs.Bytes.{comma, zero_digit, CR, LF}

-- the decimal digits of n, of which there are at most f
unfoldable pub digits_by : ℕ → ℕ → List ℕ
digits_by zero n = []
digits_by (suc f) n = cond (ltb n 10) ((zero_digit + n) ∷ []) (digits_by f (n / 10) ++ ((zero_digit + n % 10) ∷ []))

-- a number of 64 bits has at most twenty
unfoldable pub digits_of : ℕ → List ℕ
digits_of n = digits_by 20 n

-- "writes line number (from 1), code, value"
unfoldable pub answer_line : ℕ → ℕ → ℕ → List ℕ
answer_line number code value = digits_of number ++ (comma ∷ (digits_of code ++ (comma ∷ digits_of value)))

-- "each line ended by CRLF"
unfoldable pub answer_of : ℕ → ℕ → ℕ → List ℕ
answer_of number code value = answer_line number code value ++ (CR ∷ LF ∷ [])

-- the place after a text put into a buffer at a place, and the buffer then: all of it where `room` bytes are free, else nothing
unfoldable pub put_of : ℕ → List ℕ → ℕ → List ℕ → ℕ × List ℕ
put_of room out at text = cond (leb (at + room) (length out)) (at + length text, sets out at text) (at, out)

-- the bytes that are asked to be free: no number has more than twenty digits
abbrev pub field_room : ℕ
field_room = 21

abbrev pub answer_room : ℕ
answer_room = 64
