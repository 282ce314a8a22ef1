-- An answer that is put where there is room for one: the bytes up to its end are those that stood before it, and the answer.
-- Assumes nothing.
use mathlib.Core.Path.{◌≡◌, ap, ◌∙◌}
use mathlib.Core.List.{List, [], ◌∷◌, ◌++◌}
use Prim.Native.Nat.{ℕ, ◌+◌, ◌≤◌}
use native.Mathlib.Omega.{arith}
use lib.ListN.{length, length-append, take, drop}
use lib.Seq.{length-sets, sets-eq, length-take-le, take_at}
use Rattle.fields.specs.Bytes.{comma, CR, LF}
use Rattle.printing.specs.Answers.{digits_of, answer_line, answer_of, put_of, answer_room}
use Rattle.printing.proofs.Answers.{twenty, put_all}

-- "line number (from 1), code, value", two commas and CRLF: no more than sixty-four bytes
answer_length : (number code value : ℕ) → length (answer_of number code value) ≤ answer_room
unfolding answer_of answer_line
answer_length number code value =
    let behind = digits_of code ++ (comma ∷ digits_of value) in
    omega (
      arith,
      twenty number,
      twenty code,
      twenty value,
      length-append (digits_of number ++ (comma ∷ behind)) (CR ∷ LF ∷ []),
      length-append (digits_of number) (comma ∷ behind),
      length-append (digits_of code) (comma ∷ digits_of value),
    )

-- a text put at a place: where it ends, what stands up to there, and a buffer as long as before
pub record Written (out : List ℕ) (at : ℕ) (text : List ℕ) (p : ℕ × List ℕ) : Type 0 where
  pub stands : take p.0 p.1 ≡ take at out ++ text
  pub long : length p.1 ≡ length out
  pub fits : p.0 ≤ length out

pub answer_written : (out : List ℕ) (at number code value : ℕ) → at + answer_room ≤ length out
    → Written out at (answer_of number code value) (put_of answer_room out at (answer_of number code value))
answer_written out at number code value room =
    let text = answer_of number code value in
    let n = answer_length number code value in
    let front : length (take at out ++ text) ≡ at + length text =
    length-append (take at out) text ∙ ap (λ (k : ℕ). k + length text) (length-take-le at out (omega arith)) in
    rw (put_all answer_room out at text room)
    (record {
      stands =
          ap (take (at + length text)) (sets-eq text out at (omega arith))
          ∙ take_at (take at out ++ text) (drop (at + length text) out) (at + length text) front;
      long = length-sets out at text;
      fits = omega arith;
    })
