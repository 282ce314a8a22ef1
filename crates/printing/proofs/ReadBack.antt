-- What the printer writes reads back: the digits that are written say the number, by induction over them from the last one to the first;
-- so the field reader reads it. And an answer is cut off as the line that was written.
-- Assumes nothing.
use Rattle.std.specs.Prelude.{Some}
use mathlib.Core.Path.{◌≡◌, refl, ap, ◌∙◌}
use mathlib.Core.Bool.{Bool, true, false}
use mathlib.Core.List.{List, [], ◌∷◌, ◌++◌, append_assoc}
use Prim.Native.Nat.{ℕ, zero, suc, ◌+◌, ◌*◌, ◌/◌, ◌%◌, ◌^◌, ◌≤◌, ◌<◌}
use native.Mathlib.Omega.{arith}
use lib.Dec.{ltb}
use lib.ListN.{length, set, replicate}
use lib.Seq.{drop-append-add}
use borrow.Author.Tests.{ltb-true, ltb-false}
use Rattle.fields.specs.Bytes.{comma, zero_digit}
use Rattle.fields.specs.Rows.{bits8, bits64, places, numbers_from, numbers_of}
use Rattle.fields.proofs.Said.{Says, says_digit, says_more, read_more, read_last}
use Rattle.fields.proofs.Rows.{numbers_begin, numbers_more, numbers_last}
use Rattle.cutting.specs.Cuts.{cut, holds_lone}
use Rattle.cutting.proofs.Cuts.{cut_line, lone_append, lone_cons, lone_nil}
use Rattle.printing.specs.Answers.{digits_by, digits_of, answer_line, answer_of}
use Rattle.printing.proofs.Answers.{limit}

says_by : (f n : ℕ) (t : Bool) → ltb n 10 ≡ t → (10 ≤ n → Says (digits_by f (n / 10)) (n / 10)) → Says (digits_by (suc f) n) n
unfolding digits_by
says_by f n true e ih = rw e (says_digit n (ltb-true n 10 e))
says_by f n false e ih =
    let h = ltb-false n 10 e in let k : n / 10 * 10 + n % 10 ≡ n = omega arith in
    rw e (rw k at (says_more (digits_by f (n / 10)) (n / 10) (n % 10) (ih h) (omega arith) (omega arith)))

says : (f n : ℕ) → n < limit f → Says (digits_by (suc f) n) n
says zero n h = says_by zero n (ltb n 10) refl (λ k. let o : ⊥ = omega arith in absurd o)
says (suc f) n h = says_by (suc f) n (ltb n 10) refl (λ k. says f (n / 10) (omega arith))

-- the digits of a number say it
pub digits_say : (n : ℕ) → n < 2 ^ 64 → Says (digits_of n) n
unfolding digits_of
digits_say n h = says 19 n (omega arith)

module _ (w n : ℕ) (fits : n ≤ w) (small : n < 2 ^ 64) (v : List ℕ) (j : ℕ) where
  digits_more : (ws l : List ℕ) → numbers_from (w ∷ ws) v j (digits_of n ++ (comma ∷ l)) ≡ numbers_from ws (set v j n) (j + 1) l
  digits_more ws l =
      numbers_more w ws v j n (length (digits_of n) + 1) (digits_of n ++ (comma ∷ l)) (read_more w n (digits_of n) fits (digits_say n small) l)
      ∙ ap (numbers_from ws (set v j n) (j + 1)) (drop-append-add (digits_of n) (comma ∷ l) 1)

  digits_last : numbers_from (w ∷ []) v j (digits_of n) ≡ Some (set v j n)
  digits_last = numbers_last w v j n (digits_of n) (read_last w n (digits_of n) fits (digits_say n small))

-- an answer's number, code and value are what its line's fields say
pub answer_reads_back : (number code value : ℕ) → number < 2 ^ 64 → code < 2 ^ 8 → value < 2 ^ 64
    → numbers_of (bits64 ∷ bits8 ∷ bits64 ∷ []) (answer_line number code value)
    ≡ Some (number ∷ code ∷ value ∷ replicate 9 0)
unfolding answer_line
answer_reads_back number code value a b c =
    numbers_begin (bits64 ∷ bits8 ∷ bits64 ∷ []) (digits_of number ++ (comma ∷ (digits_of code ++ (comma ∷ digits_of value)))) refl
    ∙ digits_more bits64 number (omega arith) a (replicate places 0) 0 (bits8 ∷ bits64 ∷ []) (digits_of code ++ (comma ∷ digits_of value))
    ∙ digits_more bits8 code (omega arith) (omega arith) (number ∷ replicate 11 0) 1 (bits64 ∷ []) (digits_of value)
    ∙ digits_last bits64 value (omega arith) c (number ∷ code ∷ replicate 10 0) 2

-- no digit is a CR or an LF
digit_plain : (d : ℕ) → holds_lone ((zero_digit + d) ∷ []) ≡ false
digit_plain d = lone_cons (zero_digit + d) [] (λ z. omega arith) (λ z. omega arith) lone_nil

plain_by : (f n : ℕ) (t : Bool) → ltb n 10 ≡ t → holds_lone (digits_by f (n / 10)) ≡ false → holds_lone (digits_by (suc f) n) ≡ false
unfolding digits_by
plain_by f n true e ih = rw e (digit_plain n)
plain_by f n false e ih = rw e (lone_append (digits_by f (n / 10)) ((zero_digit + n % 10) ∷ []) ih (digit_plain (n % 10)))

digits_plain : (f n : ℕ) → holds_lone (digits_by f n) ≡ false
unfolding digits_by
digits_plain zero n = lone_nil
digits_plain (suc f) n = plain_by f n (ltb n 10) refl (digits_plain f (n / 10))

number_plain : (n : ℕ) → holds_lone (digits_of n) ≡ false
unfolding digits_of
number_plain n = digits_plain 20 n

-- a number, a comma and what is behind them
behind_plain : (n : ℕ) (l : List ℕ) → holds_lone l ≡ false → holds_lone (digits_of n ++ (comma ∷ l)) ≡ false
behind_plain n l h =
    lone_append (digits_of n) (comma ∷ l) (number_plain n) (lone_cons comma l (λ z. omega arith) (λ z. omega arith) h)

-- an answer, whatever is written behind it, is cut off as the line that was written
pub answer_cut : (number code value : ℕ) (s : List ℕ) → cut (answer_of number code value ++ s) ≡ answer_line number code value ∷ cut s
unfolding answer_of answer_line
answer_cut number code value s =
    rw append_assoc
    (cut_line (digits_of number ++ (comma ∷ (digits_of code ++ (comma ∷ digits_of value)))) s
    (behind_plain number _ (behind_plain code _ (number_plain value))))
