-- The code and the value of a line's answer, as document 01 has them, "Trace lines"; and the values that a call's answer comes to.
-- Assumes nothing.
use Rattle.std.specs.Prelude.{ℕ, Option, Some, None, Result, Ok, Err}
use Rattle.refusal.specs.declared.Refusal.{Refusal}
use Rattle.refusal.specs.Numbers.{number_of}
use Rattle.answers.specs.Numbers.{answer_number, mark_value}
use Rattle.places.specs.declared.Handed.{Handed}
use Rattle.places.specs.Calls.{Tabled, tabled}

-- a line's code and value
pub record Reply : Type 0 where
  pub code : ℕ
  pub value : ℕ

-- not refused: code 0 and a value
abbrev pub told : ℕ → Reply
told value = record { code = 0; value = value }

-- "A line with code above 0 has value 0."
abbrev pub refused_with : Refusal → Reply
refused_with why = record { code = number_of why; value = 0 }

-- an answer's code and value
abbrev pub coded : Result ℕ Refusal → Reply
coded answer = record { code = answer_number answer; value = mark_value answer }

-- an answer with the value that f gives of what was answered
abbrev pub valued : {A : Type 0} → (A → ℕ) → Result A Refusal → Result ℕ Refusal
valued f (Ok x) = Ok (f x)
valued f (Err why) = Err why

-- the same of a call that changes the table
abbrev pub valued_in : {A : Type 0} → (A → ℕ) → Tabled A → Tabled ℕ
valued_in f r = tabled (valued f r.answer) r.table

-- report: "id or 0 for Nothing"
abbrev pub handed_value : Option Handed → ℕ
handed_value (Some x) = x.id
handed_value None = 0
