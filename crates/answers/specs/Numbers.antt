-- Document 01's number and value for each answer of the log: 0 and the value where it acted, the refusal's number and 0 where it refused.
-- Assumes nothing.
use Rattle.std.specs.Prelude.{Bool, false, ℕ, Result, Ok, Err}
use Rattle.refusal.specs.declared.Refusal.{Refusal}
use Rattle.answers.specs.declared.Entered.{Entered}
use Rattle.lists.specs.Search.{one}
use Rattle.refusal.specs.Numbers.{number_of}

-- of any answer: 0 where it acted
abbrev pub answer_number : {A : Type 0} → Result A Refusal → ℕ
answer_number (Ok x) = 0
answer_number (Err why) = number_of why

-- of any answer: the value that f gives of what was answered
abbrev pub answer_value : {A : Type 0} → (A → ℕ) → Result A Refusal → ℕ
answer_value f (Ok x) = f x
answer_value f (Err why) = 0

-- of a note: its value is the identity
abbrev pub note_value : Result Entered Refusal → ℕ
note_value answer = answer_value (λ x. x.identity) answer

-- of a question: its value is 1 for yes
abbrev pub told_value : Result Bool Refusal → ℕ
told_value answer = answer_value one answer

-- whether a question was answered yes
abbrev pub says_yes : Result Bool Refusal → Bool
says_yes (Ok b) = b
says_yes (Err why) = false

-- of the watermark: its value is the identity
abbrev pub mark_value : Result ℕ Refusal → ℕ
mark_value answer = answer_value (λ identity. identity) answer
