-- The lent form of a note, as document 01 has it: "the host lends its log and the note is entered there". What a note does is said by
-- crate changes.
-- Assumes nothing.
use Rattle.std.specs.Prelude.{ℕ, Result}
use Rattle.refusal.specs.declared.Refusal.{Refusal}
use Rattle.answers.specs.declared.Entered.{Entered}
use Rattle.changes.specs.declared.ChangedAttrs.{ChangedAttrs}
use Rattle.changes.specs.Logs.{noted}
use Rattle.answers.specs.Numbers.{answer_number, note_value}
use Rattle.lent.specs.declared.LentAnswer.{LentAnswer}

-- what a lent note comes to: the answer, and the log that the host then holds
pub record LentNote : Type 0 where
  pub answer : LentAnswer
  pub log : ChangedAttrs

-- the answer in document 01's number and value
abbrev pub lent_answer : Result Entered Refusal → LentAnswer
lent_answer answer = record { identity = note_value answer; code = answer_number answer }

-- what the host is told, beside the log that it then holds
abbrev pub lent : LentAnswer → ChangedAttrs → LentNote
lent answer log = record { answer = answer; log = log }

-- the lent form of a note: its answer in numbers, and its log
abbrev pub lent_note : ChangedAttrs → ℕ → ℕ → ℕ → LentNote
lent_note g endpoint cluster attr = lent (lent_answer (noted g endpoint cluster attr).answer) (noted g endpoint cluster attr).log
