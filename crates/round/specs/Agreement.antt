-- A round's answer as the machine's: what it answers and leaves, as an outcome of the machine.
-- Assumes nothing.
use Rattle.std.specs.Prelude.{List, ℕ, Result}
use Rattle.refusal.specs.declared.Refusal.{Refusal}
use Rattle.round.specs.declared.Ending.{Ending}
use Rattle.rules.specs.Calls.{Answer}
use Rattle.rules.specs.Machine.{Outcome, outcome}
use Rattle.places.specs.Views.{view}
use Rattle.places.specs.Calls.{Tabled}
use Rattle.places.specs.Agreement.{answer_by}
use Rattle.rules.specs.Calls as call

-- the ids after it are part of the machine's answer
abbrev pub rounding_answer : Result Ending Refusal → List ℕ → Answer
rounding_answer a ids = answer_by (λ x. call.rounded x.handouts x.silent ids) a

abbrev pub round_says : Tabled Ending × List ℕ → Outcome
round_says r = outcome (rounding_answer r.0.answer r.1) (view r.0.table)
