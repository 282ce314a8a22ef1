-- The table's answers as the machine's: what a call of the table answers and leaves, as an outcome of the machine.
-- Assumes nothing.
use Rattle.std.specs.Prelude.{Bool, ℕ, Option, Some, None, Result, Ok, Err, ⊤}
use Rattle.refusal.specs.declared.Refusal.{Refusal}
use Rattle.instants.specs.declared.Instant.{Instant}
use Rattle.places.specs.declared.Table.{Table}
use Rattle.places.specs.declared.Ended.{Ended}
use Rattle.places.specs.declared.Heard.{Heard}
use Rattle.places.specs.declared.Handed.{Handed}
use Rattle.places.specs.declared.Load.{Load}
use Rattle.rules.specs.Calls.{Answer}
use Rattle.rules.specs.Machine.{Outcome, outcome}
use Rattle.places.specs.Views.{view}
use Rattle.places.specs.Calls.{Tabled}
use Rattle.rules.specs.Calls as call

-- an answer, where f says what the machine answers in its place; a refusal is a refusal
abbrev pub answer_by : {A : Type 0} → (A → Answer) → Result A Refusal → Answer
answer_by f (Ok x) = f x
answer_by f (Err why) = call.refused why

-- of a call that changes the table
abbrev pub says_by : {A : Type 0} → (A → Answer) → Tabled A → Outcome
says_by f r = outcome (answer_by f r.answer) (view r.table)

-- of a question, which leaves the table as it is
abbrev pub asked_by : {A : Type 0} → (A → Answer) → Table → Result A Refusal → Outcome
asked_by f t a = outcome (answer_by f a) (view t)

-- of a report
abbrev pub hand_out_answer : Option Handed → Answer
hand_out_answer (Some x) = call.handed x.id x.rx
hand_out_answer None = call.nothing

abbrev pub report_says : Tabled (Option Handed) → Outcome
report_says r = says_by hand_out_answer r

-- of an admission
abbrev pub admitted_says : Tabled ℕ → Outcome
admitted_says r = says_by call.number r

-- of a note
abbrev pub note_says : Tabled Heard → Outcome
note_says r = says_by (λ x. call.heard x.identity x.wakes) r

-- of a completion
abbrev pub completed_says : Tabled Ended → Outcome
completed_says r = says_by (λ x. call.completed x.kept x.failed) r

-- of a yes or no
abbrev pub told_says : Table → Result Bool Refusal → Outcome
told_says t a = asked_by call.yes_no t a

-- of the next instant
abbrev pub moment_says : Table → Result Instant Refusal → Outcome
moment_says t a = asked_by call.instant t a

-- of the statistics
abbrev pub load_says : Table → Result Load Refusal → Outcome
load_says t a = asked_by (λ x. call.stats x.places x.fabric x.established) t a

-- of a removal and of clearing: does it wake
abbrev pub woken_says : Tabled Bool → Outcome
woken_says r = says_by call.yes_no r

-- of a purge
abbrev pub settled_says : Tabled ⊤ → Outcome
settled_says r = says_by (λ _. call.done) r

-- of the next keep-alive
abbrev pub alive_says : Table → Result (Option Instant) Refusal → Outcome
alive_says t a = asked_by call.keep_alive t a

-- of a new table in place of another: "a refused "new" makes none", so that the other stays
abbrev pub new_leaves : Result ⊤ Refusal → Table → Table → Table
new_leaves (Ok x) t u = u
new_leaves (Err why) t u = t

abbrev pub new_says : Table → Tabled ⊤ → Outcome
new_says t r = outcome (answer_by (λ _. call.number r.table.capacity) r.answer) (view (new_leaves r.answer t r.table))
