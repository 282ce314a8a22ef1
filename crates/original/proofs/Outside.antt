-- Where the Rust leaves the domain: small histories of the original, each with a call that document 01 refuses. The answers are computed.
-- docs/DIFFERENCES.md tells them in words.
-- Assumes nothing.
use mathlib.Core.Path.{◌≡◌, refl}
use mathlib.Core.Bool.{true, false}
use mathlib.Core.List.{[], ◌∷◌, map}
use Prim.Native.Nat.{ℕ}
use Rattle.lists.specs.Search.{some}
use Rattle.refusal.specs.declared.Refusal.TheVariants.{Full}
use Rattle.time.specs.declared.KeepAlive.TheVariants.{Default}
use Rattle.instants.specs.Instants.{instant}
use Rattle.subscription.specs.declared.Request.{Request}
use Rattle.choices.specs.declared.Choice.TheVariants.{Id}
use Rattle.rules.specs.States.{fresh}
use Rattle.rules.specs.Calls as call
use Rattle.rules.specs.Calls.{Settings}
use Rattle.rules.specs.Histories.{Diary, refused_by}
use Rattle.rules.specs.Machine.{answers}
use Rattle.rules.proofs.Computing.{all_rules}
use Rattle.original.specs.Table.{new_table}
use Rattle.original.specs.Calls.{answered}
use Rattle.original.proofs.Computing.{original_rules}

abbrev pub request : Request
request = record { peer = 7; shortest = 1; longest = 60; rx = 5; fabric = 1 }

abbrev pub at : ℕ → Settings
at ms = record { now = instant ms; events = 0; kind = Default; all = false }

-- added, and its first report sent
abbrev pub stored : ℕ → Diary
stored id = (call.add request 0 (instant 1000), call.number id) ∷ (call.complete id 0, call.completed true false) ∷ []

-- the original answers the calls as the diary has it
abbrev pub Answers : Diary → Type 0
Answers d = answered (map (λ l. l.0) d) (new_table 80) ≡ map (λ l. l.1) d

-- and document 01 refuses one of them by the number
abbrev Refused : ℕ → Diary → Type 0
Refused n d = some (refused_by n) (answers (map (λ l. l.0) d) (fresh 80)) ≡ true

-- A second report takes the slot of the first: a removal no longer finds the first, which is stored again after it.
abbrev overwritten : Diary
overwritten =
    (call.resume 1 request 0, call.number 1)
    ∷ (call.resume 2 request 0, call.number 2)
    ∷ (call.report (at 1000), call.handed 1 5)
    ∷ (call.report (at 1000), call.handed 2 5)
    ∷ (call.remove (Id 1) 9, call.yes_no false)
    ∷ (call.complete 1 0, call.completed true false)
    ∷ []

pub report_overwritten : Answers overwritten × Refused 3 overwritten
unfolding original_rules all_rules
report_overwritten = (refl, refl)

-- An id that is live is resumed again: two stored ones have it.
abbrev resumed_twice : Diary
resumed_twice =
    (call.resume 5 request 0, call.number 5)
    ∷ (call.resume 5 request 0, call.number 5)
    ∷ (call.statistics 1, call.stats 2 2 5)
    ∷ []

pub id_resumed_twice : Answers resumed_twice × Refused 4 resumed_twice
unfolding original_rules all_rules
id_resumed_twice = (refl, refl)

-- The last id is given again and again: the next id after it is wrapped to 0, and stays where it is.
abbrev added_twice : Diary
added_twice =
    (call.resume 4294967294 request 0, call.number 4294967294)
    ∷ (call.add request 0 (instant 1000), call.number 4294967295)
    ∷ (call.add request 0 (instant 1000), call.number 4294967295)
    ∷ []

pub id_added_twice : Answers added_twice × Refused 4 added_twice
unfolding original_rules all_rules
id_added_twice = (refl, refl)

-- Cleared while a priming is open, the table counts nobody, and the priming is stored and not counted.
abbrev stored_uncounted : Diary
stored_uncounted =
    (call.add request 0 (instant 1000), call.number 1)
    ∷ (call.clear, call.yes_no false)
    ∷ (call.complete 1 0, call.completed true false)
    ∷ (call.statistics 1, call.stats 0 1 1)
    ∷ []

pub stored_and_not_counted : Answers stored_uncounted × Refused 6 stored_uncounted
unfolding original_rules all_rules
stored_and_not_counted = (refl, refl)

-- A purge meanwhile finds nothing open, and a note made while the priming was open is lost to it.
abbrev note_lost : Diary
note_lost =
    (call.add request 0 (instant 1000), call.number 1)
    ∷ (call.clear, call.yes_no false)
    ∷ (call.note 3 6 0, call.heard 1 true)
    ∷ (call.purge, call.done)
    ∷ (call.complete 1 0, call.completed true false)
    ∷ (call.report (at 2000), call.nothing)
    ∷ []

pub note_lost_lem : Answers note_lost × Refused 6 note_lost
unfolding original_rules all_rules
note_lost_lem = (refl, refl)

-- Abandoned, it takes the count below zero, where nothing checks it: the table is full for ever.
abbrev below_zero : Diary
below_zero =
    (call.add request 0 (instant 1000), call.number 1)
    ∷ (call.clear, call.yes_no false)
    ∷ (call.complete 1 4, call.completed false false)
    ∷ (call.statistics 0, call.stats 18446744073709551615 0 1)
    ∷ (call.add request 0 (instant 1000), call.refused Full)
    ∷ []

pub count_below_zero : Answers below_zero × Refused 6 below_zero
unfolding original_rules all_rules
count_below_zero = (refl, refl)
