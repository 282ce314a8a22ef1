-- "Keeping order on removal. With three stored at minimum 0 and a note after each completion, the Rust hands out A, C, A, C and never B. Keep
-- that.": the last one fills the hole that the first leaves, so B stays in the middle. The answers are computed.
-- Assumes nothing.
use mathlib.Core.Path.{◌≡◌, refl}
use mathlib.Core.Bool.{true, false}
use mathlib.Core.List.{[], ◌∷◌}
use Prim.Native.Nat.{ℕ}
use Rattle.time.specs.declared.KeepAlive.TheVariants.{Default}
use Rattle.instants.specs.Instants.{instant}
use Rattle.subscription.specs.declared.Request.{Request}
use Rattle.rules.specs.States.{fresh}
use Rattle.rules.specs.Calls as call
use Rattle.rules.specs.Calls.{Op}
use Rattle.rules.specs.Histories.{Diary, GoesBy, after}
use Rattle.rules.specs.Marked.{ids_of}
use Rattle.rules.proofs.Computing.{all_rules}

-- at minimum 0
abbrev request : Request
request = record { peer = 7; shortest = 0; longest = 60; rx = 0; fabric = 1 }

abbrev report : ℕ → Op
report ms = call.report (record { now = instant ms; events = 0; kind = Default; all = false })

-- A, B and C are stored, and then the fridge warms up
abbrev three : Diary
three =
    (call.add request 0 (instant 1000), call.number 1)
    ∷ (call.complete 1 0, call.completed true false)
    ∷ (call.add request 0 (instant 1000), call.number 2)
    ∷ (call.complete 2 0, call.completed true false)
    ∷ (call.add request 0 (instant 1000), call.number 3)
    ∷ (call.complete 3 0, call.completed true false)
    ∷ (call.note 3 6 0, call.heard 1 true)
    ∷ []

abbrev four_reports : Diary
four_reports =
    (report 2000, call.handed 1 0)
    ∷ (call.complete 1 0, call.completed true false)
    ∷ (call.note 3 6 0, call.heard 2 true)
    ∷ (report 3000, call.handed 3 0)
    ∷ (call.complete 3 0, call.completed true false)
    ∷ (call.note 3 6 0, call.heard 3 true)
    ∷ (report 4000, call.handed 1 0)
    ∷ (call.complete 1 0, call.completed true false)
    ∷ (call.note 3 6 0, call.heard 4 true)
    ∷ (report 5000, call.handed 3 0)
    ∷ (call.complete 3 0, call.completed true false)
    ∷ (call.note 3 6 0, call.heard 5 true)
    ∷ []

pub three_stored : GoesBy three (fresh 80)
unfolding all_rules
three_stored = refl

pub in_order : ids_of (after three (fresh 80)).stored ≡ (1 ∷ 2 ∷ 3 ∷ [])
unfolding all_rules
in_order = refl

-- A, C, A, C.
pub a_c_a_c : GoesBy four_reports (after three (fresh 80))
unfolding all_rules
a_c_a_c = refl

-- And they stand as they stood: it goes on so, and never B.
pub as_before : ids_of (after four_reports (after three (fresh 80))).stored ≡ (1 ∷ 2 ∷ 3 ∷ [])
unfolding all_rules
as_before = refl
