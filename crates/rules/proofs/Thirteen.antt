-- Document 01's example of thirteen trace lines, as calls of the machine: the answers are computed.
-- Assumes nothing.
use mathlib.Core.Path.{refl}
use mathlib.Core.Bool.{true, false}
use mathlib.Core.List.{[], ◌∷◌}
use Prim.Native.Nat.{ℕ}
use Rattle.instants.specs.Instants.{instant}
use Rattle.time.specs.declared.KeepAlive.TheVariants.{Default}
use Rattle.subscription.specs.declared.Request.{Request}
use Rattle.refusal.specs.declared.Refusal.TheVariants.{NotOpen}
use Rattle.rules.specs.States.{fresh}
use Rattle.rules.specs.Calls as call
use Rattle.rules.specs.Calls.{Op}
use Rattle.rules.specs.Histories.{Diary, GoesBy}
use Rattle.rules.proofs.Computing.{all_rules}

abbrev req : Request
req = record { peer = 7; shortest = 1; longest = 60; rx = 0; fabric = 1 }

abbrev rep : ℕ → Op
rep ms = call.report (record { now = instant ms; events = 0; kind = Default; all = false })

abbrev pub thirteen_lines : Diary
thirteen_lines =
    (call.new 2, call.number 2)
    ∷ (call.add req 0 (instant 1000), call.number 1)
    ∷ (call.complete 1 0, call.completed true false)
    ∷ (call.next_instant 0 Default, call.instant (instant 31000))
    ∷ (call.note 3 6 0, call.heard 1 true)
    ∷ (call.next_instant 0 Default, call.instant (instant 2000))
    ∷ (rep 1999, call.nothing)
    ∷ (rep 2000, call.handed 1 0)
    ∷ (call.attribute 1 3 6 0, call.yes_no true)
    ∷ (call.attribute 1 3 6 1, call.yes_no false)
    ∷ (call.complete 1 2, call.completed true true)
    ∷ (call.next_instant 0 Default, call.instant (instant 4000))
    ∷ (call.complete 1 0, call.refused NotOpen)
    ∷ []

pub thirteen : GoesBy thirteen_lines (fresh 80)
unfolding all_rules
thirteen = refl
