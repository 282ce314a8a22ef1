-- Document 01's table of refusals by example, each number where it is given, and its order where two could be; then each clause of "well kept"
-- broken alone, which gives 7. All is computed.
-- Assumes nothing.
use mathlib.Core.Path.{◌≡◌, refl}
use mathlib.Core.Bool.{true, false}
use mathlib.Core.List.{List, [], ◌∷◌}
use Prim.Native.Nat.{ℕ}
use Rattle.refusal.specs.declared.Refusal.TheVariants.{Full, NotOpen, ReportOpen, IdLive, BadArgument, PrimingOpen, NotWellKept}
use Rattle.time.specs.declared.KeepAlive.TheVariants.{Default}
use Rattle.instants.specs.Instants.{instant}
use Rattle.changes.specs.declared.ChangedAttrs.{ChangedAttrs}
use Rattle.changes.specs.Logs.{fresh_log}
use Rattle.subscription.specs.declared.Request.{Request}
use Rattle.subscription.specs.declared.Subscription.{Subscription}
use Rattle.choices.specs.declared.Choice.TheVariants.{All}
use Rattle.subscription.specs.Life.{resumed, opened}
use Rattle.rules.specs.States.{State, fresh, well_kept}
use Rattle.rules.specs.Calls as call
use Rattle.rules.specs.Calls.{Settings}
use Rattle.rules.specs.Histories.{Diary, GoesBy}
use Rattle.rules.proofs.Computing.{all_rules}

-- a request of this fabric
abbrev request : ℕ → Request
request fabric = record { peer = 7; shortest = 1; longest = 60; rx = 5; fabric = fabric }

abbrev at : Settings
at = record { now = instant 31000; events = 0; kind = Default; all = false }

-- ---- the numbers, "Checked in this order."

abbrev refusals : Diary
refusals =
    (call.new 0, call.refused BadArgument)
    ∷ (call.new 81, call.refused BadArgument)
    ∷ (call.new 2, call.number 2)
    ∷ (call.add (request 0) 0 (instant 1000), call.refused BadArgument)
    ∷ (call.resume 1 (request 0) 0, call.refused BadArgument)
    ∷ (call.resume 1 (request 1) 0, call.number 1)
    ∷ (call.resume 1 (request 1) 0, call.refused IdLive)
    ∷ (call.report at, call.handed 1 5)
    ∷ (call.report at, call.refused ReportOpen)
    ∷ (call.round at (5 ∷ []) (0 ∷ []), call.refused BadArgument)
    ∷ (call.round at (0 ∷ []) [], call.refused BadArgument)
    ∷ (call.round at (0 ∷ []) (0 ∷ []), call.refused ReportOpen)
    ∷ (call.add (request 1) 0 (instant 1000), call.number 2)
    ∷ (call.add (request 0) 0 (instant 1000), call.refused BadArgument)
    ∷ (call.add (request 1) 0 (instant 1000), call.refused Full)
    ∷ (call.resume 1 (request 1) 0, call.refused Full)
    ∷ (call.remove All 0, call.refused BadArgument)
    ∷ (call.remove All 255, call.refused BadArgument)
    ∷ (call.clear, call.refused PrimingOpen)
    ∷ (call.complete 3 5, call.refused BadArgument)
    ∷ (call.complete 3 0, call.refused NotOpen)
    ∷ (call.attribute 3 3 6 0, call.refused NotOpen)
    ∷ (call.send_if_empty 3 Default, call.refused NotOpen)
    ∷ (call.statistics 1, call.stats 2 0 2)
    ∷ []

pub refused_so : GoesBy refusals (fresh 80)
unfolding all_rules
refused_so = refl

-- ---- well kept

-- a stored one, and the same handed out
abbrev stored : ℕ → ℕ → Subscription
stored id fabric = resumed (request fabric) id 0 0

abbrev reporting : ℕ → Subscription
reporting id = opened (stored id 1) 0 0 (instant 1000)

abbrev table : ℕ → ℕ → List Subscription → List Subscription → ChangedAttrs → State
table capacity cancel stored opens log =
    record { capacity = capacity; next = 9; cancel = cancel; stored = stored; opens = opens; log = log }

abbrev log_of : ℕ → ℕ → ChangedAttrs
log_of len next = record { held = record { entries = fresh_log.held.entries; len = len }; next = next }

-- "capacity 1..80; counted places at most capacity; at most 16 entries; next identity not 0; live ids distinct; live fabrics not 0; at most one
-- open report; a cancel reason only with it": at its bounds each holds
pub kept_so : well_kept (table 80 9 (stored 1 1 ∷ stored 2 1 ∷ []) (reporting 3 ∷ []) (log_of 16 1)) ≡ true
unfolding all_rules
kept_so = refl

pub kept_when_full : well_kept (table 1 0 (stored 0 1 ∷ []) [] (log_of 0 1)) ≡ true
unfolding all_rules
kept_when_full = refl

-- and one step further each is broken, alone
pub no_capacity : well_kept (table 0 0 [] [] (log_of 0 1)) ≡ false
unfolding all_rules
no_capacity = refl

pub capacity_past_the_places : well_kept (table 81 0 [] [] (log_of 0 1)) ≡ false
unfolding all_rules
capacity_past_the_places = refl

pub more_than_capacity : well_kept (table 1 0 (stored 1 1 ∷ []) (reporting 2 ∷ []) (log_of 0 1)) ≡ false
unfolding all_rules
more_than_capacity = refl

pub seventeen_entries : well_kept (table 80 0 [] [] (log_of 17 1)) ≡ false
unfolding all_rules
seventeen_entries = refl

pub identity_zero : well_kept (table 80 0 [] [] (log_of 0 0)) ≡ false
unfolding all_rules
identity_zero = refl

pub stored_twice : well_kept (table 80 0 (stored 1 1 ∷ stored 1 1 ∷ []) [] (log_of 0 1)) ≡ false
unfolding all_rules
stored_twice = refl

pub stored_and_open : well_kept (table 80 0 (stored 1 1 ∷ []) (reporting 1 ∷ []) (log_of 0 1)) ≡ false
unfolding all_rules
stored_and_open = refl

pub stored_without_fabric : well_kept (table 80 0 (stored 1 0 ∷ []) [] (log_of 0 1)) ≡ false
unfolding all_rules
stored_without_fabric = refl

pub open_without_fabric : well_kept (table 80 0 [] (stored 1 0 ∷ []) (log_of 0 1)) ≡ false
unfolding all_rules
open_without_fabric = refl

pub two_reports : well_kept (table 80 0 [] (reporting 1 ∷ reporting 2 ∷ []) (log_of 0 1)) ≡ false
unfolding all_rules
two_reports = refl

pub reason_without_report : well_kept (table 80 9 [] (stored 1 1 ∷ []) (log_of 0 1)) ≡ false
unfolding all_rules
reason_without_report = refl

-- what is not well kept is refused with 7 by a call that could be refused otherwise, and a new table is made of it all the same
pub seven_first : GoesBy ((call.complete 3 5, call.refused NotWellKept) ∷ (call.new 0, call.refused BadArgument) ∷ (call.new 2, call.number 2) ∷ [])
    (table 0 0 [] [] (log_of 0 1))
unfolding all_rules
seven_first = refl
