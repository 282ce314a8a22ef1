-- One small history for each call, with document 01's sentence above it. The answers, and where the sentence speaks of it the state, are computed.
-- Assumes nothing.
use Rattle.std.specs.Prelude.{Some, None}
use mathlib.Core.Path.{◌≡◌, refl}
use mathlib.Core.Bool.{Bool, true, false}
use mathlib.Core.List.{[], ◌∷◌}
use Prim.Native.Nat.{ℕ}
use Rattle.time.specs.declared.KeepAlive.{KeepAlive}
use Rattle.time.specs.declared.KeepAlive.TheVariants.{Default, Icd}
use Rattle.instants.specs.Instants.{instant}
use Rattle.subscription.specs.declared.Request.{Request}
use Rattle.choices.specs.declared.Choice.TheVariants.{All, Fabric, Id}
use Rattle.subscription.specs.Life.{priming, resumed}
use Rattle.rules.specs.States.{State, fresh}
use Rattle.rules.specs.Calls as call
use Rattle.rules.specs.Calls.{Settings, Op}
use Rattle.rules.specs.Histories.{Diary, GoesBy, after}
use Rattle.rules.specs.Marked.{ids_of}
use Rattle.rules.proofs.Computing.{all_rules}

abbrev request : Request
request = record { peer = 7; shortest = 1; longest = 60; rx = 5; fabric = 1 }

abbrev at : ℕ → Settings
at ms = record { now = instant ms; events = 0; kind = Default; all = false }

abbrev kept : ℕ → Diary
kept id = (call.add request 0 (instant 1000), call.number id) ∷ (call.complete id 0, call.completed true false) ∷ []

-- one subscription, stored with a report sent at one second
abbrev one : State
one = after (kept 1) (fresh 80)

-- two of them
abbrev two : State
two = after (kept 2) one

-- ---- admission

-- "Add takes the next id, makes a priming, which opens with the present watermark, event number and now."
abbrev adding : Diary
adding = (call.note 3 6 0, call.heard 1 true) ∷ (call.add request 9 (instant 1000), call.number 1) ∷ []

pub added_so : GoesBy adding (fresh 80) × ((after adding (fresh 80)).opens ≡ (priming request 1 1 9 (instant 1000) ∷ []))
unfolding all_rules
added_so = (refl, refl)

-- "Resume .. stores at the end as never reported, with the given id and event number, the present watermark"; "Next id moves as at add."
abbrev resuming : Diary
resuming =
    (call.note 3 6 0, call.heard 1 true)
    ∷ (call.resume 8 request 9, call.number 8)
    ∷ (call.resume 4 request 9, call.number 4)
    ∷ (call.add request 0 (instant 1000), call.number 9)
    ∷ []

pub resumed_so : GoesBy resuming (fresh 80)
    × ((after resuming (fresh 80)).stored ≡ (resumed request 8 1 9 ∷ resumed request 4 1 9 ∷ []))
unfolding all_rules
resumed_so = (refl, refl)

-- ---- report and completion

-- "0 sent: opening values stored": a note made meanwhile is not lost
abbrev note_meanwhile : Diary
note_meanwhile =
    (call.note 3 6 0, call.heard 1 true)
    ∷ (call.report (at 2000), call.handed 1 5)
    ∷ (call.note 3 6 1, call.heard 2 true)
    ∷ (call.complete 1 0, call.completed true false)
    ∷ (call.report (at 4000), call.handed 1 5)
    ∷ (call.attribute 1 3 6 1, call.yes_no true)
    ∷ (call.attribute 1 3 6 0, call.yes_no false)
    ∷ []

pub heard_next_time : GoesBy note_meanwhile one
unfolding all_rules
heard_next_time = refl

-- "due ≤ now", by the keep-alive kind; "seen events below the event number"; "the all flag with reported_at < now"
abbrev with_settings : ℕ → ℕ → KeepAlive → Bool → Op
with_settings ms events kind all = call.report (record { now = instant ms; events = events; kind = kind; all = all })

abbrev reporting : Diary
reporting =
    (with_settings 31000 0 Icd false, call.nothing)
    ∷ (with_settings 1999 0 Icd true, call.nothing)
    ∷ (with_settings 2000 0 Icd true, call.handed 1 5)
    ∷ (call.complete 1 0, call.completed true false)
    ∷ (with_settings 32000 4 Icd false, call.handed 1 5)
    ∷ (call.complete 1 0, call.completed true false)
    ∷ (with_settings 61999 4 Default false, call.nothing)
    ∷ (with_settings 62000 4 Default false, call.handed 1 5)
    ∷ []

pub reported_so : GoesBy reporting one
unfolding all_rules
reported_so = refl

-- "A cancelled report is dropped under each outcome."
abbrev cancelled_report : Diary
cancelled_report =
    (call.report (at 31000), call.handed 1 5)
    ∷ (call.remove (Id 1) 9, call.yes_no true)
    ∷ (call.remove (Id 1) 9, call.yes_no false)
    ∷ (call.complete 1 0, call.completed false false)
    ∷ (call.statistics 1, call.stats 0 0 1)
    ∷ []

pub dropped_when_cancelled : GoesBy cancelled_report one
unfolding all_rules
dropped_when_cancelled = refl

-- "2 retry: ..; if never reported, it is dropped instead."; "The failed flag is yes for 3 and for a retry that isn't a giving up"
abbrev giving_up : Diary
giving_up =
    (call.add request 0 (instant 1000), call.number 1)
    ∷ (call.complete 1 2, call.completed false false)
    ∷ (call.add request 0 (instant 1000), call.number 2)
    ∷ (call.complete 2 3, call.completed false true)
    ∷ []

pub given_up : GoesBy giving_up (fresh 80)
unfolding all_rules
given_up = refl

-- ---- removal and clearing

-- "removes the first match repeatedly, then cancels the open report if it matches and isn't cancelled yet. Primings stay. It wakes exactly when
-- something was removed or cancelled."
abbrev removing : Diary
removing =
    (call.remove (Fabric 1) 9, call.yes_no true)
    ∷ (call.remove (Fabric 1) 9, call.yes_no false)
    ∷ (call.add request 0 (instant 1000), call.number 3)
    ∷ (call.remove All 9, call.yes_no false)
    ∷ (call.complete 3 0, call.completed true false)
    ∷ []

pub priming_stays : GoesBy removing two × (ids_of (after removing two).stored ≡ (3 ∷ []))
unfolding all_rules
priming_stays = (refl, refl)

-- "Clear empties the stored ones and cancels the report with reason 255, over an earlier reason. It doesn't wake."
abbrev clearing : Diary
clearing =
    (call.report (at 31000), call.handed 1 5)
    ∷ (call.remove (Id 1) 9, call.yes_no true)
    ∷ (call.clear, call.yes_no false)
    ∷ []

pub cleared_so : GoesBy clearing two × ((after clearing two).stored ≡ []) × ((after clearing two).cancel ≡ 255)
unfolding all_rules
cleared_so = (refl, refl, refl)

-- "Purge does nothing while anything is open. Else it purges up to the least seen watermark, or empties the log if none is stored."
abbrev purge_open : Diary
purge_open =
    (call.note 3 6 0, call.heard 1 true)
    ∷ (call.report (at 2000), call.handed 1 5)
    ∷ (call.purge, call.done)
    ∷ []

abbrev purge_shut : Diary
purge_shut = (call.complete 1 0, call.completed true false) ∷ (call.note 3 6 1, call.heard 2 true) ∷ (call.purge, call.done) ∷ []

abbrev purge_empty : Diary
purge_empty = (call.remove All 9, call.yes_no true) ∷ (call.purge, call.done) ∷ []

pub purged_so : ((after purge_open one).log.held.len ≡ 1)
    × ((after purge_shut (after purge_open one)).log.held.len ≡ 1)
    × ((after purge_empty (after purge_shut (after purge_open one))).log.held.len ≡ 0)
    × GoesBy purge_empty (after purge_shut (after purge_open one))
unfolding all_rules
purged_so = (refl, refl, refl, refl)

-- ---- questions

-- "attribute (yes if never reported, ..)"; "send if empty (due at its opening instant)"
abbrev asking : Diary
asking =
    (call.report (at 31000), call.handed 1 5)
    ∷ (call.attribute 1 3 6 0, call.yes_no false)
    ∷ (call.send_if_empty 1 Default, call.yes_no true)
    ∷ (call.send_if_empty 1 Icd, call.yes_no false)
    ∷ (call.add request 0 (instant 1000), call.number 2)
    ∷ (call.attribute 2 3 6 0, call.yes_no true)
    ∷ []

pub asked_so : GoesBy asking one
unfolding all_rules
asked_so = refl

-- "next instant", "any reportable (all flag off)", "next keep-alive (the least `Icd` due instant of the stored, or none)"
abbrev waking : Diary
waking =
    (call.next_instant 0 Default, call.instant (instant 18446744073709551615))
    ∷ (call.next_keep_alive, call.keep_alive None)
    ∷ (call.add request 0 (instant 9000), call.number 1)
    ∷ (call.complete 1 0, call.completed true false)
    ∷ (call.add request 0 (instant 1000), call.number 2)
    ∷ (call.complete 2 0, call.completed true false)
    ∷ (call.next_instant 0 Default, call.instant (instant 31000))
    ∷ (call.any_reportable (instant 30999) 0 Default, call.yes_no false)
    ∷ (call.any_reportable (instant 31000) 0 Default, call.yes_no true)
    ∷ (call.next_keep_alive, call.keep_alive (Some (instant 58000)))
    ∷ []

pub wakes_so : GoesBy waking (fresh 80)
unfolding all_rules
wakes_so = refl

-- "statistics (counted places; stored of a fabric, 0 if no fabric is asked; next id − 1, at least 0)"
abbrev counting : Diary
counting =
    (call.add request 0 (instant 1000), call.number 3)
    ∷ (call.statistics 1, call.stats 3 2 3)
    ∷ (call.statistics 2, call.stats 3 0 3)
    ∷ (call.statistics 0, call.stats 3 0 3)
    ∷ []

pub counted_so : GoesBy counting two
unfolding all_rules
counted_so = refl

-- "has subscription (fabric and peer stored with zero fails)"
abbrev having : Diary
having =
    (call.has_subscription 1 7, call.yes_no true)
    ∷ (call.has_subscription 1 8, call.yes_no false)
    ∷ (call.has_subscription 2 7, call.yes_no false)
    ∷ (call.report (at 31000), call.handed 1 5)
    ∷ (call.complete 1 2, call.completed true true)
    ∷ (call.has_subscription 1 7, call.yes_no false)
    ∷ []

pub has_so : GoesBy having one
unfolding all_rules
has_so = refl

-- ---- the round

-- "until Nothing or the outcomes end. It answers the number of hand-outs it made, and whether nothing stored is reportable then. Ids beyond that
-- number stay."
abbrev rounds : Diary
rounds =
    (call.round (at 31000) (0 ∷ 3 ∷ 0 ∷ []) (9 ∷ 9 ∷ 9 ∷ []), call.rounded 2 true (1 ∷ 2 ∷ 9 ∷ []))
    ∷ (call.statistics 1, call.stats 1 1 2)
    ∷ (call.new 5, call.number 5)
    ∷ (call.statistics 1, call.stats 0 0 0)
    ∷ []

abbrev short_round : Diary
short_round = (call.round (at 31000) (0 ∷ []) (9 ∷ []), call.rounded 1 false (1 ∷ [])) ∷ []

pub round_so : GoesBy rounds two × GoesBy short_round two
unfolding all_rules
round_so = (refl, refl)
