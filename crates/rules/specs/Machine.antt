-- Document 01's table as a machine: what each call refuses, in 01's order, and what it does where it does not refuse.
-- Assumes nothing.
use Rattle.std.specs.Prelude.{Bool, true, false, cond, not, ◌&&◌, ◌||◌, List, [], ◌∷◌, ◌++◌, ℕ, ◌+◌, ◌-◌, ◌%◌, ◌^◌, max, eqb, leb, ltb, length, set, Option, Some, None}
use Rattle.lists.specs.Search.{some, count, first_by, least_by}
use Rattle.lists.specs.Removal.{sweep, take_out, take_out_newest}
use Rattle.refusal.specs.declared.Refusal.{Refusal}
use Rattle.refusal.specs.declared.Refusal.TheVariants.{Full, NotOpen, ReportOpen, IdLive, BadArgument, PrimingOpen, NotWellKept}
use Rattle.instants.specs.declared.Instant.{Instant}
use Rattle.time.specs.declared.KeepAlive.{KeepAlive}
use Rattle.changes.specs.declared.ChangedAttrs.{ChangedAttrs}
use Rattle.time.specs.declared.KeepAlive.TheVariants.{Icd}
use Rattle.instants.specs.Instants.{last_instant, never_reported}
use Rattle.changes.specs.Logs.{watermark_of, noted, purged, cleared, any_since, changed_since}
use Rattle.subscription.specs.declared.Subscription.{Subscription}
use Rattle.choices.specs.declared.Choice.{Choice}
use Rattle.subscription.specs.declared.Request.{Request}
use Rattle.subscription.specs.When.{due_of, is_due, reportable, next_of}
use Rattle.subscription.specs.Life.{blank, priming, resumed, opened, closed, keeps, failed}
use Rattle.choices.specs.Choices.{chosen}
use Rattle.rules.specs.States.{State, fresh, counted, is_report, is_priming, report_open, has_id, id_live, capacity_fits, well_kept}
use Rattle.rules.specs.Calls as call
use Rattle.rules.specs.Calls.{Settings, Op, Answer}

-- ---- refusals

-- what a refusal is given for, and the refusal
abbrev pub Objection : Type 0
Objection = Bool × Refusal

-- "Checked in this order."
unfoldable pub first_of : List Objection → Option Refusal
first_of [] = None
first_of ((holds, why) ∷ rest) = elim holds [ true ↦ Some why | false ↦ first_of rest ]

-- "counted places reach capacity"
abbrev pub full : State → Bool
full s = leb s.capacity (counted s)

-- "outcome above 4"
abbrev pub bad_outcome : ℕ → Bool
bad_outcome outcome = ltb 4 outcome

-- "reason 0 or 255"
abbrev pub bad_reason : ℕ → Bool
bad_reason reason = eqb reason 0 || leb 255 reason

-- "no open report or priming has the id"
abbrev pub not_open : ℕ → State → Bool
not_open id s = not (some (has_id id) s.opens)

-- "Refusal numbers", the columns "given exactly when" and "by"; that the state is well kept is asked of all but `new`
unfoldable pub objections : Op → State → List Objection
objections (call.new capacity) s = (not (capacity_fits capacity), BadArgument) ∷ []
objections (call.add request events now) s =
    (eqb request.fabric 0, BadArgument) ∷ (full s, Full) ∷ (id_live s.next s, IdLive) ∷ []
objections (call.resume id request events) s = (eqb request.fabric 0, BadArgument) ∷ (full s, Full) ∷ (id_live id s, IdLive) ∷ []
objections (call.note endpoint cluster attr) s = []
objections (call.report at) s = (report_open s, ReportOpen) ∷ []
objections (call.complete id outcome) s = (bad_outcome outcome, BadArgument) ∷ (not_open id s, NotOpen) ∷ []
objections (call.remove choice reason) s = (bad_reason reason, BadArgument) ∷ []
objections call.clear s = (some is_priming s.opens, PrimingOpen) ∷ []
objections call.purge s = []
objections (call.attribute id endpoint cluster attr) s = (not_open id s, NotOpen) ∷ []
objections (call.send_if_empty id kind) s = (not_open id s, NotOpen) ∷ []
objections (call.next_instant events kind) s = []
objections (call.any_reportable now events kind) s = []
objections call.next_keep_alive s = []
objections (call.statistics fabric) s = []
objections (call.has_subscription fabric peer) s = []
objections (call.round at outcomes ids) s =
    (some bad_outcome outcomes || not (eqb (length outcomes) (length ids)), BadArgument) ∷ (report_open s, ReportOpen) ∷ []

-- "7 .. all taking a state": `new` takes none
abbrev pub takes_state : Op → Bool
takes_state (call.new capacity) = false
takes_state (call.add request events now) = true
takes_state (call.resume id request events) = true
takes_state (call.note endpoint cluster attr) = true
takes_state (call.report at) = true
takes_state (call.complete id outcome) = true
takes_state (call.remove choice reason) = true
takes_state call.clear = true
takes_state call.purge = true
takes_state (call.attribute id endpoint cluster attr) = true
takes_state (call.send_if_empty id kind) = true
takes_state (call.next_instant events kind) = true
takes_state (call.any_reportable now events kind) = true
takes_state call.next_keep_alive = true
takes_state (call.statistics fabric) = true
takes_state (call.has_subscription fabric peer) = true
takes_state (call.round at outcomes ids) = true

-- the refusal of a call, if it is refused
unfoldable pub refusal : Op → State → Option Refusal
refusal op s = first_of ((takes_state op && not (well_kept s), NotWellKept) ∷ objections op s)

-- ---- what the calls do

-- an answer, and the state after it
pub record Outcome : Type 0 where
  pub answer : Answer
  pub state : State

abbrev pub outcome : Answer → State → Outcome
outcome answer s = record { answer = answer; state = s }

-- "Next id becomes the greater of itself and id + 1 wrapped at 32 bits."
abbrev pub next_id_after : ℕ → ℕ → ℕ
next_id_after next id = max next ((id + 1) % 2 ^ 32)

-- the state with other lists, and the rest as it is
abbrev pub with_ones : State → List Subscription → List Subscription → State
with_ones s stored opens =
    record { capacity = s.capacity; next = s.next; cancel = s.cancel; stored = stored; opens = opens; log = s.log }

abbrev pub with_next : State → ℕ → State
with_next s next =
    record { capacity = s.capacity; next = next; cancel = s.cancel; stored = s.stored; opens = s.opens; log = s.log }

abbrev pub with_cancel : State → ℕ → State
with_cancel s cancel =
    record { capacity = s.capacity; next = s.next; cancel = cancel; stored = s.stored; opens = s.opens; log = s.log }

abbrev pub with_log : State → ChangedAttrs → State
with_log s log = record { capacity = s.capacity; next = s.next; cancel = s.cancel; stored = s.stored; opens = s.opens; log = log }

-- "Add takes the next id, makes a priming, which opens with the present watermark, event number and now."
unfoldable pub added : Request → ℕ → Instant → State → Outcome
added request events now s =
    outcome (call.number s.next)
    (with_next (with_ones s s.stored (priming request s.next (watermark_of s.log) events now ∷ s.opens)) (next_id_after s.next s.next))

-- "Resume .. stores at the end as never reported, with the given id and event number, the present watermark"; "Next id moves as at add."
unfoldable pub resumed_to : ℕ → Request → ℕ → State → Outcome
resumed_to id request events s =
    outcome (call.number id)
    (with_next (with_ones s (s.stored ++ (resumed request id (watermark_of s.log) events ∷ [])) s.opens) (next_id_after s.next id))

-- a note: "takes the next identity"; "Notes always wake."
unfoldable pub noted_in : ℕ → ℕ → ℕ → State → Outcome
noted_in endpoint cluster attr s = outcome (call.heard s.log.next true) (with_log s (noted s.log endpoint cluster attr).log)

-- "an entry above its seen watermark"
abbrev pub changed_for : State → Subscription → Bool
changed_for s x = any_since s.log x.seen

-- is the subscription reportable at the settings
unfoldable pub ready : Settings → State → Subscription → Bool
ready at s x = reportable x at.now (changed_for s x) at.events at.kind at.all

-- the subscription handed out: "It opens with the present watermark, event number and now"
abbrev pub opened_in : Settings → State → Subscription → Subscription
opened_in at s x = opened x (watermark_of s.log) at.events at.now

-- "the first reportable stored subscription"
abbrev pub next_up : Settings → State → Subscription
next_up at s = first_by (ready at s) blank s.stored

-- "Report hands out the first reportable stored subscription by swap removal, or answers Nothing."
unfoldable pub reported : Settings → State → Outcome
reported at s =
    cond (some (ready at s) s.stored)
    (outcome
    (call.handed (next_up at s).id (next_up at s).rx)
    (with_ones s (take_out (ready at s) s.stored) (opened_in at s (next_up at s) ∷ s.opens)))
    (outcome call.nothing s)

-- the open report or priming with the id
abbrev pub open_with : ℕ → State → Subscription
open_with id s = first_by (has_id id) blank s.opens

-- "A cancelled report is dropped under each outcome."
abbrev pub cancelled : Subscription → State → Bool
cancelled x s = is_report x && not (eqb s.cancel 0)

-- is the open one kept
abbrev pub stays : Subscription → ℕ → State → Bool
stays x o s = not (cancelled x s) && keeps x o

-- "Kept ones go to the end."
abbrev pub stored_after : Subscription → ℕ → State → List Subscription
stored_after x o s = cond (stays x o s) (s.stored ++ (closed x o ∷ [])) s.stored

-- "Complete takes an id and an outcome."
unfoldable pub completed_in : ℕ → ℕ → State → Outcome
completed_in id o s =
    let x : Subscription = open_with id s in
    outcome (call.completed (stays x o s) (failed x o))
    (with_cancel (with_ones s (stored_after x o s) (take_out_newest (has_id id) s.opens)) (cond (is_report x) 0 s.cancel))

-- "then cancels the open report if it matches and isn't cancelled yet"
abbrev pub cancels : Choice → State → Bool
cancels choice s = eqb s.cancel 0 && some (λ x. is_report x && chosen choice x) s.opens

-- "Remove .. removes the first match repeatedly"; "It wakes exactly when something was removed or cancelled."
unfoldable pub removed : Choice → ℕ → State → Outcome
removed choice reason s =
    outcome (call.yes_no (some (chosen choice) s.stored || cancels choice s))
    (with_cancel (with_ones s (sweep (chosen choice) s.stored) s.opens) (cond (cancels choice s) reason s.cancel))

-- "Clear empties the stored ones and cancels the report with reason 255, over an earlier reason. It doesn't wake."
unfoldable pub cleared_in : State → Outcome
cleared_in s = outcome (call.yes_no false) (with_cancel (with_ones s [] s.opens) (cond (report_open s) 255 s.cancel))

-- "the least seen watermark"
abbrev pub least_seen : List Subscription → ℕ
least_seen [] = 0
least_seen (x ∷ xs) = least_by (λ y. y.seen) x.seen xs

-- "Purge does nothing while anything is open. Else it purges up to the least seen watermark, or empties the log if none is stored."
unfoldable pub purged_in : State → Outcome
purged_in s =
    outcome call.done
    (with_log s
    (cond (ltb 0 (length s.opens)) s.log
    (cond (ltb 0 (length s.stored)) (purged s.log (least_seen s.stored)).log (cleared s.log).log)))

-- ---- questions

-- "attribute (yes if never reported, else changed since its seen watermark)"
unfoldable pub attribute_in : ℕ → ℕ → ℕ → ℕ → State → Bool
attribute_in id endpoint cluster attr s =
    never_reported (open_with id s).reported || changed_since s.log endpoint cluster attr (open_with id s).seen

-- "send if empty (due at its opening instant)"
unfoldable pub send_if_empty_in : ℕ → KeepAlive → State → Bool
send_if_empty_in id kind s = is_due (open_with id s) (open_with id s).opened kind

-- "Next instant is 2^64 − 1 for no stored ones; else the least of allowed .. or the later of allowed and due."
unfoldable pub next_instant_in : ℕ → KeepAlive → State → Instant
next_instant_in events kind s = record { ms = least_by (λ x. (next_of x (changed_for s x) events kind).ms) last_instant.ms s.stored }

-- "any reportable (all flag off)"
unfoldable pub any_reportable_in : Instant → ℕ → KeepAlive → State → Bool
any_reportable_in now events kind s = some (ready (record { now = now; events = events; kind = kind; all = false }) s) s.stored

-- "next keep-alive (the least `Icd` due instant of the stored, or none)"
unfoldable pub keep_alive_in : List Subscription → Option Instant
keep_alive_in [] = None
keep_alive_in (x ∷ xs) = Some (record { ms = least_by (λ y. (due_of y Icd).ms) (due_of x Icd).ms xs })

-- "statistics (counted places; stored of a fabric, 0 if no fabric is asked; next id − 1, at least 0)"
unfoldable pub statistics_in : ℕ → State → Answer
statistics_in fabric s =
    call.stats (counted s) (cond (eqb fabric 0) 0 (count (λ x. eqb x.fabric fabric) s.stored)) (s.next - 1)

-- "has subscription (fabric and peer stored with zero fails)"
unfoldable pub has_subscription_in : ℕ → ℕ → State → Bool
has_subscription_in fabric peer s = some (λ x. eqb x.fabric fabric && (eqb x.peer peer && eqb x.fails 0)) s.stored

-- ---- the round

-- where a round stands: hand-outs so far, the ids, the state
pub record Turn : Type 0 where
  pub hand_outs : ℕ
  pub ids : List ℕ
  pub state : State

-- a hand-out ended by its outcome, its id written at the next place
abbrev pub turned : Settings → ℕ → Turn → Turn
turned at o t =
    let x : Subscription = next_up at t.state in
    record {
      hand_outs = t.hand_outs + 1;
      ids = set t.ids t.hand_outs x.id;
      state = (completed_in x.id o (reported at t.state).state).state;
    }

-- "reports and completes at one instant, taking outcomes in turn .. until Nothing or the outcomes end"
unfoldable pub round_from : Settings → List ℕ → Turn → Turn
round_from at [] t = t
round_from at (o ∷ os) t = elim (some (ready at t.state) t.state.stored) [ true ↦ round_from at os (turned at o t) | false ↦ t ]

-- "It answers the number of hand-outs it made, and whether nothing stored is reportable then. Ids beyond that number stay."
unfoldable pub round_in : Settings → List ℕ → List ℕ → State → Outcome
round_in at outcomes ids s =
    let t : Turn = round_from at outcomes (record { hand_outs = 0; ids = ids; state = s }) in
    outcome (call.rounded t.hand_outs (not (some (ready at t.state) t.state.stored)) t.ids) t.state

-- ---- the machine

-- what a call does where it is not refused
unfoldable pub act : Op → State → Outcome
act (call.new capacity) s = outcome (call.number capacity) (fresh capacity)
act (call.add request events now) s = added request events now s
act (call.resume id request events) s = resumed_to id request events s
act (call.note endpoint cluster attr) s = noted_in endpoint cluster attr s
act (call.report at) s = reported at s
act (call.complete id o) s = completed_in id o s
act (call.remove choice reason) s = removed choice reason s
act call.clear s = cleared_in s
act call.purge s = purged_in s
act (call.attribute id endpoint cluster attr) s = outcome (call.yes_no (attribute_in id endpoint cluster attr s)) s
act (call.send_if_empty id kind) s = outcome (call.yes_no (send_if_empty_in id kind s)) s
act (call.next_instant events kind) s = outcome (call.instant (next_instant_in events kind s)) s
act (call.any_reportable now events kind) s = outcome (call.yes_no (any_reportable_in now events kind s)) s
act call.next_keep_alive s = outcome (call.keep_alive (keep_alive_in s.stored)) s
act (call.statistics fabric) s = outcome (statistics_in fabric s) s
act (call.has_subscription fabric peer) s = outcome (call.yes_no (has_subscription_in fabric peer s)) s
act (call.round at outcomes ids) s = round_in at outcomes ids s

-- "either acts or gives a numbered refusal .. that alters nothing"
abbrev pub step_by : Option Refusal → Op → State → Outcome
step_by None op s = act op s
step_by (Some why) op s = outcome (call.refused why) s

unfoldable pub step : Op → State → Outcome
step op s = step_by (refusal op s) op s

-- a history: the answers, and the state after it
unfoldable pub run : List Op → State → State
run [] s = s
run (op ∷ ops) s = run ops (step op s).state

unfoldable pub answers : List Op → State → List Answer
answers [] s = []
answers (op ∷ ops) s = (step op s).answer ∷ answers ops (step op s).state
