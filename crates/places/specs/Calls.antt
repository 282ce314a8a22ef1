-- What each call of the table answers and leaves, place by place. Refusals are the machine's at the state that the table stands for; that the
-- rest is too is proved in `proofs/`.
-- Assumes nothing.
use Rattle.std.specs.Prelude.{Bool, true, false, cond, not, ◌&&◌, ◌||◌, List, [], ◌∷◌, ℕ, ◌+◌, ◌-◌, eqb, ltb, leb, get_or, Result, Ok, Err, Some, None, ⊤, Option}
use Rattle.choices.specs.declared.Choice.{Choice}
use Rattle.refusal.specs.declared.Refusal.{Refusal}
use Rattle.refusal.specs.declared.Refusal.TheVariants.{BadArgument, Full, IdLive}
use Rattle.instants.specs.declared.Instant.{Instant}
use Rattle.time.specs.declared.KeepAlive.{KeepAlive}
use Rattle.subscription.specs.declared.Request.{Request}
use Rattle.subscription.specs.declared.Settings.{Settings}
use Rattle.subscription.specs.declared.Subscription.{Subscription}
use Rattle.places.specs.declared.Table.{Table}
use Rattle.places.specs.declared.Ended.{Ended}
use Rattle.places.specs.declared.Heard.{Heard}
use Rattle.places.specs.declared.Handed.{Handed}
use Rattle.places.specs.declared.Load.{Load}
use Rattle.changes.specs.Logs.{purged, cleared, watermark_of, newest_of, noted, changed_since}
use Rattle.choices.specs.Choices.{chosen}
use Rattle.rules.specs.States.{is_report, capacity_fits, has_id}
use Rattle.places.specs.Tests.{struck, seen_of, ready_by, of_fabric, served, next_by, icd_due}
use Rattle.places.specs.Moves.{swept_out, emptied, with_next_id, with_reason, with_log, taken_out, stored_last, opened_up, closed_at}
use Rattle.lists.specs.Search.{some, count, first, least_by}
use Rattle.instants.specs.Instants.{instant, last_instant, never_reported}
use Rattle.subscription.specs.Life.{blank, priming, resumed, opened, closed, keeps, failed}
use Rattle.subscription.specs.When.{is_due}
use Rattle.rules.specs.Machine.{Objection, next_id_after}
use Rattle.places.specs.Views.{stored_of, opens_of, first_open, fresh_table, refusal_at}
use Rattle.rules.specs.Calls as call

-- what a call that changes the table comes to: its answer, or why it is refused, and the table after it
pub record Tabled (A : Type 0) : Type 0 where
  pub answer : Result A Refusal
  pub table : Table

abbrev pub tabled : {A : Type 0} → Result A Refusal → Table → Tabled A
tabled answer table = record { answer = answer; table = table }

-- a refusal leaves the table as it was
abbrev pub refused_in : {A : Type 0} → Table → Refusal → Tabled A
refused_in t why = tabled (Err why) t

-- by what a call is refused with, if it is
abbrev pub settled_by : {A : Type 0} → Option Refusal → (Refusal → A) → A → A
settled_by None f a = a
settled_by (Some why) f a = f why

-- "a refused "new" makes none": one of capacity 0, which every call refuses
unfoldable pub new_table : ℕ → Tabled ⊤
new_table capacity =
    cond (capacity_fits capacity)
    (record { answer = Ok tt; table = fresh_table capacity })
    (record { answer = Err BadArgument; table = fresh_table 0 })

-- "A note takes the next identity."; "Notes always wake."
unfoldable pub note_in : Table → ℕ → ℕ → ℕ → Tabled Heard
note_in t endpoint cluster attr =
    settled_by (refusal_at (call.note endpoint cluster attr) t) (refused_in t)
    (record {
      answer = Ok (record { identity = t.log.next; wakes = true });
      table = with_log t (noted t.log endpoint cluster attr).log;
    })

-- the place of the first stored one that is reportable, or the number of stored ones
unfoldable pub first_ready : Table → Settings → ℕ
first_ready t at = first (ready_by at (newest_of t.log)) (stored_of t)

-- the stored one at a place is handed out: "It opens with the present watermark, event number and now, and answers the id and the request number."
unfoldable pub handed_out : Table → Settings → ℕ → Tabled (Option Handed)
handed_out t at i =
    let x : Subscription = get_or t.places i blank in
    record {
      answer = Ok (Some (record { id = x.id; rx = x.rx }));
      table = opened_up (taken_out t i) (opened x (watermark_of t.log) at.events at.now);
    }

-- "Report hands out the first reportable stored subscription by swap removal, or answers Nothing."
unfoldable pub hand_out_in : Table → Settings → Tabled (Option Handed)
hand_out_in t at =
    cond (ltb (first_ready t at) t.stored) (handed_out t at (first_ready t at)) (record { answer = Ok None; table = t })

unfoldable pub report_in : Table → Settings → Tabled (Option Handed)
report_in t at = settled_by (refusal_at (call.report at) t) (refused_in t) (hand_out_in t at)

-- the settings of a question: "(all flag off)"
abbrev pub asking : Instant → ℕ → KeepAlive → Settings
asking now events kind = record { now = now; events = events; kind = kind; all = false }

-- "any reportable (all flag off)"
unfoldable pub any_at : Table → Instant → ℕ → KeepAlive → Result Bool Refusal
any_at t now events kind =
    settled_by (refusal_at (call.any_reportable now events kind) t) Err (Ok (ltb (first_ready t (asking now events kind)) t.stored))

-- "Next instant is 2^64 − 1 for no stored ones; else the least"
unfoldable pub next_at : Table → ℕ → KeepAlive → Result Instant Refusal
next_at t events kind =
    settled_by (refusal_at (call.next_instant events kind) t) Err
    (Ok (instant (least_by (next_by (asking last_instant events kind) (newest_of t.log)) last_instant.ms (stored_of t))))

-- "next keep-alive (the least `Icd` due instant of the stored, or none)"
unfoldable pub alive_at : Table → Result (Option Instant) Refusal
alive_at t =
    settled_by (refusal_at call.next_keep_alive t) Err
    (Ok (cond (eqb t.stored 0) None (Some (instant (least_by icd_due last_instant.ms (stored_of t))))))

-- "stored of a fabric, 0 if no fabric is asked"
abbrev pub fabric_count : Table → ℕ → ℕ
fabric_count t fabric = cond (eqb fabric 0) 0 (count (of_fabric fabric) (stored_of t))

-- "statistics (counted places; stored of a fabric, 0 if no fabric is asked; next id − 1, at least 0)"
unfoldable pub load_of : Table → ℕ → Result Load Refusal
load_of t fabric =
    settled_by (refusal_at (call.statistics fabric) t) Err
    (Ok
    (record {
      places = t.stored + t.opens;
      fabric = fabric_count t fabric;
      established = t.next - 1;
    }))

-- "has subscription (fabric and peer stored with zero fails)"
unfoldable pub has_at : Table → ℕ → ℕ → Result Bool Refusal
has_at t fabric peer =
    settled_by (refusal_at (call.has_subscription fabric peer) t) Err
    (Ok (ltb (first (served fabric peer) (stored_of t)) t.stored))

-- ---- admission

-- what is left to refuse an admission for, in the table's own counts
abbrev pub admit_objections : Table → Request → ℕ → List Objection
admit_objections t request id =
    (eqb request.fabric 0, BadArgument)
    ∷ (leb t.capacity (t.stored + t.opens), Full)
    ∷ (some (has_id id) (stored_of t) || some (has_id id) (opens_of t), IdLive)
    ∷ []

-- "Add takes the next id, makes a priming, which opens with the present watermark, event number and now."
unfoldable pub add_to : Table → Request → ℕ → Instant → Tabled ℕ
add_to t request events now =
    settled_by (refusal_at (call.add request events now) t) (refused_in t)
    (record {
      answer = Ok t.next;
      table = with_next_id (opened_up t (priming request t.next (watermark_of t.log) events now)) (next_id_after t.next t.next);
    })

-- "Resume .. stores at the end as never reported, with the given id and event number, the present watermark"
unfoldable pub resume_in : Table → ℕ → Request → ℕ → Tabled ℕ
resume_in t id request events =
    settled_by (refusal_at (call.resume id request events) t) (refused_in t)
    (record {
      answer = Ok id;
      table = with_next_id (stored_last t (resumed request id (watermark_of t.log) events)) (next_id_after t.next id);
    })

-- ---- completion

-- the place of the first open one with the id
unfoldable pub open_at : Table → ℕ → ℕ
open_at t id = first_open t (has_id id)

-- "A cancelled report is dropped under each outcome."
abbrev pub stays_after : ℕ → Subscription → ℕ → Bool
stays_after cancel x o = not (x.reporting && not (eqb cancel 0)) && keeps x o

-- the table without the open one at a place; "Kept ones go to the end."
abbrev pub table_after : Table → ℕ → Subscription → ℕ → Table
table_after t j x o = cond (stays_after t.cancel x o) (stored_last (closed_at t j) (closed x o)) (closed_at t j)

-- the open one at a place ends: its report's reason goes with it
unfoldable pub ended_at : Table → ℕ → ℕ → Tabled Ended
ended_at t j o =
    let x : Subscription = get_or t.places j blank in
    record {
      answer = Ok (record { kept = stays_after t.cancel x o; failed = failed x o });
      table = with_reason (table_after t j x o) (cond x.reporting 0 t.cancel);
    }

-- "Complete takes an id and an outcome."
unfoldable pub complete_in : Table → ℕ → ℕ → Tabled Ended
complete_in t id o = settled_by (refusal_at (call.complete id o) t) (refused_in t) (ended_at t (open_at t id) o)

-- ---- questions to an open one

-- "attribute (yes if never reported, else changed since its seen watermark)"
unfoldable pub attribute_at : Table → ℕ → ℕ → ℕ → ℕ → Result Bool Refusal
attribute_at t id endpoint cluster attr =
    let x : Subscription = get_or t.places (open_at t id) blank in
    settled_by (refusal_at (call.attribute id endpoint cluster attr) t) Err
    (Ok (never_reported x.reported || changed_since t.log endpoint cluster attr x.seen))

-- "send if empty (due at its opening instant)"
unfoldable pub send_at : Table → ℕ → KeepAlive → Result Bool Refusal
send_at t id kind =
    let x : Subscription = get_or t.places (open_at t id) blank in
    settled_by (refusal_at (call.send_if_empty id kind) t) Err (Ok (is_due x x.opened kind))

-- ---- removal, clearing and purging

-- "then cancels the open report if it matches and isn't cancelled yet"
unfoldable pub cancels_in : Table → Choice → Bool
cancels_in t choice = eqb t.cancel 0 && some (struck choice) (opens_of t)

-- "removes the first match repeatedly, then cancels the open report"; "It wakes exactly when something was removed or cancelled."
unfoldable pub remove_in : Table → Choice → ℕ → Tabled Bool
remove_in t choice reason =
    settled_by (refusal_at (call.remove choice reason) t) (refused_in t)
    (record {
      answer = Ok (some (chosen choice) (stored_of t) || cancels_in t choice);
      table = with_reason (swept_out (chosen choice) t) (cond (cancels_in t choice) reason t.cancel);
    })

-- "Clear empties the stored ones and cancels the report with reason 255, over an earlier reason. It doesn't wake."
unfoldable pub clear_in : Table → Tabled Bool
clear_in t =
    settled_by (refusal_at call.clear t) (refused_in t)
    (record { answer = Ok false; table = with_reason (emptied t) (cond (some is_report (opens_of t)) 255 t.cancel) })

-- "Purge does nothing while anything is open. Else it purges up to the least seen watermark, or empties the log if none is stored."
unfoldable pub purged_table : Table → Table
purged_table t =
    cond (ltb 0 t.opens) t
    (cond (ltb 0 t.stored)
    (with_log t (purged t.log (least_by seen_of (get_or t.places 0 blank).seen (stored_of t))).log)
    (with_log t (cleared t.log).log))

unfoldable pub purge_in : Table → Tabled ⊤
purge_in t =
    settled_by (refusal_at call.purge t) (refused_in t)
    (record { answer = Ok tt; table = purged_table t })
