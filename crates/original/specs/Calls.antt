-- The calls of document 01, made on the original: which functions of the Rust each stands for, and what is told of their answers. A round
-- is reports and completions at one instant. What only document 01 refuses is no matter of the Rust: a context that nobody holds cannot be
-- asked.
-- Assumes nothing.
use Rattle.std.specs.Prelude.{Bool, true, false, cond, not, ◌&&◌, List, [], ◌∷◌, ℕ, ◌+◌, eqb, ltb, length, set, Option, Some, None}
use Rattle.lists.specs.Removal.{take_out_newest}
use Rattle.refusal.specs.declared.Refusal.TheVariants.{Full, NotOpen}
use Rattle.instants.specs.declared.Instant.{Instant}
use Rattle.choices.specs.declared.Choice.{Choice}
use Rattle.choices.specs.declared.Choice.TheVariants.{All, Fabric, Peer, Id, ExpiredAt}
use Rattle.subscription.specs.declared.Settings.{Settings}
use Rattle.rules.specs.Calls as call
use Rattle.rules.specs.Calls.{Op, Answer}
use Rattle.original.specs.Std.{map_some, instant_min, instant_max, find}
use Rattle.original.specs.Log.{record_concrete}
use Rattle.original.specs.Subscription.{Subscription, is_expired}
use Rattle.original.specs.Contexts.{ReportContext, with_next_reported_at, set_keep, set_unsent, set_keep_retry, set_drop_failed, should_send_if_empty, should_report_attr}
use Rattle.original.specs.Table.{Subscriptions, new_table, with_log, with_contexts, add_with_id, report, report_complete, remove, clear, purge_reported_changes, next_report_of, any_reportable, next_keep_alive_at, count_for, total_established, has_subscription_for}

-- an answer, and the table after it
pub record Reply : Type 0 where
  pub answer : Answer
  pub table : Subscriptions

-- this answer and this table
abbrev pub reply : Answer → Subscriptions → Reply
reply answer t = record { answer = answer; table = t }

-- the instant of so many milliseconds
abbrev pub instant_at : ℕ → Instant
instant_at ms = record { ms = ms }

-- ---- admission

-- `Subscriptions::add`: the caller holds the context
abbrev pub added : Option (ReportContext × Subscriptions) → Subscriptions → Reply
added None t = reply (call.refused Full) t
added (Some (c, counted)) t = reply (call.number c.subscription.id) (with_contexts (c ∷ counted.contexts) counted)

-- one record of `load_persist`: `add_with_id`, `next_reported_at = Instant::MAX`, `set_keep`, and the context is dropped
abbrev pub resumed : Option (ReportContext × Subscriptions) → Subscriptions → Reply
resumed None t = reply (call.refused Full) t
resumed (Some (c, counted)) t =
    reply (call.number c.subscription.id) (report_complete (set_keep (with_next_reported_at instant_max c)) counted)

-- ---- reports

-- `Subscriptions::report`: the caller holds the context
abbrev pub reported : Option (ReportContext × Subscriptions) → Subscriptions → Reply
reported None t = reply call.nothing t
reported (Some (c, left)) t =
    reply (call.handed c.subscription.id c.subscription.rx) (with_contexts (c ∷ left.contexts) left)

-- what the caller says before it drops the context: 0 sent, 1 unsent, 2 retry, 3 failed, 4 nothing
abbrev pub said : ℕ → ReportContext → ReportContext
said outcome c =
    cond (eqb outcome 0) (set_keep c)
    (cond (eqb outcome 1) (set_keep (set_unsent c)) (cond (eqb outcome 2) (set_keep_retry c) (cond (eqb outcome 3) (set_drop_failed c) c)))

-- the context of the subscription with the id
abbrev pub holds_id : ℕ → ReportContext → Bool
holds_id id c = eqb c.subscription.id id

-- `Drop for ReportContext`: it was kept if the table holds one more, and it failed if `report_failed` was notified
abbrev pub dropped : ReportContext → Subscriptions → Reply
dropped c t =
    let left : Subscriptions = report_complete c t in
    reply (call.completed (ltb (length t.subscriptions) (length left.subscriptions)) c.report_failed) left

-- the caller says how its report ended, and drops the context that it holds
abbrev pub completed : Option ReportContext → ℕ → ℕ → Subscriptions → Reply
completed None id outcome t = reply (call.refused NotOpen) t
completed (Some c) id outcome t = dropped (said outcome c) (with_contexts (take_out_newest (holds_id id) t.contexts) t)

-- by the id of the subscription
unfoldable pub complete : ℕ → ℕ → Subscriptions → Reply
complete id outcome t = completed (find (holds_id id) t.contexts) id outcome t

-- ---- questions

-- of the context of the subscription with the id
abbrev pub asked : Option Bool → Answer
asked None = call.refused NotOpen
asked (Some b) = call.yes_no b

-- the fabric of `load_stats`, which has no fabric 0
abbrev pub fabric_asked : ℕ → Option ℕ
fabric_asked fabric = cond (eqb fabric 0) None (Some fabric)

-- the closures that `remove` is called with
unfoldable pub takes : Choice → Subscription → Bool
takes All s = true
takes (Fabric fabric) s = eqb s.fab_idx fabric
takes (Peer fabric peer) s = eqb s.fab_idx fabric && eqb s.peer_node_id peer
takes (Id id) s = eqb s.id id
takes (ExpiredAt now) s = is_expired s now.ms

-- ---- rounds

-- where a round stands
pub record Turn : Type 0 where
  pub hand_outs : ℕ
  pub ids : List ℕ
  pub table : Subscriptions

-- the context handed out is dropped with the outcome at once, and its id is written
abbrev pub turned : ℕ → ReportContext × Subscriptions → Turn → Turn
turned outcome (c, left) t =
    record {
      hand_outs = t.hand_outs + 1;
      ids = set t.ids t.hand_outs c.subscription.id;
      table = report_complete (said outcome c) left;
    }

-- "until Nothing or the outcomes end"
unfoldable pub turns : Settings → List ℕ → Turn → Turn
turns at [] t = t
turns at (outcome ∷ rest) t = elim (report at t.table) [ None ↦ t | Some r ↦ turns at rest (turned outcome r t) ]

-- how many were handed out, and whether nobody stored is reportable then
abbrev pub rounded : Settings → Turn → Reply
rounded at t = reply (call.rounded t.hand_outs (not (any_reportable at t.table)) t.ids) t.table

-- ---- the calls

-- A note is `notify_attr_changed`; `notify_cluster_changed`, `notify_endpoint_changed` and `notify_all_changed` are notes with wild fields.
unfoldable pub call_on : Op → Subscriptions → Reply
call_on (call.new capacity) t = reply (call.number capacity) (new_table capacity)
call_on (call.add request events now) t = added (add_with_id None now.ms request events t) t
call_on (call.resume id request events) t = resumed (add_with_id (Some id) instant_min request events t) t
call_on (call.note endpoint cluster attr) t =
    reply (call.heard t.changed_attrs.next_change_id true) (with_log (record_concrete endpoint cluster attr t.changed_attrs) t)
call_on (call.report at) t = reported (report at t) t
call_on (call.complete id outcome) t = complete id outcome t
call_on (call.remove choice reason) t = reply (call.yes_no (remove (takes choice) reason t).0) (remove (takes choice) reason t).1
call_on call.clear t = reply (call.yes_no false) (clear t)
call_on call.purge t = reply call.done (purge_reported_changes t)
call_on (call.attribute id endpoint cluster attr) t =
    reply (asked (map_some (should_report_attr t.changed_attrs endpoint cluster attr) (find (holds_id id) t.contexts))) t
call_on (call.send_if_empty id kind) t = reply (asked (map_some (should_send_if_empty kind) (find (holds_id id) t.contexts))) t
call_on (call.next_instant events kind) t = reply (call.instant (instant_at (next_report_of events kind t))) t
call_on (call.any_reportable now events kind) t =
    reply (call.yes_no (any_reportable (record { now = now; events = events; kind = kind; all = false }) t)) t
call_on call.next_keep_alive t = reply (call.keep_alive (map_some instant_at (next_keep_alive_at t))) t
call_on (call.statistics fabric) t =
    reply (call.stats t.subscriptions_count (count_for (fabric_asked fabric) t) (total_established t)) t
call_on (call.has_subscription fabric peer) t = reply (call.yes_no (has_subscription_for fabric peer t)) t
call_on (call.round at outcomes ids) t = rounded at (turns at outcomes (record { hand_outs = 0; ids = ids; table = t }))

-- the table after a history
unfoldable pub after : List Op → Subscriptions → Subscriptions
after [] t = t
after (op ∷ ops) t = after ops (call_on op t).table

-- and what was answered
unfoldable pub answered : List Op → Subscriptions → List Answer
answered [] t = []
answered (op ∷ ops) t = (call_on op t).answer ∷ answered ops (call_on op t).table
