-- What each call does where it is not refused, as equations for the floors above, which never open its definition.
-- Assumes nothing.
use Rattle.std.specs.Prelude.{Some, None}
use mathlib.Core.Bool.{cond, true, false, not, ◌&&◌, ◌||◌}
use mathlib.Core.Path.{◌≡◌, refl}
use mathlib.Core.List.{List, [], ◌∷◌, ◌++◌}
use Prim.Native.Nat.{◌-◌, ℕ}
use lib.Dec.{eqb, ltb}
use lib.ListN.{length}
use Rattle.refusal.specs.declared.Refusal.TheVariants.{BadArgument}
use Rattle.subscription.specs.declared.Subscription.{Subscription}
use Rattle.instants.specs.declared.Instant.{Instant}
use Rattle.time.specs.declared.KeepAlive.{KeepAlive}
use Rattle.time.specs.declared.KeepAlive.TheVariants.{Icd}
use Rattle.choices.specs.declared.Choice.{Choice}
use Rattle.subscription.specs.declared.Request.{Request}
use Rattle.subscription.specs.declared.Settings.{Settings}
use Rattle.lists.specs.Search.{least_by, some, count}
use Rattle.lists.specs.Removal.{sweep, take_out_newest, take_out}
use Rattle.instants.specs.Instants.{last_instant, never_reported}
use Rattle.subscription.specs.When.{due_of, next_of, is_due, reportable}
use Rattle.choices.specs.Choices.{chosen}
use Rattle.rules.specs.Machine.{with_log, least_seen, purged_in, keep_alive_in, next_instant_in, statistics_in, has_subscription_in, cancels, removed, cleared_in, with_cancel, open_with, stays, stored_after, completed_in, attribute_in, send_if_empty_in, any_reportable_in, with_next, next_id_after, added, resumed_to, noted_in, outcome, with_ones, opened_in, next_up, reported, act, ready, objections, first_of, refusal, step, Outcome, Turn, turned, round_from, round_in, run, answers}
use Rattle.changes.specs.Logs.{changed_since, watermark_of, noted, purged, cleared, any_since}
use Rattle.subscription.specs.Life.{failed, priming, resumed}
use Rattle.rules.specs.States.{has_id, State, fresh, counted, capacity_fits, is_report, report_open}
use Rattle.rules.specs.Calls.{Op}
use Rattle.rules.specs.Calls as call

-- ---- what a report hands out, and what it leaves

pub ready_is : (at : Settings) (s : State) (x : Subscription)
    → ready at s x ≡ reportable x at.now (any_since s.log x.seen) at.events at.kind at.all
unfolding ready
ready_is at s x = refl

pub act_report : (at : Settings) (s : State) → act (call.report at) s ≡ reported at s
unfolding act
act_report at s = refl

pub reported_one : (at : Settings) (s : State) → some (ready at s) s.stored ≡ true
    → reported at s
    ≡ outcome (call.handed (next_up at s).id (next_up at s).rx)
    (with_ones s (take_out (ready at s) s.stored) (opened_in at s (next_up at s) ∷ s.opens))
unfolding reported
reported_one at s h = rw (h, reported)

pub reported_none : (at : Settings) (s : State) → some (ready at s) s.stored ≡ false → reported at s ≡ outcome call.nothing s
unfolding reported
reported_none at s h = rw (h, reported)

-- ---- what the other calls do, one by one

module _ (s : State) where
  pub act_new : (capacity : ℕ) → act (call.new capacity) s ≡ outcome (call.number capacity) (fresh capacity)
  unfolding act
  act_new capacity = refl

  pub act_add : (request : Request) (events : ℕ) (now : Instant)
      → act (call.add request events now) s
      ≡ outcome (call.number s.next)
      (with_next (with_ones s s.stored (priming request s.next (watermark_of s.log) events now ∷ s.opens)) (next_id_after s.next s.next))
  unfolding act added
  act_add request events now = refl

  pub act_resume : (id : ℕ) (request : Request) (events : ℕ)
      → act (call.resume id request events) s
      ≡ outcome (call.number id)
      (with_next (with_ones s (s.stored ++ (resumed request id (watermark_of s.log) events ∷ [])) s.opens) (next_id_after s.next id))
  unfolding act resumed_to
  act_resume id request events = refl

  pub act_note : (e c a : ℕ)
      → act (call.note e c a) s
      ≡ outcome (call.heard s.log.next true) (with_log s (noted s.log e c a).log)
  unfolding act noted_in
  act_note e c a = refl

  pub act_complete : (id o : ℕ)
      → act (call.complete id o) s
      ≡ outcome (call.completed (stays (open_with id s) o s) (failed (open_with id s) o))
      (with_cancel (with_ones s (stored_after (open_with id s) o s) (take_out_newest (has_id id) s.opens)) (cond (is_report (open_with id s)) 0 s.cancel))
  unfolding act completed_in
  act_complete id o = refl

  pub act_completed : (id o : ℕ) → act (call.complete id o) s ≡ completed_in id o s
  unfolding act
  act_completed id o = refl

  pub act_attribute : (id e c a : ℕ)
      → act (call.attribute id e c a) s
      ≡ outcome (call.yes_no (never_reported (open_with id s).reported || changed_since s.log e c a (open_with id s).seen)) s
  unfolding act attribute_in
  act_attribute id e c a = refl

  pub act_send : (id : ℕ) (kind : KeepAlive)
      → act (call.send_if_empty id kind) s ≡ outcome (call.yes_no (is_due (open_with id s) (open_with id s).opened kind)) s
  unfolding act send_if_empty_in
  act_send id kind = refl

  pub act_any : (now : Instant) (events : ℕ) (kind : KeepAlive)
      → act (call.any_reportable now events kind) s
      ≡ outcome (call.yes_no (some (ready (record { now = now; events = events; kind = kind; all = false }) s) s.stored)) s
  unfolding act any_reportable_in
  act_any now events kind = refl

  pub act_next : (events : ℕ) (kind : KeepAlive)
      → act (call.next_instant events kind) s
      ≡ outcome (call.instant (record { ms = least_by (λ x. (next_of x (any_since s.log x.seen) events kind).ms) last_instant.ms s.stored })) s
  unfolding act next_instant_in
  act_next events kind = refl

  pub act_statistics : (fabric : ℕ)
      → act (call.statistics fabric) s
      ≡ outcome (call.stats (counted s) (cond (eqb fabric 0) 0 (count (λ x. eqb x.fabric fabric) s.stored)) (s.next - 1)) s
  unfolding act statistics_in
  act_statistics fabric = refl

  pub act_has : (fabric peer : ℕ)
      → act (call.has_subscription fabric peer) s
      ≡ outcome (call.yes_no (some (λ x. eqb x.fabric fabric && (eqb x.peer peer && eqb x.fails 0)) s.stored)) s
  unfolding act has_subscription_in
  act_has fabric peer = refl

  pub act_remove : (choice : Choice) (reason : ℕ)
      → act (call.remove choice reason) s
      ≡ outcome (call.yes_no (some (chosen choice) s.stored || cancels choice s))
      (with_cancel (with_ones s (sweep (chosen choice) s.stored) s.opens) (cond (cancels choice s) reason s.cancel))
  unfolding act removed
  act_remove choice reason = refl

  pub act_clear : act call.clear s
      ≡ outcome (call.yes_no false) (with_cancel (with_ones s [] s.opens) (cond (some is_report s.opens) 255 s.cancel))
  unfolding act cleared_in report_open
  act_clear = refl

  pub act_purge : act call.purge s
      ≡ outcome call.done
      (with_log s
      (cond (ltb 0 (length s.opens)) s.log
      (cond (ltb 0 (length s.stored)) (purged s.log (least_seen s.stored)).log (cleared s.log).log)))
  unfolding act purged_in
  act_purge = refl

  pub act_alive : act call.next_keep_alive s ≡ outcome (call.keep_alive (keep_alive_in s.stored)) s
  unfolding act
  act_alive = refl

-- nobody's next keep-alive, and that of some
pub alive_none : keep_alive_in [] ≡ None
unfolding keep_alive_in
alive_none = refl

pub alive_some : (x : Subscription) (xs : List Subscription)
    → keep_alive_in (x ∷ xs) ≡ Some (record { ms = least_by (λ y. (due_of y Icd).ms) (due_of x Icd).ms xs })
unfolding keep_alive_in
alive_some x xs = refl

-- a new table takes no state: it is made, or refused for its capacity alone
pub new_made : (capacity : ℕ) (s : State) → capacity_fits capacity ≡ true → step (call.new capacity) s ≡ outcome (call.number capacity) (fresh capacity)
unfolding step refusal objections first_of act
new_made capacity s h = rw (h, first_of, step)

pub new_refused : (capacity : ℕ) (s : State) → capacity_fits capacity ≡ false → step (call.new capacity) s ≡ outcome (call.refused BadArgument) s
unfolding step refusal objections first_of act
new_refused capacity s h = rw (h, first_of, step)

-- a round goes on while somebody is reportable and an outcome is left
pub round_over : (at : Settings) (t : Turn) → round_from at [] t ≡ t
unfolding round_from
round_over at t = refl

module _ (at : Settings) (o : ℕ) (os : List ℕ) (t : Turn) where
  pub round_goes_on : some (ready at t.state) t.state.stored ≡ true → round_from at (o ∷ os) t ≡ round_from at os (turned at o t)
  unfolding round_from
  round_goes_on h = rw (h, round_from)

  pub round_falls_silent : some (ready at t.state) t.state.stored ≡ false → round_from at (o ∷ os) t ≡ t
  unfolding round_from
  round_falls_silent h = rw (h, round_from)

-- what a round answers and leaves where it stands in the end
abbrev pub round_ends : Settings → Turn → Outcome
round_ends at t =
    outcome (call.rounded t.hand_outs (not (some (ready at t.state) t.state.stored)) t.ids) t.state

pub act_round : (s : State) (at : Settings) (os ids : List ℕ)
    → act (call.round at os ids) s ≡ round_ends at (round_from at os (record { hand_outs = 0; ids = ids; state = s }))
unfolding act round_in
act_round s at os ids = refl

-- a history, call by call
pub run_none : (s : State) → run [] s ≡ s
unfolding run
run_none s = refl

pub run_more : (op : Op) (ops : List Op) (s : State) → run (op ∷ ops) s ≡ run ops (step op s).state
unfolding run
run_more op ops s = refl

pub answers_none : (s : State) → answers [] s ≡ []
unfolding answers
answers_none s = refl

pub answers_more : (op : Op) (ops : List Op) (s : State) → answers (op ∷ ops) s ≡ ((step op s).answer ∷ answers ops (step op s).state)
unfolding answers
answers_more op ops s = refl
