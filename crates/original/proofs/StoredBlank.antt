-- A stored subscription has blank opening values, on every history: it is stored so by a resumption and by a completion, and a removal and
-- a hand-out bring nobody in.
-- Assumes nothing.
use mathlib.Core.Path.{◌≡◌, sym, ◌∙◌}
use mathlib.Core.Bool.{Bool, true, false, cond, not, ◌&&◌}
use mathlib.Core.List.{List, [], ◌∷◌, ◌++◌}
use Prim.Native.Nat.{ℕ}
use native.Mathlib.Omega.{arith}
use lib.Dec.{eqb}
use Rattle.lists.specs.Search.{some, count}
use Rattle.lists.proofs.Bools.{split}
use Rattle.lists.proofs.Counts.{one_no, count_nil, count_end, count_taken, count_swept}
use Rattle.changes.specs.Logs.{watermark_of}
use Rattle.subscription.specs.declared.Request.{Request}
use Rattle.subscription.specs.declared.Subscription.{Subscription}
use Rattle.subscription.specs.Life.{blank, resumed, closed}
use Rattle.subscription.proofs.Cases.{resumed_is, closed_is, stored_with_is}
use Rattle.choices.specs.Choices.{chosen}
use Rattle.rules.specs.States.{State}
use Rattle.rules.specs.Calls as call
use Rattle.rules.specs.Calls.{Settings, Op}
use Rattle.rules.specs.Machine.{ready, open_with, stays, reported, completed_in, Turn, turned, round_from, act, step}
use Rattle.rules.proofs.Acts.{act_new, act_add, act_resume, act_note, act_report, reported_none, act_complete, act_completed, act_remove, act_clear, act_purge, act_attribute, act_send, act_any, act_next, act_statistics, act_has, act_alive, round_over, round_goes_on, round_falls_silent, act_round}
use Rattle.rules.proofs.Lives.{handed_state}
use Rattle.rules.proofs.Refusals.{step_either}

-- its opening values are not blank
abbrev pub opens : Subscription → Bool
opens x = not (eqb x.mark 0 && (eqb x.events 0 && (eqb x.opened.ms 0 && not x.reporting)))

-- of no stored one
abbrev pub Blank : State → Type 0
Blank s = count opens s.stored ≡ 0

resumed_blank : (s : State) (id : ℕ) (request : Request) (events : ℕ) → opens (resumed request id (watermark_of s.log) events) ≡ false
resumed_blank s id request events = rw (resumed_is request id (watermark_of s.log) events)

closed_blank : (x : Subscription) (o : ℕ) → opens (closed x o) ≡ false
closed_blank x o =
    rw (closed_is x o)
    (split (eqb o 2)
    (λ t. rw (t, stored_with_is))
    (λ t. rw t (split (eqb o 1) (λ u. rw (u, stored_with_is)) (λ u. rw (u, stored_with_is)))))

report_blank : (at : Settings) (s : State) → Blank s → Blank (reported at s).state
report_blank at s h =
    split (some (ready at s) s.stored)
    (λ t. rw (handed_state at s t) (omega (arith, count_taken opens (ready at s) blank s.stored t)))
    (λ t. rw (reported_none at s t) h)

complete_blank : (id o : ℕ) (s : State) → Blank s → Blank (completed_in id o s).state
complete_blank id o s h = rw (sym (act_completed s id o) ∙ act_complete s id o) (go (stays (open_with id s) o s))
  where
    go : (b : Bool) → count opens (cond b (s.stored ++ (closed (open_with id s) o ∷ [])) s.stored) ≡ 0
    go true = omega (arith, count_end opens s.stored (closed (open_with id s) o), one_no (closed_blank (open_with id s) o))
    go false = h

round_blank : (at : Settings) (os : List ℕ) (t : Turn) → Blank t.state → Blank (round_from at os t).state
round_blank at [] t h = rw (round_over at t) h
round_blank at (o ∷ os) t h =
    split (some (ready at t.state) t.state.stored)
    (λ f. rw (round_goes_on at o os t f) (round_blank at os (turned at o t) (complete_blank _ o _ (report_blank at t.state h))))
    (λ f. rw (round_falls_silent at o os t f) h)

act_blank : (op : Op) (s : State) → Blank s → Blank (act op s).state
act_blank (call.new capacity) s h = rw (act_new s capacity) (count_nil opens)
act_blank (call.add request events now) s h = rw (act_add s request events now) h
act_blank (call.resume id request events) s h =
    rw (act_resume s id request events)
    (omega (
      arith,
      count_end opens s.stored (resumed request id (watermark_of s.log) events),
      one_no (resumed_blank s id request events),
    ))
act_blank (call.note e c a) s h = rw (act_note s e c a) h
act_blank (call.report at) s h = rw (act_report at s) (report_blank at s h)
act_blank (call.complete id o) s h = rw (act_completed s id o) (complete_blank id o s h)
act_blank (call.remove choice reason) s h =
    rw (act_remove s choice reason) (omega (arith, count_swept opens (chosen choice) s.stored))
act_blank call.clear s h = rw (act_clear s) (count_nil opens)
act_blank call.purge s h = rw (act_purge s) h
act_blank (call.attribute id e c a) s h = rw (act_attribute s id e c a) h
act_blank (call.send_if_empty id kind) s h = rw (act_send s id kind) h
act_blank (call.next_instant events kind) s h = rw (act_next s events kind) h
act_blank (call.any_reportable now events kind) s h = rw (act_any s now events kind) h
act_blank call.next_keep_alive s h = rw (act_alive s) h
act_blank (call.statistics fabric) s h = rw (act_statistics s fabric) h
act_blank (call.has_subscription fabric peer) s h = rw (act_has s fabric peer) h
act_blank (call.round at os ids) s h = rw (act_round s at os ids) (round_blank at os (record { hand_outs = 0; ids = ids; state = s }) h)

pub step_blank : (op : Op) (s : State) → Blank s → Blank (step op s).state
step_blank op s h = step_either (λ r. Blank r.state) op s (λ e. act_blank op s h) (λ why e. h)
