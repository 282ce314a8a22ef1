-- A round: turn by turn the Rust hands out and completes what the machine does.
-- Assumes nothing.
use Rattle.std.specs.Prelude.{None}
use mathlib.Core.Path.{◌≡◌, sym, ap, ◌∙◌}
use mathlib.Core.Bool.{true, false, not}
use mathlib.Core.List.{List, [], ◌∷◌, map}
use Prim.Native.Nat.{ℕ, ◌+◌, ◌≤◌}
use borrow.Author.Tests.{eq-eqb, ltb-false}
use lib.ListN.{set}
use Rattle.lists.specs.Search.{some}
use Rattle.lists.specs.Removal.{take_out_newest}
use Rattle.lists.proofs.Bools.{split, or_neither}
use Rattle.lists.proofs.Counts.{some_cons, newest_out}
use Rattle.changes.specs.Logs.{watermark_of}
use Rattle.subscription.specs.declared.Settings.{Settings}
use Rattle.subscription.proofs.Laws.{opened_id}
use Rattle.rules.specs.States.{State, report_open, has_id}
use Rattle.rules.specs.Calls as call
use Rattle.rules.specs.Machine as machine
use Rattle.rules.specs.Machine.{bad_outcome, first_of, objections, ready, next_up, opened_in, open_with, reported, completed_in, round_from, act}
use Rattle.rules.proofs.Acts.{act_complete, act_completed, round_over, round_goes_on, round_falls_silent, act_round}
use Rattle.rules.proofs.Clauses.{has_id_is, round_objects}
use Rattle.rules.proofs.Objections.{unobjected}
use Rattle.rules.proofs.Keeping.{report_sound}
use Rattle.rules.proofs.Lives.{handed_state, turn_open, turn_found}
use Rattle.rules.proofs.Steps.{turn_sound, turn_shut}
use Rattle.original.specs.Table.{Subscriptions, with_contexts, report_complete}
use Rattle.original.specs.Calls.{Turn, reply, said, turns, rounded, call_on}
use Rattle.original.specs.Likeness.{subscription_of, context_of, original_of}
use Rattle.original.proofs.Alike.{reply_of, Fit}
use Rattle.original.proofs.SameReports.{left, report_one, report_none, opened_plain, left_same, any_same}
use Rattle.original.proofs.SameCompletion.{complete_table}

-- where the original stands in a round
abbrev turn_of : machine.Turn → Turn
turn_of t = record { hand_outs = t.hand_outs; ids = t.ids; table = original_of t.state }

module _ (at : Settings) (o : ℕ) (s : State) (fit : Fit s) (shut : report_open s ≡ false)
    (found : some (ready at s) s.stored ≡ true) (good : o ≤ 4) where
  -- who is handed out, and the state then
  abbrev who : ℕ
  who = (next_up at s).id

  abbrev out : State
  out = (reported at s).state

  -- its context is the newest, so that without it the others stand as they stood
  others : take_out_newest (has_id who) out.opens ≡ s.opens
  others =
      ap (λ u. take_out_newest (has_id who) u.opens) (handed_state at s found)
      ∙ newest_out (has_id who) (opened_in at s (next_up at s)) s.opens
      (has_id_is who (opened_in at s (next_up at s))
      ∙ eq-eqb (opened_in at s (next_up at s)).id who (opened_id (next_up at s) (watermark_of s.log) at.events at.now))

  held_is : with_contexts (map context_of (take_out_newest (has_id who) out.opens)) (original_of out) ≡ left at s
  unfolding original_of
  held_is =
      ap (λ l. with_contexts (map context_of l) (original_of out)) others
      ∙ ap (λ u. with_contexts (map context_of s.opens) (original_of u)) (handed_state at s found)
      ∙ ap (with_contexts (map context_of s.opens)) (sym (left_same at s fit found))

  -- the turn's completion
  turn_table : report_complete (said o (context_of (opened_in at s (next_up at s)))) (left at s) ≡ original_of (completed_in who o out).state
  turn_table =
      ap (λ x. report_complete (said o (context_of x)) (left at s)) (sym (turn_open at s found))
      ∙ ap (report_complete (said o (context_of (open_with who out)))) (sym held_is)
      ∙ complete_table out who o (report_sound s at fit.sound shut) good (turn_found at s found)
      ∙ ap (λ r. original_of r.state) (sym (act_complete out who o) ∙ act_completed out who o)

  -- the log stays as it is
  turn_log : (completed_in who o out).state.log ≡ s.log
  turn_log =
      ap (λ r. r.state.log) (sym (act_completed out who o) ∙ act_complete out who o) ∙ ap (λ u. u.log) (handed_state at s found)

  pub turn_fit : Fit (completed_in who o out).state
  turn_fit =
      record {
        sound = turn_sound s at o fit.sound shut found;
        identities = rw turn_log fit.identities;
      }

-- where the original stands after a turn in which somebody with the id was handed out
abbrev turn_to : machine.Turn → ℕ → Subscriptions → Turn
turn_to t id u = record { hand_outs = t.hand_outs + 1; ids = set t.ids t.hand_outs id; table = u }

pub turns_same : (at : Settings) (os : List ℕ) (t : machine.Turn) → Fit t.state → report_open t.state ≡ false
    → some bad_outcome os ≡ false
    → turns at os (turn_of t) ≡ turn_of (round_from at os t)
unfolding turns context_of subscription_of
turns_same at [] t fit shut good = ap turn_of (sym (round_over at t))
turns_same at (o ∷ os) t fit shut good =
    let w = or_neither (bad_outcome o) (some bad_outcome os) (sym (some_cons bad_outcome o os) ∙ good) in
    let s = t.state in
    split (some (ready at s) s.stored)
    (λ f. rw (report_one at s fit f, turns)
    (ap (λ x. turns at os (turn_to t x.id (report_complete (said o (context_of (opened_in at s (next_up at s)))) (left at s))))
    (opened_plain at s fit f)
    ∙ ap (λ u. turns at os (turn_to t (next_up at s).id u))
    (turn_table at o s fit shut f (ltb-false 4 o w.0))
    ∙ turns_same at os (machine.turned at o t) (turn_fit at o s fit shut f (ltb-false 4 o w.0)) (turn_shut s at o shut f) w.1
    ∙ ap turn_of (sym (round_goes_on at o os t f))))
    (λ f. rw (report_none at s f, turns) (ap turn_of (sym (round_falls_silent at o os t f))))

pub round_same : (s : State) → Fit s → (at : Settings) (os ids : List ℕ) → first_of (objections (call.round at os ids) s) ≡ None
    → call_on (call.round at os ids) (original_of s) ≡ reply_of (act (call.round at os ids) s)
unfolding call_on
round_same s fit at os ids e =
    let a = unobjected _ _ _ (ap first_of (sym (round_objects s at os ids)) ∙ e) in
    let good = (or_neither (some bad_outcome os) _ a.0).0 in
    let shut = (unobjected _ _ _ a.1).0 in
    let end = round_from at os (record { hand_outs = 0; ids = ids; state = s }) in
    rw (act_round s at os ids)
    (ap (rounded at) (turns_same at os (record { hand_outs = 0; ids = ids; state = s }) fit shut good)
    ∙ ap (λ b. reply (call.rounded end.hand_outs (not b) end.ids) (original_of end.state)) (any_same at end.state))
