-- A turn of a round is a report and a completion, neither refused; so a round goes as the calls that it stands for.
-- Assumes nothing.
use Rattle.std.specs.Prelude.{None}
use mathlib.Core.Path.{◌≡◌, refl, sym, ◌∙◌}
use mathlib.Core.Bool.{true, false, and-false}
use mathlib.Core.List.{List, [], ◌∷◌}
use Prim.Native.Nat.{ℕ, suc, ◌+◌}
use native.Mathlib.Omega.{arith}
use native.Mathlib.Nat.{add-zero}
use native.Mathlib.Numerals.{add-one}
use lib.ListN.{length}
use lib.Seq.{sets}
use Rattle.lists.specs.Search.{some}
use Rattle.lists.proofs.Bools.{split, or_neither}
use Rattle.lists.proofs.Counts.{some_cons}
use Rattle.rules.specs.States.{State, report_open, well_kept}
use Rattle.rules.specs.Calls as call
use Rattle.rules.specs.Calls.{Settings, Op}
use Rattle.rules.specs.Rounds.{calls_of, handed_id, handed_ids}
use Rattle.rules.specs.Machine.{next_up, first_of, bad_outcome, objections, takes_state, refusal, outcome, ready, reported, completed_in, Turn, turned, round_from, act, step, run, answers}
use Rattle.rules.proofs.Refusals.{unrefused_acts}
use Rattle.rules.proofs.Lives.{turn_found}
use Rattle.rules.proofs.Sound.{Sound, sound_kept}
use Rattle.rules.proofs.Keeping.{report_sound}
use Rattle.rules.proofs.Steps.{turn_sound, turn_shut}

-- a well-kept state refuses only what is objected to
unrefused : (op : Op) (s : State) → well_kept s ≡ true → first_of (objections op s) ≡ None → refusal op s ≡ None
unfolding refusal first_of
unrefused op s h e = rw (h, and-false (takes_state op), first_of) e

-- a report with nobody reportable tells so and alters nothing
pub report_silent : (at : Settings) (s : State) → Sound s → report_open s ≡ false → some (ready at s) s.stored ≡ false
    → step (call.report at) s ≡ outcome call.nothing s
unfolding objections first_of act reported
report_silent at s h shut idle =
    unrefused_acts (call.report at) s (unrefused (call.report at) s (sound_kept s h) (rw (shut, first_of))) ∙ rw (idle, reported)

module _ (at : Settings) (o : ℕ) (s : State) (h : Sound s) (shut : report_open s ≡ false) (found : some (ready at s) s.stored ≡ true) where
  pub report_step : step (call.report at) s ≡ outcome (call.handed (next_up at s).id (next_up at s).rx) (reported at s).state
  unfolding objections first_of act reported
  report_step =
      unrefused_acts (call.report at) s (unrefused (call.report at) s (sound_kept s h) (rw (shut, first_of))) ∙ rw (found, reported)

  pub complete_step : bad_outcome o ≡ false
      → step (call.complete (next_up at s).id o) (reported at s).state ≡ completed_in (next_up at s).id o (reported at s).state
  unfolding objections first_of act
  complete_step good =
      unrefused_acts (call.complete (next_up at s).id o) (reported at s).state
      (unrefused (call.complete (next_up at s).id o) (reported at s).state (sound_kept (reported at s).state (report_sound s at h shut))
      (rw (good, turn_found at s found, first_of)))

-- a completion hands nobody out
none_handed : (id o : ℕ) (s : State) → handed_id (completed_in id o s).answer ≡ []
unfolding completed_in
none_handed id o s = refl

-- where a round stands after the calls
abbrev pub standing : List Op → Turn → Turn
standing ops t =
    record {
      hand_outs = t.hand_outs + length (handed_ids (answers ops t.state));
      ids = sets t.ids t.hand_outs (handed_ids (answers ops t.state));
      state = run ops t.state;
    }

module _ (at : Settings) (o : ℕ) (t : Turn) (h : Sound t.state) (shut : report_open t.state ≡ false)
    (found : some (ready at t.state) t.state.stored ≡ true) (good : bad_outcome o ≡ false) where
  two_ids : (ops : List Op)
      → handed_ids (answers (call.report at ∷ call.complete (next_up at t.state).id o ∷ ops) t.state)
      ≡ (next_up at t.state).id ∷ handed_ids (answers ops (turned at o t).state)
  unfolding answers handed_ids
  two_ids ops =
      rw (
        report_step at o t.state h shut found,
        complete_step at o t.state h shut found good,
        none_handed (next_up at t.state).id o (reported at t.state).state,
      )

  two_run : (ops : List Op)
      → run (call.report at ∷ call.complete (next_up at t.state).id o ∷ ops) t.state ≡ run ops (turned at o t).state
  unfolding run
  two_run ops = rw (report_step at o t.state h shut found, complete_step at o t.state h shut found good)

  two_steps : (ops : List Op) → standing (call.report at ∷ call.complete (next_up at t.state).id o ∷ ops) t ≡ standing ops (turned at o t)
  two_steps ops =
      let more : t.hand_outs + suc (length (handed_ids (answers ops (turned at o t).state)))
      ≡ suc t.hand_outs + length (handed_ids (answers ops (turned at o t).state)) = omega arith in
      rw (two_ids ops, two_run ops, add-one t.hand_outs, more)

pub round_stands : (at : Settings) (os : List ℕ) (t : Turn) → Sound t.state → report_open t.state ≡ false → some bad_outcome os ≡ false
    → round_from at os t ≡ standing (calls_of at os t.state) t
unfolding round_from calls_of run answers handed_ids
round_stands at [] t h shut good = rw (add-zero t.hand_outs)
round_stands at (o ∷ os) t h shut good =
    let w = or_neither (bad_outcome o) (some bad_outcome os) (sym (some_cons bad_outcome o os) ∙ good) in
    split (some (ready at t.state) t.state.stored)
    (λ e. rw (e, round_from, calls_of)
    (round_stands at os (turned at o t) (turn_sound t.state at o h shut e) (turn_shut t.state at o shut e) w.1
    ∙ sym (two_steps at o t h shut e w.0 (calls_of at os (turned at o t).state))))
    (λ e. rw (e, round_from, calls_of) (rw (add-zero t.hand_outs)))
