-- Demand 1: a call "either acts or gives a numbered refusal .. that alters nothing", and number 7 comes exactly where it should.
-- A step is one or the other by definition; that no other objection has the number 7 is read off the table of objections.
-- Assumes nothing.
use Rattle.std.specs.Prelude.{Option, Some, None}
use mathlib.Core.Path.{◌≡◌, refl}
use mathlib.Core.Bool.{not, ◌&&◌}
use Rattle.refusal.specs.declared.Refusal.{Refusal}
use Rattle.lists.proofs.Bools.{split}
use Rattle.rules.specs.States.{State, well_kept}
use Rattle.rules.specs.Calls as call
use Rattle.rules.specs.Calls.{Op}
use Rattle.rules.specs.Numbers.{refusal_of}
use Rattle.rules.specs.Histories.{numbered}
use Rattle.rules.specs.Machine.{Outcome, first_of, objections, takes_state, refusal, outcome, act, step_by, step}
use Rattle.rules.proofs.Objections.{no_number, other_numbers, act_unrefused}

-- A refused call answers its refusal and leaves the state as it was given.
pub refused_alters_nothing : (op : Op) (s : State) (why : Refusal) → refusal op s ≡ Some why → step op s ≡ outcome (call.refused why) s
unfolding step
refused_alters_nothing op s why e = rw e

-- A call that is not refused acts.
pub unrefused_acts : (op : Op) (s : State) → refusal op s ≡ None → step op s ≡ act op s
unfolding step
unrefused_acts op s e = rw e

-- So what holds after every act, and of every state with a refusal, holds after every step.
pub step_either : (P : Outcome → Type 0) (op : Op) (s : State) → (refusal op s ≡ None → P (act op s))
    → ((why : Refusal) → refusal op s ≡ Some why → P (outcome (call.refused why) s)) → P (step op s)
unfolding step
step_either P op s acts refuses = go (refusal op s) refl
  where
    go : (r : Option Refusal) → refusal op s ≡ r → P (step_by r op s)
    go None e = acts e
    go (Some why) e = refuses why e

-- Number 7 is given exactly where the call takes a state and the state is not well kept.
pub seven_exactly : (op : Op) (s : State) → numbered 7 (refusal op s) ≡ (takes_state op && not (well_kept s))
unfolding refusal first_of
seven_exactly op s =
    split (takes_state op && not (well_kept s))
    (λ t. rw (t, first_of))
    (λ t. rw (t, first_of) (no_number 7 (objections op s) (other_numbers op s)))

-- A call is answered by its refusal, and by none where it acts.
pub same_refusal : (op : Op) (s : State) → refusal_of (step op s).answer ≡ refusal op s
unfolding step
same_refusal op s = go (refusal op s)
  where
    go : (r : Option Refusal) → refusal_of (step_by r op s).answer ≡ r
    go None = act_unrefused op s
    go (Some why) = refl
