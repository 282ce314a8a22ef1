-- A round is a sequence of reports and completions: its answer and its state are those of the calls in `calls_of`, one after another.
-- `Turns` takes it turn by turn; none of the calls is refused, since the round was not.
-- Assumes nothing.
use Rattle.std.specs.Prelude.{None}
use mathlib.Core.Path.{◌≡◌, ◌∙◌}
use mathlib.Core.Bool.{true, not}
use mathlib.Core.List.{List, [], ◌∷◌}
use Prim.Native.Nat.{ℕ, ◌+◌, ◌≤◌}
use native.Mathlib.Omega.{arith}
use native.Mathlib.Nat.{zero-add}
use borrow.Author.Tests.{not-false}
use lib.ListN.{length}
use lib.Seq.{sets}
use Rattle.refusal.specs.declared.Refusal.TheVariants.{NotWellKept}
use Rattle.lists.specs.Search.{some}
use Rattle.lists.proofs.Bools.{split, or_neither}
use Rattle.rules.specs.States.{State, well_kept}
use Rattle.rules.specs.Calls as call
use Rattle.rules.specs.Calls.{Settings}
use Rattle.rules.specs.Rounds.{calls_of, handed_ids}
use Rattle.rules.specs.Machine.{bad_outcome, objections, refusal, outcome, ready, Turn, turned, round_from, round_in, act, step, run, answers}
use Rattle.rules.proofs.Objections.{unobjected, no_objection}
use Rattle.rules.proofs.Refusals.{unrefused_acts}
use Rattle.rules.proofs.Sound.{kept_sound}
use Rattle.rules.proofs.Turns.{round_stands}

module _ (at : Settings) (outcomes ids : List ℕ) (s : State) (unrefused : refusal (call.round at outcomes ids) s ≡ None) where
  kept : well_kept s ≡ true
  unfolding refusal
  kept = not-false _ (unobjected (not (well_kept s)) NotWellKept _ unrefused).0

  -- A round that is not refused hands out whom its calls hand out, writes their ids from the front, and leaves the state that they leave.
  pub round_is_its_calls : step (call.round at outcomes ids) s
      ≡ outcome
      (call.rounded (length (handed_ids (answers (calls_of at outcomes s) s)))
      (not (some (ready at (run (calls_of at outcomes s) s)) (run (calls_of at outcomes s) s).stored))
      (sets ids 0 (handed_ids (answers (calls_of at outcomes s) s))))
      (run (calls_of at outcomes s) s)
  unfolding act objections round_in
  round_is_its_calls =
      let a = unobjected _ _ _ (no_objection (call.round at outcomes ids) s unrefused) in
      let shut = (unobjected _ _ _ a.1).0 in
      let good = (or_neither (some bad_outcome outcomes) _ a.0).0 in
      unrefused_acts (call.round at outcomes ids) s unrefused
      ∙ rw (round_stands at outcomes (record { hand_outs = 0; ids = ids; state = s }) (kept_sound s kept) shut good, zero-add)

-- It hands out no more than it has outcomes.
pub round_most : (at : Settings) (os : List ℕ) (t : Turn) → (round_from at os t).hand_outs ≤ t.hand_outs + length os
unfolding round_from
round_most at [] t = omega arith
round_most at (o ∷ os) t =
    split (some (ready at t.state) t.state.stored)
    (λ e. rw (e, round_from) (omega (arith, round_most at os (turned at o t))))
    (λ e. rw (e, round_from) (omega arith))
