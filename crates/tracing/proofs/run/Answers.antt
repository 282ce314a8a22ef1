-- `run` meets its contract. What is left of the chunk is run as the whole is, from where the run stands: each turn is one scan, by the laws of
-- Scanning.
-- Assumes nothing.
use mathlib.Core.Bool.{true}
use mathlib.Core.Path.{◌≡◌, sym, ap, ◌∙◌}
use Prim.Native.Nat.{◌+◌, ◌≤◌}
use native.Mathlib.Omega.{arith}
use lib.Dec.{leb}
use lib.ListN.{length, drop_of_length-le}
use Rattle.printing.specs.Answers.{answer_room}
use Rattle.tracing.specs.Runs.{run_from}
use Rattle.tracing.proofs.Scanning.{run_full, run_done, turn_within, turn_moves, turn_none, turn_answered}
use Rattle.tracing.proofs.run.Goals as goal
use Rattle.tracing.proofs.run.Goals.{After-scan-k}

-- behind the scan: there was room, and what it used of the chunk is there
room : (c : After-scan-k) →
    let k = c.loop-used in leb (k.wrote + answer_room) (length k.out) ≡ true
room c = sym c.has_room.ensures ∙ c.if-not-has_room.false

within : (c : After-scan-k) →
    c.loop-used.used + c.scan-k.result.used ≤ length c.args.s.now
within c = turn_within _ _ _ c.args.s.now _ _ c.scan-k.ensures c.loop-used.invariant.1.0

pub returns-then-not-has_room : goal.returns-then-not-has_room
returns-then-not-has_room c =
    let k = c.loop-used in
    sym (k.invariant.0 ∙ run_full _ _ (sym c.has_room.ensures ∙ c.if-not-has_room.true))

pub overflow_add-used : goal.overflow_add-used
overflow_add-used c = omega (arith, within (goal.at.overflow_add-used c).After-scan-k)

pub returns-then-not-ends : goal.returns-then-not-ends
returns-then-not-ends c =
    let k = c.loop-used in
    sym (k.invariant.0 ∙ turn_none _ _ _ _ _ _ _ _ _ c.scan-k.ensures (room (goal.at.returns-then-not-ends c).After-scan-k) k.invariant.1.0 (sym c.ends.ensures ∙ c.if-not-ends.true))

pub loop-used-smaller : goal.loop-used-smaller
loop-used-smaller c =
    omega (arith, turn_moves _ _ _ c.args.s.now _ _ c.scan-k.ensures c.loop-used-test.true, within (goal.at.loop-used-smaller c).After-scan-k)

pub loop-used-preserved : goal.loop-used-preserved
loop-used-preserved c =
    let k = c.loop-used in (
      k.invariant.0
          ∙ turn_answered _ _ _ _ _ _ _ _ _ c.scan-k.ensures (room (goal.at.loop-used-preserved c).After-scan-k) (sym c.ends.ensures ∙ c.if-not-ends.false) _ _ _ _
          c.line_in.ensures
          c.answer-said.ensures
          (rw (c.code.ensures, c.value.ensures) at c.put_answer-wrote.ensures),
      (within (goal.at.loop-used-preserved c).After-scan-k, c.scan-k.auto.held ∙ k.invariant.1.1, c.put_answer-wrote.auto.out ∙ k.invariant.1.2),
    )

pub returns : goal.returns
returns c =
    sym (c.loop-used.invariant.0 ∙ ap (run_from _) (drop_of_length-le _ c.loop-used-test.false) ∙ run_done _)
