-- `serve` meets its contract: what is left of the round is the round of the outcomes that are left.
-- Assumes nothing.
use Rattle.std.proofs.Common.{◌≡◌, length, sym, ap, ◌∙◌, arith, length-set}
use Rattle.round.specs.Rounds.{stood}
use Rattle.round.proofs.Steps.{turn_made, turn_missed, turns_end}
use Rattle.round.proofs.serve.Goals as goal

pub loop-n-preserved : goal.loop-n-preserved
loop-n-preserved c =
    let l = c.loop-n in
    let made = ap (λ r. r.handed) c.take_turn.ensures in (
      l.invariant.0 ∙ turn_made _ _ _ _ _ c.loop-n-test.true (sym made ∙ c.in-Some.is) ∙ rw (← c.take_turn.ensures),
      l.invariant.1 ∙ sym (length-set l.ids l.n c.in-Some.id),
    )

pub returns-in-None : goal.returns-in-None
returns-in-None c =
    let l = c.loop-n in
    let made = ap (λ r. r.handed) c.take_turn.ensures in
    sym (l.invariant.0 ∙ turn_missed _ _ _ _ _ c.loop-n-test.true (sym made ∙ c.in-None.is) ∙ rw (← c.take_turn.ensures))

pub returns : goal.returns
returns c =
    let l = c.loop-n in
    let many : l.n ≡ length c.args.outcomes.now = omega (arith, c.loop-n-test.false, l.auto.n-end) in
    sym (l.invariant.0 ∙ turns_end _ _ _ _ _ c.loop-n-test.false ∙ ap (λ n. (stood n l.table, l.ids)) many)
