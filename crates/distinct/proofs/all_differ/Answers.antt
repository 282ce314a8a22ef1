-- `all_differ` meets its contract: one turn marks one residue.
-- Assumes nothing.
use mathlib.Core.Path.{refl}
use native.Mathlib.Omega.{arith}
use Rattle.std.proofs.lemmas.List.{take_more}
use Rattle.distinct.proofs.Marks.{mark_begin, mark_step}
use Rattle.distinct.proofs.all_differ.Goals as goal

pub loop-id-init : goal.loop-id-init
loop-id-init c = mark_begin _ refl

pub loop-id-preserved : goal.loop-id-preserved
loop-id-preserved c =
    rw (take_more c.args.ids.now c.loop-id.id-index 0 (omega arith))
    (mark_step _ _ _ c.loop-id.invariant c.if-seen-residue.false)
