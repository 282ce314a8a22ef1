-- `copy_ids` meets its contract. The invariant: the ids so far are those of the subscriptions so far, and the rest is as it was.
-- Assumes nothing.
use Rattle.std.proofs.Common.{arith}
use Rattle.table.proofs.Steps.{copied}
use Rattle.table.proofs.keeping.copy_ids.Goals as goal

pub loop-i-preserved : goal.loop-i-preserved
loop-i-preserved c = copied c.args.ids.now c.args.xs.now c.loop-i.i (omega arith) (omega arith) c.loop-i.invariant
