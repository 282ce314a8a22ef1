-- `cancels` meets its contract: nothing is cancelled yet, and a scan of the open ones finds the report that the choice takes.
-- Assumes nothing.
use Rattle.std.proofs.Common.{eq-eqb, ne_eqb}
use Rattle.places.specs.Calls.{cancels_in}
use Rattle.places.specs.Tests.{struck}
use Rattle.table.proofs.Asked.{asked}
use Rattle.table.proofs.cancels.Goals as goal

pub returns-then-table-eq0 : goal.returns-then-table-eq0
unfolding cancels_in
returns-then-table-eq0 c =
    rw (eq-eqb _ _ c.if-table-eq0.true, cancels_in) (asked (struck c.args.choice) c.open.ensures c.any_struck.ensures)

pub returns-else-table-eq0 : goal.returns-else-table-eq0
unfolding cancels_in
returns-else-table-eq0 c = rw (ne_eqb _ _ c.if-table-eq0.false, cancels_in)
