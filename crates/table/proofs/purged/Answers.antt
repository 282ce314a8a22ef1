-- `purged` meets its contract: each return is a case of the definition, with the log's own purge or emptying.
-- Assumes nothing.
use Rattle.std.proofs.Common.{ap, le-ltb, lt-ltb}
use Rattle.places.specs.Calls.{purged_table}
use Rattle.table.proofs.purged.Goals as goal

pub returns-then-table-gt0 : goal.returns-then-table-gt0
unfolding purged_table
returns-then-table-gt0 c = rw (lt-ltb _ _ c.if-table-gt0.true, purged_table)

pub returns-then-table-gt0-2 : goal.returns-then-table-gt0-2
unfolding purged_table
returns-then-table-gt0-2 c =
    rw (le-ltb _ _ c.if-table-gt0.false, lt-ltb _ _ c.if-table-gt0-2.true, purged_table)
    (rw (← c.stored.ensures.are, ← c.least_seen-seen.ensures, ← ap (λ r. r.log) c.purge_up_to.ensures))

pub returns-else-table-gt0-2 : goal.returns-else-table-gt0-2
unfolding purged_table
returns-else-table-gt0-2 c =
    rw (le-ltb _ _ c.if-table-gt0.false, le-ltb _ _ c.if-table-gt0-2.false, purged_table) (rw (← ap (λ r. r.log) c.clear.ensures))
