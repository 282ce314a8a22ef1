-- `is_live` meets its contract: each slice tells whether one of it has the id.
-- Assumes nothing.
use Rattle.std.proofs.Common.{sym, ◌∙◌}
use Rattle.rules.specs.States.{has_id}
use Rattle.table.proofs.Asked.{asked}
use Rattle.table.proofs.admission.is_live.Goals as goal

pub returns-then-any_with_id : goal.returns-then-any_with_id
returns-then-any_with_id c =
    let here = asked (has_id c.args.id) c.stored.ensures.are c.any_with_id.ensures in
    rw (sym here ∙ c.if-any_with_id.true) c.if-any_with_id.true

pub returns-else-any_with_id : goal.returns-else-any_with_id
returns-else-any_with_id c =
    let here = asked (has_id c.args.id) c.stored.ensures.are c.any_with_id.ensures in
    rw (sym here ∙ c.if-any_with_id.false) (asked (has_id c.args.id) c.open.ensures c.any_with_id-else-any_with_id.ensures)
