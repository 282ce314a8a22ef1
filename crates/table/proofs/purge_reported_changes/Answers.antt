-- `purge_reported_changes` meets its contract: refused with 7, or `purged`.
-- Assumes nothing.
use Rattle.std.proofs.Common.{sym, ◌∙◌, rules}
use Rattle.places.specs.Calls.{purge_in}
use Rattle.places.specs.Views.{view}
use Rattle.rules.specs.Calls as call
use Rattle.rules.proofs.Clauses.{purge_objects}
use Rattle.table.proofs.Standing.{unwell, unrefused}
use Rattle.table.proofs.purge_reported_changes.Goals as goal

pub returns-in_err-well_kept : goal.returns-in_err-well_kept
unfolding purge_in
returns-in_err-well_kept c =
    let a = c.args in
    rw (unwell a.table.now (sym c.well_kept.ensures.answer ∙ c.in_err-well_kept.was) call.purge, purge_in) (search rules)

pub returns : goal.returns
unfolding purge_in
returns c =
    let t = c.args.table.now in
    let e = sym c.well_kept.ensures.answer ∙ c.in_ok-well_kept.was in
    rw (unrefused t e call.purge (purge_objects (view t)), ← c.purged.ensures, purge_in)
