-- `next_keep_alive_at` meets its contract: refused with 7, none where nobody is stored, or the least of the scan.
-- Assumes nothing.
use Rattle.std.proofs.Common.{sym, ◌∙◌, rules}
use Rattle.places.specs.Calls.{alive_at}
use Rattle.places.specs.Views.{view}
use Rattle.rules.specs.Calls as call
use Rattle.rules.proofs.Clauses.{alive_objects}
use Rattle.table.proofs.Standing.{unwell, unrefused}
use Rattle.std.proofs.Common.{eq-eqb, ne_eqb}
use Rattle.table.proofs.next_keep_alive_at.Goals as goal

pub returns-in_err-well_kept : goal.returns-in_err-well_kept
unfolding alive_at
returns-in_err-well_kept c =
    let a = c.args in
    rw (unwell a.table.now (sym c.well_kept.ensures.answer ∙ c.in_err-well_kept.was) call.next_keep_alive, alive_at) (search rules)

pub returns-then-table-eq0 : goal.returns-then-table-eq0
unfolding alive_at
returns-then-table-eq0 c =
    let t = c.args.table.now in
    let e = sym c.well_kept.ensures.answer ∙ c.in_ok-well_kept.was in
    rw (unrefused t e call.next_keep_alive (alive_objects (view t)), eq-eqb _ _ c.if-table-eq0.true, alive_at)

pub returns : goal.returns
unfolding alive_at
returns c =
    let t = c.args.table.now in
    let e = sym c.well_kept.ensures.answer ∙ c.in_ok-well_kept.was in
    rw (unrefused t e call.next_keep_alive (alive_objects (view t)), ne_eqb _ _ c.if-table-eq0.false, ← c.stored.ensures.are, ← c.least_due.ensures, alive_at)
