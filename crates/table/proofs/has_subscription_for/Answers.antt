-- `has_subscription_for` meets its contract: refused with 7, or whether the scan finds one that is served.
-- Assumes nothing.
use Rattle.std.proofs.Common.{sym, ◌∙◌, arith, rules}
use Rattle.places.specs.Calls.{has_at}
use Rattle.places.specs.Views.{view}
use Rattle.rules.specs.Calls as call
use Rattle.rules.proofs.Clauses.{has_objects}
use Rattle.table.proofs.Standing.{unwell, counts, unrefused}
use Rattle.places.specs.Tests.{served}
use Rattle.places.proofs.Finding.{stored_there}
use Rattle.std.proofs.Common.{refl}
use Rattle.table.proofs.Asked.{asked}
use Rattle.table.proofs.has_subscription_for.Goals as goal

pub returns-in_err-well_kept : goal.returns-in_err-well_kept
unfolding has_at
returns-in_err-well_kept c =
    let a = c.args in
    rw (unwell a.table.now (sym c.well_kept.ensures.answer ∙ c.in_err-well_kept.was) (call.has_subscription a.fabric a.peer), has_at) (search rules)

pub returns : goal.returns
unfolding has_at
returns c =
    let a = c.args in
    let t = a.table.now in
    let e = sym c.well_kept.ensures.answer ∙ c.in_ok-well_kept.was in
    let b = counts t e in
    rw (unrefused t e (call.has_subscription a.fabric a.peer) (has_objects (view t) a.fabric a.peer), stored_there t c.well_kept.ensures.long (omega arith) (served a.fabric a.peer) refl, ← asked (served a.fabric a.peer) c.stored.ensures.are c.any_served.ensures, has_at)
