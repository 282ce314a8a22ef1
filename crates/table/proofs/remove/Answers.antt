-- `remove` meets its contract: the tests are the objections, in their order; scans tell what is removed and cancelled.
-- Assumes nothing.
use Rattle.std.proofs.Common.{[], sym, ◌∙◌, arith, rules}
use Rattle.refusal.specs.declared.Refusal.TheVariants.{BadArgument}
use Rattle.places.specs.Calls.{remove_in}
use Rattle.places.specs.Moves.{swept_out}
use Rattle.places.specs.Views.{view}
use Rattle.choices.specs.Choices.{chosen}
use Rattle.rules.specs.Calls as call
use Rattle.rules.proofs.Clauses.{remove_objects, first_holds, first_passed, first_none}
use Rattle.table.proofs.Standing.{unwell, counts, refused}
use Rattle.table.proofs.Asked.{asked}
use Rattle.table.proofs.remove.Goals as goal

pub returns-in_err-well_kept : goal.returns-in_err-well_kept
unfolding remove_in
returns-in_err-well_kept c =
    let a = c.args in
    rw (unwell a.table.now (sym c.well_kept.ensures.answer ∙ c.in_err-well_kept.was) (call.remove a.choice a.reason), remove_in) (search rules)

pub returns-then-is_bad_reason : goal.returns-then-is_bad_reason
unfolding remove_in
returns-then-is_bad_reason c =
    let a = c.args in
    let t = a.table.now in
    let e = sym c.well_kept.ensures.answer ∙ c.in_ok-well_kept.was in
    rw (refused t e (call.remove a.choice a.reason) (remove_objects (view t) a.choice a.reason) ∙ first_holds BadArgument [] (sym c.is_bad_reason.ensures ∙ c.if-is_bad_reason.true), remove_in)

pub swept-requires : goal.swept-requires
swept-requires c =
    let b = counts c.args.table.now (sym c.well_kept.ensures.answer ∙ c.in_ok-well_kept.was) in
    (omega arith, c.well_kept.ensures.long)

pub returns-then-removes : goal.returns-then-removes
unfolding remove_in swept_out
returns-then-removes c =
    let a = c.args in
    let t = a.table.now in
    let e = sym c.well_kept.ensures.answer ∙ c.in_ok-well_kept.was in
    rw (refused t e (call.remove a.choice a.reason) (remove_objects (view t) a.choice a.reason) ∙ first_passed BadArgument [] (sym c.is_bad_reason.ensures ∙ c.if-is_bad_reason.false) ∙ first_none, ← c.cancels-cancels.ensures, ← asked (chosen a.choice) c.stored.ensures.are c.any_chosen-removes.ensures, remove_in)
    (rw (c.reason_after-table.ensures, c.swept.ensures, c.if-removes.true))

pub returns-else-removes : goal.returns-else-removes
unfolding remove_in swept_out
returns-else-removes c =
    let a = c.args in
    let t = a.table.now in
    let e = sym c.well_kept.ensures.answer ∙ c.in_ok-well_kept.was in
    rw (refused t e (call.remove a.choice a.reason) (remove_objects (view t) a.choice a.reason) ∙ first_passed BadArgument [] (sym c.is_bad_reason.ensures ∙ c.if-is_bad_reason.false) ∙ first_none, ← c.cancels-cancels.ensures, ← asked (chosen a.choice) c.stored.ensures.are c.any_chosen-removes.ensures, remove_in)
    (rw (c.reason_after-table.ensures, c.swept.ensures, c.if-removes.false))
