-- `clear` meets its contract: the tests are the objections, in their order, and a scan tells whether there is a report to cancel.
-- Assumes nothing.
use Rattle.std.proofs.Common.{[], sym, ◌∙◌, arith, rules}
use Rattle.refusal.specs.declared.Refusal.TheVariants.{PrimingOpen}
use Rattle.places.specs.Calls.{clear_in}
use Rattle.places.specs.Moves.{emptied}
use Rattle.places.specs.Views.{view}
use Rattle.rules.specs.States.{is_report, is_priming}
use Rattle.rules.specs.Calls as call
use Rattle.rules.proofs.Clauses.{clear_objects, first_holds, first_passed, first_none}
use Rattle.table.proofs.Standing.{unwell, counts, refused}
use Rattle.table.proofs.Asked.{asked}
use Rattle.table.proofs.clear.Goals as goal

pub returns-in_err-well_kept : goal.returns-in_err-well_kept
unfolding clear_in
returns-in_err-well_kept c =
    let a = c.args in
    rw (unwell a.table.now (sym c.well_kept.ensures.answer ∙ c.in_err-well_kept.was) call.clear, clear_in) (search rules)

pub returns-then-any_priming : goal.returns-then-any_priming
unfolding clear_in
returns-then-any_priming c =
    let t = c.args.table.now in
    let e = sym c.well_kept.ensures.answer ∙ c.in_ok-well_kept.was in
    let there = sym (asked is_priming c.open.ensures c.any_priming.ensures) ∙ c.if-any_priming.true in
    rw (refused t e call.clear (clear_objects (view t)) ∙ first_holds PrimingOpen [] there, clear_in)

pub emptied-requires : goal.emptied-requires
emptied-requires c =
    let b = counts c.args.table.now (sym c.well_kept.ensures.answer ∙ c.in_ok-well_kept.was) in
    (omega arith, c.well_kept.ensures.long)

pub returns : goal.returns
unfolding clear_in emptied
returns c =
    let t = c.args.table.now in
    let e = sym c.well_kept.ensures.answer ∙ c.in_ok-well_kept.was in
    let none = sym (asked is_priming c.open.ensures c.any_priming.ensures) ∙ c.if-any_priming.false in
    rw (refused t e call.clear (clear_objects (view t)) ∙ first_passed PrimingOpen [] none ∙ first_none, ← asked is_report c.open-2.ensures c.any_report-cancels.ensures, clear_in)
    (rw (c.reason_after-table.ensures, c.emptied.ensures))
