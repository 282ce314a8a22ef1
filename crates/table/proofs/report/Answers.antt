-- `report` meets its contract: refused with 7, refused with 3 where a report is open, or `hand_out`'s.
-- Assumes nothing.
use Rattle.std.proofs.Common.{[], sym, ◌∙◌, rules}
use Rattle.refusal.specs.declared.Refusal.TheVariants.{ReportOpen}
use Rattle.places.specs.Calls.{report_in}
use Rattle.places.specs.Views.{view}
use Rattle.rules.specs.States.{is_report}
use Rattle.rules.specs.Calls as call
use Rattle.places.proofs.Refusing.{kept_log}
use Rattle.rules.proofs.Clauses.{report_objects, report_open_is, first_holds, first_passed, first_none}
use Rattle.table.proofs.Standing.{well, unwell, counts, refused}
use Rattle.table.proofs.Asked.{asked}
use Rattle.table.proofs.report.Goals as goal

pub returns-in_err-well_kept : goal.returns-in_err-well_kept
unfolding report_in
returns-in_err-well_kept c =
    let a = c.args in
    rw (unwell a.table.now (sym c.well_kept.ensures.answer ∙ c.in_err-well_kept.was) (call.report a.at), report_in) (search rules)

pub returns-then-any_report : goal.returns-then-any_report
unfolding report_in
returns-then-any_report c =
    let t = c.args.table.now in
    let e = sym c.well_kept.ensures.answer ∙ c.in_ok-well_kept.was in
    let there = report_open_is (view t) ∙ sym (asked is_report c.open.ensures c.any_report.ensures) ∙ c.if-any_report.true in
    rw (refused t e (call.report c.args.at) (report_objects (view t) c.args.at) ∙ first_holds ReportOpen [] there, report_in)

pub hand_out-requires : goal.hand_out-requires
hand_out-requires c =
    let t = c.args.table.now in
    let e = sym c.well_kept.ensures.answer ∙ c.in_ok-well_kept.was in
    record { counts = counts t e; long = c.well_kept.ensures.long; log = kept_log t (well t e) }

pub returns : goal.returns
unfolding report_in
returns c =
    let t = c.args.table.now in
    let e = sym c.well_kept.ensures.answer ∙ c.in_ok-well_kept.was in
    let none = report_open_is (view t) ∙ sym (asked is_report c.open.ensures c.any_report.ensures) ∙ c.if-any_report.false in
    rw (refused t e (call.report c.args.at) (report_objects (view t) c.args.at) ∙ first_passed ReportOpen [] none ∙ first_none, report_in) c.hand_out.ensures
