-- `complete` meets its contract: the tests are the objections, in their order, and the scan finds the open one.
-- Assumes nothing.
use Rattle.std.proofs.Common.{[], ◌-◌, not, sym, ap, ◌∙◌, arith, rules, le-ltb, lt-ltb, length-drop}
use Rattle.refusal.specs.declared.Refusal.TheVariants.{BadArgument, NotOpen}
use Rattle.places.specs.Calls.{open_at, complete_in}
use Rattle.places.specs.Views.{view}
use Rattle.rules.specs.States.{has_id}
use Rattle.rules.specs.Calls as call
use Rattle.rules.proofs.Clauses.{complete_objects, first_holds, first_passed, first_none}
use Rattle.table.proofs.Standing.{unwell, counts, refused, some_of, none_of}
use Rattle.table.proofs.Asked.{placed, placed_nowhere}
use Rattle.table.proofs.complete.Goals as goal

pub returns-in_err-well_kept : goal.returns-in_err-well_kept
unfolding complete_in
returns-in_err-well_kept c =
    let a = c.args in
    rw (unwell a.table.now (sym c.well_kept.ensures.answer ∙ c.in_err-well_kept.was) (call.complete a.id a.outcome), complete_in) (search rules)

pub returns-then-outcome-gt-ABANDONED : goal.returns-then-outcome-gt-ABANDONED
unfolding complete_in
returns-then-outcome-gt-ABANDONED c =
    let a = c.args in
    let t = a.table.now in
    let e = sym c.well_kept.ensures.answer ∙ c.in_ok-well_kept.was in
    rw (refused t e (call.complete a.id a.outcome) (complete_objects (view t) a.id a.outcome) ∙ first_holds BadArgument _ (lt-ltb _ _ c.if-outcome-gt-ABANDONED.true), complete_in)

pub returns-in_err-i : goal.returns-in_err-i
unfolding complete_in
returns-in_err-i c =
    let a = c.args in
    let t = a.table.now in
    let e = sym c.well_kept.ensures.answer ∙ c.in_ok-well_kept.was in
    let none = none_of c.first_with_id.result NotOpen (sym c.ok_or.ensures.value ∙ c.in_err-i.was) in
    let why = none.1 in
    rw (refused t e (call.complete a.id a.outcome) (complete_objects (view t) a.id a.outcome) ∙ first_passed BadArgument _ (le-ltb _ _ c.if-outcome-gt-ABANDONED.false) ∙ first_holds NotOpen [] (ap not (placed_nowhere (has_id a.id) c.open.ensures c.first_with_id.ensures none.0)), complete_in) (search rules)

pub overflow_sub-table : goal.overflow_sub-table
overflow_sub-table c =
    let b = counts c.args.table.now (sym c.well_kept.ensures.answer ∙ c.in_ok-well_kept.was) in
    omega arith

pub ended-requires : goal.ended-requires
ended-requires c =
    let t = c.args.table.now in
    let b = counts t (sym c.well_kept.ensures.answer ∙ c.in_ok-well_kept.was) in
    let at = placed (has_id c.args.id) c.open.ensures c.first_with_id.ensures (some_of c.first_with_id.result NotOpen (sym c.ok_or.ensures.value ∙ c.in_ok-i.was)) in
    let size = length-drop (80 - t.opens) t.places in
    let long = c.well_kept.ensures.long in
    search rules

pub returns : goal.returns
unfolding complete_in open_at
returns c =
    let a = c.args in
    let t = a.table.now in
    let e = sym c.well_kept.ensures.answer ∙ c.in_ok-well_kept.was in
    let at = placed (has_id a.id) c.open.ensures c.first_with_id.ensures (some_of c.first_with_id.result NotOpen (sym c.ok_or.ensures.value ∙ c.in_ok-i.was)) in
    rw (refused t e (call.complete a.id a.outcome) (complete_objects (view t) a.id a.outcome) ∙ first_passed BadArgument _ (le-ltb _ _ c.if-outcome-gt-ABANDONED.false) ∙ first_passed NotOpen [] (ap not at.0) ∙ first_none, ← at.1, complete_in) c.ended.ensures
