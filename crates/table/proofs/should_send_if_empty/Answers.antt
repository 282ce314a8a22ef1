-- `should_send_if_empty` meets its contract: the tests are the objections, in their order, and the scan finds the open one.
-- Assumes nothing.
use Rattle.std.proofs.Common.{Ok, [], ◌-◌, not, sym, ap, ◌∙◌, rules, get_or-drop}
use Rattle.refusal.specs.declared.Refusal.TheVariants.{NotOpen}
use Rattle.places.specs.Calls.{open_at, send_at}
use Rattle.places.specs.Views.{view, opens_of}
use Rattle.lists.specs.Search.{first}
use Rattle.rules.specs.States.{has_id}
use Rattle.subscription.specs.Life.{blank}
use Rattle.rules.specs.Calls as call
use Rattle.rules.proofs.Clauses.{send_objects, first_holds, first_passed, first_none}
use Rattle.table.proofs.Standing.{unwell, refused, some_of, none_of}
use Rattle.table.proofs.Asked.{found, not_found}
use Rattle.table.proofs.should_send_if_empty.Goals as goal

pub returns-in_err-well_kept : goal.returns-in_err-well_kept
unfolding send_at
returns-in_err-well_kept c =
    let a = c.args in
    rw (unwell a.table.now (sym c.well_kept.ensures.answer ∙ c.in_err-well_kept.was) (call.send_if_empty a.id a.kind), send_at) (search rules)

pub returns-in_err-x : goal.returns-in_err-x
unfolding send_at
returns-in_err-x c =
    let a = c.args in
    let t = a.table.now in
    let e = sym c.well_kept.ensures.answer ∙ c.in_ok-well_kept.was in
    let none = none_of c.one_with_id.result NotOpen (sym c.ok_or.ensures.value ∙ c.in_err-x.was) in
    let why = none.1 in
    rw (refused t e (call.send_if_empty a.id a.kind) (send_objects (view t) a.id a.kind) ∙ first_holds NotOpen [] (ap not (not_found (has_id a.id) c.open.ensures c.one_with_id.ensures none.0)), send_at) (search rules)

pub returns : goal.returns
unfolding send_at open_at
returns c =
    let a = c.args in
    let t = a.table.now in
    let e = sym c.well_kept.ensures.answer ∙ c.in_ok-well_kept.was in
    let one = found (has_id a.id) c.open.ensures blank c.one_with_id.ensures (some_of c.one_with_id.result NotOpen (sym c.ok_or.ensures.value ∙ c.in_ok-x.was)) in
    let x = one.1 ∙ get_or-drop (80 - t.opens) t.places (first (has_id a.id) (opens_of t)) blank in
    rw (refused t e (call.send_if_empty a.id a.kind) (send_objects (view t) a.id a.kind) ∙ first_passed NotOpen [] (ap not one.0) ∙ first_none, ← x, send_at)
    (ap Ok c.is_report_due.ensures)
