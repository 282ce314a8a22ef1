-- `any_reportable` meets its contract: refused with 7, or whether the scan finds one that is ready.
-- Assumes nothing.
use Rattle.std.proofs.Common.{◌≡◌, ltb, length, sym, ap, ◌∙◌, arith, rules, length-take-le}
use Rattle.places.specs.Calls.{asking, first_ready, any_at}
use Rattle.places.specs.Views.{view, stored_of}
use Rattle.rules.specs.Calls as call
use Rattle.rules.proofs.Clauses.{any_objects}
use Rattle.table.proofs.Standing.{well, unwell, counts, unrefused}
use Rattle.answers.specs.Numbers.{mark_value}
use Rattle.changes.specs.Logs.{newest_of}
use Rattle.places.proofs.Refusing.{kept_log}
use Rattle.changes.proofs.Answering.{newest_answer}
use Rattle.places.specs.Tests.{ready_by}
use Rattle.table.proofs.Asked.{is_placed}
use Rattle.table.proofs.any_reportable.Goals as goal

pub returns-in_err-well_kept : goal.returns-in_err-well_kept
unfolding any_at
returns-in_err-well_kept c =
    let a = c.args in
    rw (unwell a.table.now (sym c.well_kept.ensures.answer ∙ c.in_err-well_kept.was) (call.any_reportable a.now a.events a.kind), any_at) (search rules)

pub returns : goal.returns
unfolding any_at first_ready
returns c =
    let a = c.args in
    let t = a.table.now in
    let e = sym c.well_kept.ensures.answer ∙ c.in_ok-well_kept.was in
    let n : c.value-newest.result ≡ newest_of t.log = c.value-newest.ensures ∙ ap mark_value (c.newest.ensures ∙ newest_answer t.log (kept_log t (well t e))) in
    let b = counts t e in
    let long = c.well_kept.ensures.long in
    let size : length (stored_of t) ≡ t.stored = length-take-le t.stored t.places (omega arith) in
    let there = c.is_some.ensures ∙ is_placed (ready_by (asking a.now a.events a.kind) c.value-newest.result) c.stored.ensures.are c.first_ready.ensures ∙ ap (ltb _) size in
    rw (unrefused t e (call.any_reportable a.now a.events a.kind) (any_objects (view t) a.now a.events a.kind), ← n, ← there, any_at)
