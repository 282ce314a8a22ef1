-- `next_report_at` meets its contract: refused with 7, or the least of the scan.
-- Assumes nothing.
use Rattle.std.proofs.Common.{◌≡◌, sym, ap, ◌∙◌, rules}
use Rattle.places.specs.Calls.{next_at}
use Rattle.places.specs.Views.{view}
use Rattle.rules.specs.Calls as call
use Rattle.rules.proofs.Clauses.{instant_objects}
use Rattle.table.proofs.Standing.{well, unwell, unrefused}
use Rattle.answers.specs.Numbers.{mark_value}
use Rattle.changes.specs.Logs.{newest_of}
use Rattle.places.proofs.Refusing.{kept_log}
use Rattle.changes.proofs.Answering.{newest_answer}
use Rattle.table.proofs.next_report_at.Goals as goal

pub returns-in_err-well_kept : goal.returns-in_err-well_kept
unfolding next_at
returns-in_err-well_kept c =
    let a = c.args in
    rw (unwell a.table.now (sym c.well_kept.ensures.answer ∙ c.in_err-well_kept.was) (call.next_instant a.events a.kind), next_at) (search rules)

pub returns : goal.returns
unfolding next_at
returns c =
    let a = c.args in
    let t = a.table.now in
    let e = sym c.well_kept.ensures.answer ∙ c.in_ok-well_kept.was in
    let n : c.value-newest.result ≡ newest_of t.log = c.value-newest.ensures ∙ ap mark_value (c.newest.ensures ∙ newest_answer t.log (kept_log t (well t e))) in
    rw (unrefused t e (call.next_instant a.events a.kind) (instant_objects (view t) a.events a.kind), ← n, ← c.stored.ensures.are, ← c.least_next.ensures, next_at)
