-- `load_stats` meets its contract: refused with 7, or the counts.
-- Assumes nothing.
use Rattle.std.proofs.Common.{sym, ◌∙◌, rules}
use Rattle.places.specs.Calls.{load_of}
use Rattle.places.specs.Views.{view}
use Rattle.rules.specs.Calls as call
use Rattle.rules.proofs.Clauses.{statistics_objects}
use Rattle.table.proofs.Standing.{unwell, counts, unrefused}
use Rattle.table.proofs.load_stats.Goals as goal

pub returns-in_err-well_kept : goal.returns-in_err-well_kept
unfolding load_of
returns-in_err-well_kept c =
    let a = c.args in
    rw (unwell a.table.now (sym c.well_kept.ensures.answer ∙ c.in_err-well_kept.was) (call.statistics a.fabric), load_of) (search rules)

pub overflow_add-result : goal.overflow_add-result
overflow_add-result c =
    let b = counts c.args.table.now (sym c.well_kept.ensures.answer ∙ c.in_ok-well_kept.was) in
    search rules

pub returns : goal.returns
unfolding load_of
returns c =
    let a = c.args in
    let t = a.table.now in
    let e = sym c.well_kept.ensures.answer ∙ c.in_ok-well_kept.was in
    rw (unrefused t e (call.statistics a.fabric) (statistics_objects (view t) a.fabric), ← c.of_fabric.ensures, c.saturating_sub.ensures, load_of)
