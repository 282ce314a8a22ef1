-- `read_outcomes` is safe: the part behind an outcome's comma begins in what is left of the line.
-- Assumes nothing.
use Rattle.std.proofs.Common.{sym, ◌∙◌}
use Rattle.fields.proofs.Rows.{part_begins}
use Rattle.replay.proofs.rounds.read_outcomes.Goals as goal

pub slice_bounds-rest-count : goal.slice_bounds-rest-count
slice_bounds-rest-count c = part_begins _ _ _ _ (sym c.in_ok-field.was ∙ c.read_field.ensures) c.in-Some-next.is

pub slice_bounds-rest-start : goal.slice_bounds-rest-start
slice_bounds-rest-start c = part_begins _ _ _ _ (sym c.in_ok-field.was ∙ c.read_field.ensures) c.in-Some-next.is
