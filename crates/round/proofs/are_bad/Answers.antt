-- `are_bad` meets its contract: an outcome that is none, or unequal lengths.
-- Assumes nothing.
use Rattle.std.proofs.Common.{sym, ◌∙◌}
use Rattle.rules.specs.Machine.{bad_outcome}
use Rattle.lists.proofs.Library.{some_any}
use Rattle.round.proofs.are_bad.Goals as goal

pub returns-then-has_bad : goal.returns-then-has_bad
returns-then-has_bad c = rw (some_any bad_outcome c.args.outcomes.now, sym c.has_bad.ensures ∙ c.if-has_bad.true) c.if-has_bad.true

pub returns-else-has_bad : goal.returns-else-has_bad
returns-else-has_bad c = rw (some_any bad_outcome c.args.outcomes.now, sym c.has_bad.ensures ∙ c.if-has_bad.false)
