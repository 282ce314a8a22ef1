-- `take_turn` meets its contract: a report, and its completion where somebody was handed out.
-- Assumes nothing.
use Rattle.std.proofs.Common.{ap}
use Rattle.round.specs.Rounds.{turn_of}
use Rattle.round.proofs.take_turn.Goals as goal

pub returns-in-Ok-Some : goal.returns-in-Ok-Some
unfolding turn_of
returns-in-Ok-Some c =
    rw (← c.report.ensures, c.in-Ok-Some.is, c.in-Ok-Some.field-0-is, turn_of) (rw (ap (λ r. r.table) c.complete.ensures))

pub returns-in-Ok-None : goal.returns-in-Ok-None
unfolding turn_of
returns-in-Ok-None c = rw (← c.report.ensures, c.in-Ok-None.is, c.in-Ok-None.field-0-is)

pub returns-in-Err : goal.returns-in-Err
unfolding turn_of
returns-in-Err c = rw (← c.report.ensures, c.in-Err.is)
