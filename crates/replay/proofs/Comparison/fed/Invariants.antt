-- `fed` is safe and ends: where a byte is left, a scan uses some, and none behind the end of the chunk.
-- Assumes nothing.
use Rattle.std.proofs.Common.{length}
use Rattle.replay.proofs.Comparison.fed.Given as goal

abbrev pub decreases-loop-rest : goal.decreases-loop-rest
decreases-loop-rest g l = length l.rest
