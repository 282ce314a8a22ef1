-- `stored_last` meets its contract: a store behind the last stored one, and one stored one more.
-- Assumes nothing.
use Rattle.std.proofs.Common.{refl}
use Rattle.places.specs.Moves.{stored_last}
use Rattle.table.proofs.moves.stored_last.Goals as goal

pub returns : goal.returns
unfolding stored_last
returns c = refl
