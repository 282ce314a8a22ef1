-- `handed` meets its contract: the last stored one fills the place, and one more opens.
-- Assumes nothing.
use Rattle.places.specs.Calls.{handed_out}
use Rattle.places.specs.Moves.{taken_out}
use Rattle.table.proofs.moves.handed.Goals as goal

pub returns : goal.returns
unfolding handed_out taken_out
returns c =
    let p = c.requires.1.1 in
    rw (c.opened_up.ensures, c.handed_out.ensures, p)
