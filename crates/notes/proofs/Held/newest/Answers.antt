-- `Held::newest` meets its contract: the chain is over the entries that are held.
-- Assumes nothing.
use Rattle.notes.proofs.Steps.{newest_is}
use Rattle.notes.proofs.Held.newest.Goals as goal

pub returns : goal.returns
returns c = rw (newest_is, ← c.of.ensures, ← c.live.ensures.all) c.newest_of.ensures
