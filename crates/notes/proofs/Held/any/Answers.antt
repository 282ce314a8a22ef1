-- `Held::any` meets its contract: the test is of the entries that are held, and in the words of crate lists.
-- Assumes nothing.
use Rattle.lists.proofs.Library.{some_any}
use Rattle.notes.proofs.Held.any.Goals as goal

pub returns : goal.returns
returns c = rw (some_any, ← c.of.ensures, ← c.live.ensures.all) c.any_of.ensures
