-- `all_differ` meets its contract. The invariant: the residues so far are marked, and the numbers so far differ.
-- Assumes nothing.
use lib.ListN.{take}
use Rattle.distinct.proofs.Marks.{Marked}
use Rattle.distinct.proofs.all_differ.Given as goal

abbrev pub invariant-loop-id : goal.invariant-loop-id
invariant-loop-id l = Marked (take l.id-index l.ids) l.seen
