-- `stand_for_all` meets its contract: a store at the front, and one entry.
-- Assumes nothing.
use native.Mathlib.Omega.{arith}
use lib.Seq.{take-suc-set}
use Rattle.notes.proofs.Entries.stand_for_all.Goals as goal

pub returns : goal.returns
returns c = take-suc-set c.self.inside.places 0 _ (omega arith)
