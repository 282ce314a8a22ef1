-- `each_differs` meets its contract. The invariant: all differ exactly where those from i on do.
-- Assumes nothing.
use mathlib.Core.Path.{◌≡◌}
use lib.ListN.{drop}
use Rattle.distinct.specs.Differ.{differ}
use Rattle.distinct.proofs.each_differs.Given as goal

abbrev pub invariant-loop-i : goal.invariant-loop-i
invariant-loop-i l = differ l.ids ≡ differ (drop l.i l.ids)
