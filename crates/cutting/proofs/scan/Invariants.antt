-- `scan` meets its contract. What is left of the chunk is scanned as the whole is, from the reading so far: each turn is one step of
-- `scan_from`.
-- Assumes nothing.
use Rattle.std.proofs.Common.{◌≡◌, drop, length}
use Rattle.cutting.specs.Steps.{scan_from}
use Rattle.cutting.proofs.scan.Given as goal

abbrev pub invariant-loop-i : goal.invariant-loop-i
invariant-loop-i l =
    (scan_from 0 l.initial.reading l.initial.held l.s ≡ scan_from l.i l.reading l.held (drop l.i l.s)) × (length l.held ≡ length l.initial.held)
