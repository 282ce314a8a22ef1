-- `run` meets its contract. What is left of the chunk is run as the whole is, from where the run stands: each turn is one scan, by the laws of
-- Scanning.
-- Assumes nothing.
use mathlib.Core.Path.{◌≡◌}
use Prim.Native.Nat.{◌-◌, ◌≤◌}
use lib.ListN.{length, drop}
use Rattle.tracing.specs.Runs.{run_from}
use Rattle.tracing.proofs.Scanning.{standing}
use Rattle.tracing.proofs.run.Given as goal

abbrev pub invariant-loop-used : goal.invariant-loop-used
invariant-loop-used l =
    (run_from (standing l.initial.session.table l.initial.session.reading l.initial.held l.initial.out 0 0) l.s ≡ run_from (standing l.session.table l.session.reading l.held l.out l.used l.wrote) (drop l.used l.s))
    × ((l.used ≤ length l.s) × (length l.held ≡ length l.initial.held) × (length l.out ≡ length l.initial.out))

abbrev pub decreases-loop-used : goal.decreases-loop-used
decreases-loop-used l = length l.s - l.used
