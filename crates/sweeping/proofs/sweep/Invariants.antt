-- `sweep` meets its contract. The invariant: what a sweep leaves of all is what a scan under way at i leaves.
-- Assumes nothing.
use mathlib.Core.Path.{◌≡◌}
use mathlib.Core.Bool.{Bool}
use Prim.Native.Nat.{◌-◌, ◌≤◌}
use lib.ListN.{length}
use Rattle.std.specs.Fn.{FnReturnsAt}
use Rattle.lists.specs.Removal.{sweep, scanned}
use Rattle.sweeping.proofs.sweep.Given as goal

abbrev pub invariant-loop-i : goal.invariant-loop-i
invariant-loop-i g l = record {
  before : l.i ≤ l.n;
  within : l.n ≤ length l.places;
  rest : (p : _ → Bool) → ((x : _) (b : Bool) → FnReturnsAt g.P.Fn l.test x b → b ≡ p x)
      → sweep p l.initial.places ≡ scanned p l.i l.n l.places;
}

abbrev pub decreases-loop-i : goal.decreases-loop-i
decreases-loop-i g l = l.n - l.i
