-- `retry_backoff_secs` meets its contract: the shift loses no bit, since it goes by fifteen at the most.
-- Assumes nothing.
use mathlib.Core.Path.{◌≡◌}
use Prim.Native.Nat.{ℕ, ◌*◌, ◌^◌, ◌%◌, ◌-◌, ◌≤◌, min}
use native.Mathlib.Nat.{mod-eq_of_lt}
use native.Mathlib.Omega.{arith}
use lib.Pow.{pow_mono}
use Rattle.time.specs.Intervals.{backoff_secs}
use Rattle.time.proofs.retry_backoff_secs.Goals as goal

-- a shift by fifteen at the most loses no bit of 32
exact : (k : ℕ) → k ≤ 15 → 2 * 2 ^ k % 2 ^ 32 ≡ 2 * 2 ^ k
exact k h = let p : 2 ^ k ≤ 32768 = pow_mono h in mod-eq_of_lt (omega arith)

pub returns : goal.returns
unfolding backoff_secs
returns c =
    simp (c.min-2.ensures, c.from-2.ensures, c.max.ensures, c.from.ensures, c.min.ensures, c.saturating_sub.ensures)
    (omega (arith, exact (min (c.args.fails - 1) 15) (omega arith)))
