-- What floors above may use of sums of instants. They never open a definition of this crate.
-- Assumes nothing.
use mathlib.Core.Path.{◌≡◌, refl}
use mathlib.Core.Bool.{Bool, true, false, cond}
use Prim.Native.Nat.{ℕ, ◌+◌, ◌*◌, ◌≤◌, ◌<◌}
use borrow.Author.Tests.{le-leb, leb-true, lt-leb}
use lib.Dec.{leb}
use Rattle.std.specs.Prelude.{Some, None}
use Rattle.instants.specs.declared.Instant.{Instant}
use Rattle.instants.specs.Instants.{instant, last_instant, later, or_else}

-- up to the last instant a sum is the plain sum
pub later_within : (from : Instant) (secs : ℕ) → from.ms + secs * 1000 ≤ last_instant.ms → later from secs ≡ Some (instant (from.ms + secs * 1000))
unfolding later
later_within from secs within = rw (le-leb _ _ within, later)

-- past it there is none
pub later_past : (from : Instant) (secs : ℕ) → last_instant.ms < from.ms + secs * 1000 → later from secs ≡ None
unfolding later
later_past from secs past = rw (lt-leb _ _ past, later)

-- an instant that there is is taken, whatever the other
pub else_there : (i other : Instant) → or_else (Some i) other ≡ i
else_there i other = refl

-- and the other where there is none
pub else_none : (other : Instant) → or_else None other ≡ other
else_none other = refl

-- a sum, or another instant in its place, is never past the last instant
pub else_most : (from other : Instant) (secs : ℕ) → other.ms ≤ last_instant.ms → (or_else (later from secs) other).ms ≤ last_instant.ms
unfolding later
else_most from other secs h = go (leb (from.ms + secs * 1000) last_instant.ms) refl
  where
    go : (b : Bool) → leb (from.ms + secs * 1000) last_instant.ms ≡ b
        → (or_else (cond b (Some (instant (from.ms + secs * 1000))) None) other).ms ≤ last_instant.ms
    go true e = leb-true _ _ e
    go false e = h
