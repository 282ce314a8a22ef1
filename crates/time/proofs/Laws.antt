-- What floors above may use of intervals and the instants that they lead to. They never open a definition of this crate.
-- Assumes nothing.
use mathlib.Core.Path.{◌≡◌, refl}
use mathlib.Core.Bool.{Bool, true, false, cond}
use Prim.Native.Nat.{ℕ, ◌+◌, ◌*◌, ◌-◌, ◌/◌, ◌^◌, ◌≤◌, ◌<◌, min, max}
use native.Mathlib.Omega.{arith}
use lib.Dec.{leb}
use lib.Pow.{pow_pos}
use Rattle.instants.specs.declared.Instant.{Instant}
use Rattle.time.specs.declared.KeepAlive.{KeepAlive}
use Rattle.time.specs.declared.KeepAlive.TheVariants.{Default, Icd}
use Rattle.instants.specs.Instants.{instant, first_instant, last_instant, later, or_else, never_reported}
use Rattle.time.specs.Intervals.{backoff_secs, due_after_secs, icd_max_secs, granted_max_secs}
use Rattle.time.specs.Moments.{since_report, retry_at, expired}
use Rattle.instants.proofs.Laws.{later_within, later_past, else_most}

-- the pause before a retry is never shorter than two seconds
pub backoff_least : (fails longest : ℕ) → 2 ≤ backoff_secs fails longest
unfolding backoff_secs
backoff_least fails longest = let p = pow_pos (min (fails - 1) 15) in omega arith

-- nor longer than the silence allowed, or two seconds where that is shorter
pub backoff_most : (fails longest : ℕ) → backoff_secs fails longest ≤ max longest 2
unfolding backoff_secs
backoff_most fails longest = omega arith

-- a report is due no later than the maximum interval runs out
pub due_most : (kind : KeepAlive) (longest : ℕ) → due_after_secs kind longest ≤ longest
unfolding due_after_secs
due_most Default longest = omega arith
due_most Icd longest = omega arith

-- and not at once, where the maximum interval is a second or more
pub due_least : (kind : KeepAlive) (longest : ℕ) → 1 ≤ longest → 1 ≤ due_after_secs kind longest
unfolding due_after_secs
due_least Default longest h = omega arith
due_least Icd longest h = omega arith

module _ (from : Instant) (secs : ℕ) (within : from.ms + secs * 1000 ≤ last_instant.ms) where
  -- the gate and the due instant of a subscription that has reported
  pub since_within : never_reported from ≡ false → since_report from secs ≡ instant (from.ms + secs * 1000)
  unfolding since_report
  since_within h = rw (h, later_within from secs within, since_report)

  -- a subscription expires at that sum
  pub expired_within : (now : Instant) → expired from secs now ≡ leb (from.ms + secs * 1000) now.ms
  unfolding expired
  expired_within now = rw (later_within from secs within)

module _ (from : Instant) (secs : ℕ) (past : last_instant.ms < from.ms + secs * 1000) where
  -- past the last instant the gate is open and the report due
  pub since_past : never_reported from ≡ false → since_report from secs ≡ first_instant
  unfolding since_report
  since_past h = rw (h, later_past from secs past, since_report)

  -- and the subscription does not expire
  pub expired_past : (now : Instant) → expired from secs now ≡ false
  unfolding expired
  expired_past now = rw (later_past from secs past)

-- the gate of a subscription that has never reported is open, and its report due
pub since_never : (from : Instant) (secs : ℕ) → never_reported from ≡ true → since_report from secs ≡ first_instant
unfolding since_report
since_never from secs h = rw (h, since_report)

-- a retry waits for the pause
pub retry_within : (opened : Instant) (fails longest : ℕ) → opened.ms + backoff_secs fails longest * 1000 ≤ last_instant.ms
    → retry_at opened fails longest ≡ instant (opened.ms + backoff_secs fails longest * 1000)
unfolding retry_at
retry_within opened fails longest h = rw (later_within opened (backoff_secs fails longest) h)

-- or, where that is past the last instant, until the last instant
pub retry_past : (opened : Instant) (fails longest : ℕ) → last_instant.ms < opened.ms + backoff_secs fails longest * 1000
    → retry_at opened fails longest ≡ last_instant
unfolding retry_at
retry_past opened fails longest h = rw (later_past opened (backoff_secs fails longest) h)

-- ---- none of these is past the last instant

pub since_most : (from : Instant) (secs : ℕ) → (since_report from secs).ms ≤ last_instant.ms
unfolding since_report
since_most from secs = go (never_reported from)
  where
    go : (b : Bool) → (cond b first_instant (or_else (later from secs) first_instant)).ms ≤ last_instant.ms
    go true = omega arith
    go false = else_most from first_instant secs (omega arith)

pub retry_most : (opened : Instant) (fails longest : ℕ) → (retry_at opened fails longest).ms ≤ last_instant.ms
unfolding retry_at
retry_most opened fails longest = else_most opened last_instant (backoff_secs fails longest) (omega arith)

-- ---- the intervals, as numbers

pub backoff_is : (fails longest : ℕ) → backoff_secs fails longest ≡ min (2 * 2 ^ min (fails - 1) 15) (max longest 2)
unfolding backoff_secs
backoff_is fails longest = refl

pub due_halfway : (longest : ℕ) → due_after_secs Default longest ≡ longest - longest / 2
unfolding due_after_secs
due_halfway longest = refl

pub due_before_the_end : (longest : ℕ) → due_after_secs Icd longest ≡ longest - min 3 (longest / 2)
unfolding due_after_secs
due_before_the_end longest = refl

pub icd_max_is : (idle floor : ℕ) → icd_max_secs idle floor ≡ min (max idle (floor + 3)) 65535
unfolding icd_max_secs
icd_max_is idle floor = refl

pub granted_is : (request floor lower upper : ℕ)
    → granted_max_secs request floor lower upper ≡ max (max (min request upper) lower) (min (floor + 10) 65535)
unfolding granted_max_secs
granted_is request floor lower upper = refl
