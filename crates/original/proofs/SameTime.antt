-- Intervals and instants: the Rust's shifts, saturating and checked sums are document 01's numbers.
-- Assumes nothing.
use mathlib.Core.Path.{◌≡◌, sym}
use mathlib.Core.Bool.{Bool, false, cond}
use Prim.Native.Nat.{ℕ, ◌+◌, ◌-◌, ◌*◌, min}
use native.Mathlib.Omega.{arith}
use borrow.Author.Tests.{leb-true, leb-false}
use lib.Dec.{eqb, leb}
use lib.Pow.{shl_exact}
use Rattle.lists.proofs.Bools.{split}
use Rattle.instants.specs.declared.Instant.{Instant}
use Rattle.time.specs.declared.KeepAlive.{KeepAlive}
use Rattle.time.specs.declared.KeepAlive.TheVariants.{Default, Icd}
use Rattle.time.specs.Intervals as time
use Rattle.time.specs.Intervals.{backoff_secs, icd_max_secs, granted_max_secs}
use Rattle.time.specs.Moments.{since_report, retry_at, expired}
use Rattle.time.proofs.Laws.{since_never, since_within, since_past, retry_within, retry_past, expired_within, expired_past, backoff_is, due_halfway, due_before_the_end, icd_max_is, granted_is}
use Rattle.original.specs.Std.{unwrap_or, map_some, instant_min, instant_max, checked_add}
use Rattle.original.specs.Time.{retry_backoff_secs, due_after_secs, icd_max_int_secs, subscription_max_int_secs}

-- ---- intervals

-- the shift loses no bit, since it goes by fifteen at the most
pub backoff_same : (fails longest : ℕ) → retry_backoff_secs fails longest ≡ backoff_secs fails longest
unfolding retry_backoff_secs
backoff_same fails longest =
    rw (backoff_is fails longest, shl_exact {a = 2} 2 (min (fails - 1) 15) 32 (omega arith) (omega arith))

pub due_after_same : (kind : KeepAlive) (longest : ℕ) → due_after_secs kind longest ≡ time.due_after_secs kind longest
unfolding due_after_secs
due_after_same Default longest = sym (due_halfway longest)
due_after_same Icd longest = sym (due_before_the_end longest)

-- the two intervals that are granted: no call of the table, and the same in both
pub icd_max_same : (idle floor : ℕ) → icd_max_int_secs idle floor ≡ icd_max_secs idle floor
unfolding icd_max_int_secs
icd_max_same idle floor = sym (icd_max_is idle floor)

pub granted_same : (request floor lower upper : ℕ)
    → subscription_max_int_secs request floor lower upper ≡ granted_max_secs request floor lower upper
unfolding subscription_max_int_secs
granted_same request floor lower upper = sym (granted_is request floor lower upper)

-- ---- instants

module _ (from : Instant) (secs : ℕ) where
  -- whether the sum is an instant
  abbrev within : Bool
  within = leb (from.ms + secs * 1000) instant_max

  pub since_same :
      cond (eqb from.ms instant_max) instant_min (unwrap_or (checked_add from.ms secs) instant_min) ≡ (since_report from secs).ms
  unfolding checked_add
  since_same =
      split (eqb from.ms instant_max)
      (λ n. rw (n, since_never from secs n))
      (λ n. split within
      (λ t. rw (n, t, checked_add, since_within from secs (leb-true _ _ t) n))
      (λ t. rw (n, t, checked_add, since_past from secs (leb-false _ _ t) n)))

  pub expired_same : (now : Instant)
      → unwrap_or (map_some (λ expiry. leb expiry now.ms) (checked_add from.ms secs)) false ≡ expired from secs now
  unfolding checked_add
  expired_same now =
      split within
      (λ t. rw (t, checked_add, expired_within from secs (leb-true _ _ t) now))
      (λ t. rw (t, checked_add, expired_past from secs (leb-false _ _ t) now))

pub retry_same : (from : Instant) (fails longest : ℕ)
    → unwrap_or (checked_add from.ms (retry_backoff_secs fails longest)) instant_max ≡ (retry_at from fails longest).ms
unfolding checked_add
retry_same from fails longest =
    split (leb (from.ms + backoff_secs fails longest * 1000) instant_max)
    (λ t. rw (backoff_same fails longest, t, checked_add, retry_within from fails longest (leb-true _ _ t)))
    (λ t. rw (backoff_same fails longest, t, checked_add, retry_past from fails longest (leb-false _ _ t)))
