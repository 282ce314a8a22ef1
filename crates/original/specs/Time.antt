-- The intervals of subscriptions.rs, function by function.
-- Assumes nothing.
use Rattle.std.specs.Prelude.{ℕ, ◌+◌, ◌-◌, ◌/◌, min, max}
use Rattle.time.specs.declared.KeepAlive.{KeepAlive}
use Rattle.time.specs.declared.KeepAlive.TheVariants.{Default, Icd}
use Rattle.original.specs.Std.{saturating_add, shift_left}

-- `Subscription::retry_backoff_secs`, with its `BASE_SECS` of 2
unfoldable pub retry_backoff_secs : ℕ → ℕ → ℕ
retry_backoff_secs fail_count max_int_secs = min (shift_left 32 2 (min (fail_count - 1) 15)) (max max_int_secs 2)

-- `KeepAlive::due_after_secs`, with its `ICD_LEAD_SECS` of 3
unfoldable pub due_after_secs : KeepAlive → ℕ → ℕ
due_after_secs Default max_int_secs = max_int_secs - max_int_secs / 2
due_after_secs Icd max_int_secs = max_int_secs - min 3 (max_int_secs / 2)

-- `icd_max_int_secs`
unfoldable pub icd_max_int_secs : ℕ → ℕ → ℕ
icd_max_int_secs idle_mode_duration min_int_floor = min (max idle_mode_duration (min_int_floor + 3)) 65535

-- `subscription_max_int_secs`, with its `FLOOR_LEAD_SECS` of 10
unfoldable pub subscription_max_int_secs : ℕ → ℕ → ℕ → ℕ → ℕ
subscription_max_int_secs req_max_int_ceil min_int_floor min_max_interval max_max_interval =
    max (max (min req_max_int_ceil max_max_interval) min_max_interval) (saturating_add 16 min_int_floor 10)
