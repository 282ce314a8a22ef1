-- Intervals in seconds, as document 01 has them, "Time": the pause before a retry, the silence after which a report is due, and the maximum
-- interval that is granted. Numbers are plain numbers: the code's widths are the code's to prove.
-- Assumes nothing.
use Rattle.std.specs.Prelude.{Bool, cond, ℕ, ◌+◌, ◌-◌, ◌*◌, ◌/◌, ◌^◌, min, max}
use Rattle.time.specs.declared.KeepAlive.{KeepAlive}
use Rattle.time.specs.declared.KeepAlive.TheVariants.{Default, Icd}

-- "they are 0, 2^64 − 1 and 3", the third: "the 3 s lead"
abbrev pub lead_secs : ℕ
lead_secs = 3

-- the keep-alive kind that a flag names: 1 is `Icd`
abbrev pub keep_alive_of : Bool → KeepAlive
keep_alive_of icd = cond icd Icd Default

-- "2 shifted left by min(max(fails − 1, 0), 15), then at most max(max_int, 2) seconds."
unfoldable pub backoff_secs : ℕ → ℕ → ℕ
backoff_secs fails longest = min (2 * 2 ^ min (fails - 1) 15) (max longest 2)

-- "max − floor(max/2), or under `Icd` max − min(3, floor(max/2))."
unfoldable pub due_after_secs : KeepAlive → ℕ → ℕ
due_after_secs Default longest = longest - longest / 2
due_after_secs Icd longest = longest - min lead_secs (longest / 2)

-- "For `Icd`: idle time, at least floor + 3, at most 65,535."
unfoldable pub icd_max_secs : ℕ → ℕ → ℕ
icd_max_secs idle floor = min (max idle (floor + lead_secs)) 65535

-- "min(request, upper), then at least lower, then at least the u16-saturating floor + 10"
unfoldable pub granted_max_secs : ℕ → ℕ → ℕ → ℕ → ℕ
granted_max_secs request floor lower upper = max (max (min request upper) lower) (min (floor + 10) 65535)
