-- The four instants that a subscription's life turns on, as document 01 has them, "Time": the gate, the due instant, the retry and the expiry.
-- Each adds seconds to an instant and says what a sum past the last instant means: the first two "at once", the third "at the end", the fourth "never".
-- Assumes nothing.
use Rattle.std.specs.Prelude.{Bool, false, cond, ℕ, leb, Option, Some, None}
use Rattle.instants.specs.declared.Instant.{Instant}
use Rattle.time.specs.declared.KeepAlive.{KeepAlive}
use Rattle.instants.specs.Instants.{first_instant, last_instant, later, or_else, never_reported}
use Rattle.time.specs.Intervals.{backoff_secs, due_after_secs}

-- "A reported_at of 2^64 − 1 means never reported: due at 0, minimum gate 0."; "On overflow both become 0."
unfoldable pub since_report : Instant → ℕ → Instant
since_report reported secs = cond (never_reported reported) first_instant (or_else (later reported secs) first_instant)

-- "the gate is reported_at + min_int"
abbrev pub gate_at : Instant → ℕ → Instant
gate_at reported shortest = since_report reported shortest

-- "due is reported_at + due after"
abbrev pub due_at : Instant → ℕ → KeepAlive → Instant
due_at reported longest kind = since_report reported (due_after_secs kind longest)

-- "retry_at = opening now + backoff"; "Retry on overflow: 2^64 − 1."
unfoldable pub retry_at : Instant → ℕ → ℕ → Instant
retry_at opened fails longest = or_else (later opened (backoff_secs fails longest)) last_instant

-- an instant has come by now; one that does not exist never does
abbrev pub come_by : Option Instant → Instant → Bool
come_by (Some i) now = leb i.ms now.ms
come_by None now = false

-- "Expired: reported_at + max_int ≤ now; on overflow not expired."
unfoldable pub expired : Instant → ℕ → Instant → Bool
expired reported longest now = come_by (later reported longest) now
