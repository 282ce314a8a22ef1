-- When one subscription may speak and when it must, as document 01 has it, "Time" and "Table". What becomes of it then is `Life`'s matter.
-- `changed` says of the change log that some entry is above the seen watermark.
-- Assumes nothing.
use Rattle.std.specs.Prelude.{Bool, cond, ◌&&◌, ◌||◌, ℕ, leb, ltb}
use Rattle.instants.specs.declared.Instant.{Instant}
use Rattle.time.specs.declared.KeepAlive.{KeepAlive}
use Rattle.subscription.specs.declared.Subscription.{Subscription}
use Rattle.instants.specs.Instants.{later_of}
use Rattle.time.specs.Moments.{gate_at, due_at, expired}

-- "the gate is reported_at + min_int"
unfoldable pub gate_of : Subscription → Instant
gate_of s = gate_at s.reported s.shortest

-- "Allowed is the later of gate and retry_at."
unfoldable pub allowed_of : Subscription → Instant
allowed_of s = later_of (gate_of s) s.retry

-- "due is reported_at + due after"
unfoldable pub due_of : Subscription → KeepAlive → Instant
due_of s kind = due_at s.reported s.longest kind

-- "due ≤ now"
unfoldable pub is_due : Subscription → Instant → KeepAlive → Bool
is_due s now kind = leb (due_of s kind).ms now.ms

-- "an entry above its seen watermark, or seen events below the event number"
unfoldable pub pending : Subscription → Bool → ℕ → Bool
pending s changed events = changed || ltb s.heard events

-- "the all flag with reported_at < now"
unfoldable pub along : Subscription → Instant → Bool → Bool
along s now all = all && ltb s.reported.ms now.ms

-- "Reportable: allowed ≤ now, and (the all flag with reported_at < now, or due ≤ now, or an entry above its seen watermark, or seen events
-- below the event number)."
unfoldable pub reportable : Subscription → Instant → Bool → ℕ → KeepAlive → Bool → Bool
reportable s now changed events kind all =
    leb (allowed_of s).ms now.ms && (along s now all || (is_due s now kind || pending s changed events))

-- "allowed (if a change or event is pending) or the later of allowed and due"
unfoldable pub next_of : Subscription → Bool → ℕ → KeepAlive → Instant
next_of s changed events kind = cond (pending s changed events) (allowed_of s) (later_of (allowed_of s) (due_of s kind))

-- "Expired: reported_at + max_int ≤ now"
unfoldable pub is_over : Subscription → Instant → Bool
is_over s now = expired s.reported s.longest now
