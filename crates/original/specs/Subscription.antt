-- `Subscription` of subscriptions.rs, function by function: one subscription, with the number of its request, which the Rust holds in a
-- vector of buffers at the same place. What the Rust asks of the bytes, none of its functions uses.
-- Assumes nothing.
use Rattle.std.specs.Prelude.{Bool, false, cond, not, ◌&&◌, ◌||◌, ℕ, max, eqb, leb, ltb}
use Rattle.time.specs.declared.KeepAlive.{KeepAlive}
use Rattle.original.specs.Std.{unwrap_or, map_some, instant_min, instant_max, checked_add}
use Rattle.original.specs.Time.{due_after_secs}
use Rattle.original.specs.Log.{ChangedAttrs, any_since}

-- `struct Subscription`, with the fields of its `ids`
pub record Subscription : Type 0 where
  pub id : ℕ
  pub fab_idx : ℕ
  pub peer_node_id : ℕ
  pub min_int_secs : ℕ
  pub max_int_secs : ℕ
  pub reported_at : ℕ
  pub retry_at : ℕ
  pub fail_count : ℕ
  pub max_seen_attr_change_id : ℕ
  pub max_seen_event_number : ℕ
  -- the number of the request in its buffer
  pub rx : ℕ

-- `Subscription::is_expired`
unfoldable pub is_expired : Subscription → ℕ → Bool
is_expired s now = unwrap_or (map_some (λ expiry. leb expiry now) (checked_add s.reported_at s.max_int_secs)) false

-- `Subscription::report_allowed_at`
unfoldable pub report_allowed_at : Subscription → ℕ
report_allowed_at s =
    max (cond (eqb s.reported_at instant_max) instant_min (unwrap_or (checked_add s.reported_at s.min_int_secs) instant_min)) s.retry_at

-- `Subscription::is_report_allowed`
abbrev pub is_report_allowed : Subscription → ℕ → Bool
is_report_allowed s now = leb (report_allowed_at s) now

-- `Subscription::report_due_at`
unfoldable pub report_due_at : Subscription → KeepAlive → ℕ
report_due_at s keep_alive =
    cond (eqb s.reported_at instant_max) instant_min
    (unwrap_or (checked_add s.reported_at (due_after_secs keep_alive s.max_int_secs)) instant_min)

-- `Subscription::is_report_due`
abbrev pub is_report_due : Subscription → ℕ → KeepAlive → Bool
is_report_due s now keep_alive = leb (report_due_at s keep_alive) now

-- `Subscription::is_affected_by_attr_changes`
abbrev pub is_affected_by_attr_changes : Subscription → ChangedAttrs → Bool
is_affected_by_attr_changes s changes = any_since changes s.max_seen_attr_change_id

-- `Subscription::is_affected_by_new_events`
abbrev pub is_affected_by_new_events : Subscription → ℕ → Bool
is_affected_by_new_events s events = ltb s.max_seen_event_number events

-- `Subscription::is_reportable`
unfoldable pub is_reportable : ℕ → ChangedAttrs → ℕ → KeepAlive → Bool → Subscription → Bool
is_reportable now changes events keep_alive along s =
    cond (not (is_report_allowed s now)) false
    (along && ltb s.reported_at now
    || is_report_due s now keep_alive
    || is_affected_by_attr_changes s changes
    || is_affected_by_new_events s events)

-- `Subscription::next_report_at`
unfoldable pub next_report_at : ChangedAttrs → ℕ → KeepAlive → Subscription → ℕ
next_report_at changes events keep_alive s =
    cond (is_affected_by_attr_changes s changes || is_affected_by_new_events s events) (report_allowed_at s)
    (max (report_allowed_at s) (report_due_at s keep_alive))
