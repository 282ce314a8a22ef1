-- `ReportContext` of subscriptions.rs, function by function: what a caller holds while it reports to one subscriber.
-- Assumes nothing.
use Rattle.std.specs.Prelude.{Bool, true, false, cond, ℕ, eqb}
use Rattle.time.specs.declared.KeepAlive.{KeepAlive}
use Rattle.original.specs.Std.{unwrap_or, saturating_add, instant_min, instant_max, checked_add}
use Rattle.original.specs.Time.{retry_backoff_secs}
use Rattle.original.specs.Log.{ChangedAttrs, contains_since}
use Rattle.original.specs.Subscription.{Subscription, is_report_due}

-- `struct ReportContext`
pub record ReportContext : Type 0 where
  pub subscription : Subscription
  pub next_max_seen_attr_change_id : ℕ
  pub next_max_seen_event_number : ℕ
  pub next_reported_at : ℕ
  pub next_retry_at : ℕ
  pub next_fail_count : ℕ
  pub keep : Bool
  -- whether `report_failed` was notified through it, which its caller can hear
  pub report_failed : Bool

-- as `Subscriptions::report` and `Subscriptions::add_with_id` make it
abbrev pub context : Subscription → ℕ → ℕ → ℕ → ReportContext
context s watermark events now =
    record {
      subscription = s;
      next_max_seen_attr_change_id = watermark;
      next_max_seen_event_number = events;
      next_reported_at = now;
      next_retry_at = instant_min;
      next_fail_count = 0;
      keep = false;
      report_failed = false;
    }

-- `ReportContext::should_send_if_empty`
unfoldable pub should_send_if_empty : KeepAlive → ReportContext → Bool
should_send_if_empty keep_alive c = is_report_due c.subscription c.next_reported_at keep_alive

-- `ReportContext::should_report_attr`
unfoldable pub should_report_attr : ChangedAttrs → ℕ → ℕ → ℕ → ReportContext → Bool
should_report_attr changes endpoint cluster attr c =
    cond (eqb c.subscription.reported_at instant_max) true
    (contains_since changes endpoint cluster attr c.subscription.max_seen_attr_change_id)

-- with these two flags, and the rest as it is
abbrev pub flagged : Bool → Bool → ReportContext → ReportContext
flagged keep report_failed c =
    record {
      subscription = c.subscription;
      next_max_seen_attr_change_id = c.next_max_seen_attr_change_id;
      next_max_seen_event_number = c.next_max_seen_event_number;
      next_reported_at = c.next_reported_at;
      next_retry_at = c.next_retry_at;
      next_fail_count = c.next_fail_count;
      keep = keep;
      report_failed = report_failed;
    }

-- an assignment to `next_reported_at`
abbrev pub with_next_reported_at : ℕ → ReportContext → ReportContext
with_next_reported_at at c =
    record {
      subscription = c.subscription;
      next_max_seen_attr_change_id = c.next_max_seen_attr_change_id;
      next_max_seen_event_number = c.next_max_seen_event_number;
      next_reported_at = at;
      next_retry_at = c.next_retry_at;
      next_fail_count = c.next_fail_count;
      keep = c.keep;
      report_failed = c.report_failed;
    }

-- `ReportContext::set_keep`
unfoldable pub set_keep : ReportContext → ReportContext
set_keep c = flagged true c.report_failed c

-- `ReportContext::set_unsent`
unfoldable pub set_unsent : ReportContext → ReportContext
set_unsent c = with_next_reported_at c.subscription.reported_at c

-- `ReportContext::set_drop_failed`
unfoldable pub set_drop_failed : ReportContext → ReportContext
set_drop_failed c = flagged false true c

-- `fail_count` in `ReportContext::set_keep_retry`
abbrev pub next_fails : ReportContext → ℕ
next_fails c = saturating_add 8 c.subscription.fail_count 1

-- `ReportContext::set_keep_retry`
unfoldable pub set_keep_retry : ReportContext → ReportContext
set_keep_retry c =
    cond (eqb c.subscription.reported_at instant_max) (flagged false c.report_failed c)
    (record {
      subscription = c.subscription;
      next_max_seen_attr_change_id = c.subscription.max_seen_attr_change_id;
      next_max_seen_event_number = c.subscription.max_seen_event_number;
      next_reported_at = c.subscription.reported_at;
      next_retry_at =
          unwrap_or (checked_add c.next_reported_at (retry_backoff_secs (next_fails c) c.subscription.max_int_secs)) instant_max;
      next_fail_count = next_fails c;
      keep = true;
      report_failed = true;
    })

-- the subscription that `Subscriptions::report_complete` makes of it
unfoldable pub returned : ReportContext → Subscription
returned c =
    record {
      id = c.subscription.id;
      fab_idx = c.subscription.fab_idx;
      peer_node_id = c.subscription.peer_node_id;
      min_int_secs = c.subscription.min_int_secs;
      max_int_secs = c.subscription.max_int_secs;
      reported_at = c.next_reported_at;
      retry_at = c.next_retry_at;
      fail_count = c.next_fail_count;
      max_seen_attr_change_id = c.next_max_seen_attr_change_id;
      max_seen_event_number = c.next_max_seen_event_number;
      rx = c.subscription.rx;
    }
