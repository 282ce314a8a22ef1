-- The map between the two states: the Rust's table for a state of document 01's machine, and back.
-- Assumes nothing.
use Rattle.std.specs.Prelude.{false, cond, List, [], ◌∷◌, map, ℕ, eqb, Option, Some, None}
use Rattle.changes.specs.declared.ChangedAttrs as changes
use Rattle.changes.specs.Logs.{entries_of, holding}
use Rattle.instants.specs.Instants.{instant, first_instant}
use Rattle.subscription.specs.declared.Subscription as one
use Rattle.rules.specs.States.{State, counted, is_report}
use Rattle.original.specs.Std.{unwrap_or}
use Rattle.original.specs.Log.{ChangedAttrs}
use Rattle.original.specs.Subscription.{Subscription}
use Rattle.original.specs.Contexts.{ReportContext, context}
use Rattle.original.specs.Table.{Subscriptions, owns_slot}

-- a subscription, without the values with which a report of it opened
unfoldable pub subscription_of : one.Subscription → Subscription
subscription_of x =
    record {
      id = x.id;
      fab_idx = x.fabric;
      peer_node_id = x.peer;
      min_int_secs = x.shortest;
      max_int_secs = x.longest;
      reported_at = x.reported.ms;
      retry_at = x.retry.ms;
      fail_count = x.fails;
      max_seen_attr_change_id = x.seen;
      max_seen_event_number = x.heard;
      rx = x.rx;
    }

-- the context of an open one, which holds those values
unfoldable pub context_of : one.Subscription → ReportContext
context_of x = context (subscription_of x) x.mark x.events x.opened.ms

-- the clone of the one that is reported on: the open one that is no priming
unfoldable pub reporting_of : List one.Subscription → Option Subscription
reporting_of [] = None
reporting_of (x ∷ xs) = cond (is_report x) (Some (subscription_of x)) (reporting_of xs)

-- the reason of a cancelled report
abbrev pub cancelled_of : ℕ → Option ℕ
cancelled_of reason = cond (eqb reason 0) None (Some reason)

-- the log, without the places that hold no entry
unfoldable pub log_of : changes.ChangedAttrs → ChangedAttrs
log_of g = record { next_change_id = g.next; entries = entries_of g }

-- the table, with the contexts of the open ones; counted are the stored and the open ones
unfoldable pub original_of : State → Subscriptions
original_of s =
    record {
      capacity = s.capacity;
      next_subscription_id = s.next;
      subscriptions_count = counted s;
      subscriptions = map subscription_of s.stored;
      changed_attrs = log_of s.log;
      reporting = reporting_of s.opens;
      reporting_cancelled = cancelled_of s.cancel;
      contexts = map context_of s.opens;
    }

-- ---- and back

-- a stored one, with blank opening values
unfoldable pub stored_of : Subscription → one.Subscription
stored_of s =
    record {
      peer = s.peer_node_id;
      reported = instant s.reported_at;
      retry = instant s.retry_at;
      seen = s.max_seen_attr_change_id;
      heard = s.max_seen_event_number;
      mark = 0;
      events = 0;
      opened = first_instant;
      id = s.id;
      shortest = s.min_int_secs;
      longest = s.max_int_secs;
      rx = s.rx;
      fabric = s.fab_idx;
      fails = s.fail_count;
      reporting = false;
    }

-- an open one, which is the report where it owns the slot
unfoldable pub open_of : Option Subscription → ReportContext → one.Subscription
open_of slot c =
    record {
      peer = c.subscription.peer_node_id;
      reported = instant c.subscription.reported_at;
      retry = instant c.subscription.retry_at;
      seen = c.subscription.max_seen_attr_change_id;
      heard = c.subscription.max_seen_event_number;
      mark = c.next_max_seen_attr_change_id;
      events = c.next_max_seen_event_number;
      opened = instant c.next_reported_at;
      id = c.subscription.id;
      shortest = c.subscription.min_int_secs;
      longest = c.subscription.max_int_secs;
      rx = c.subscription.rx;
      fabric = c.subscription.fab_idx;
      fails = c.subscription.fail_count;
      reporting = owns_slot c.subscription.id slot;
    }

-- the state that a table stands for
unfoldable pub state_of : Subscriptions → State
state_of t =
    record {
      capacity = t.capacity;
      next = t.next_subscription_id;
      cancel = unwrap_or t.reporting_cancelled 0;
      stored = map stored_of t.subscriptions;
      opens = map (open_of t.reporting) t.contexts;
      log = holding t.changed_attrs.entries t.changed_attrs.next_change_id;
    }
