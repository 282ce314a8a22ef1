-- `Subscriptions` and `SubscriptionsInner` of subscriptions.rs, function by function: the table. The contexts that callers hold stand
-- beside it. Nothing is refused but what the Rust refuses.
-- Assumes nothing.
use Rattle.std.specs.Prelude.{Bool, true, false, cond, ◌&&◌, ◌||◌, List, [], ◌∷◌, ◌++◌, map, ℕ, zero, suc, ◌+◌, ◌-◌, max, eqb, leb, ltb, length, Option, Some, None, slice_get}
use Rattle.lists.specs.Search.{some, count}
use Rattle.time.specs.declared.KeepAlive.{KeepAlive}
use Rattle.time.specs.declared.KeepAlive.TheVariants.{Icd}
use Rattle.subscription.specs.declared.Request.{Request}
use Rattle.subscription.specs.declared.Settings.{Settings}
use Rattle.original.specs.Std.{unwrap_or, is_some, map_some, wrapping_add, wrapping_sub, instant_min, instant_max, swap_remove, position, iter_min}
use Rattle.original.specs.Log.{ChangedAttrs, new_log, watermark, purge_up_to, clear_log}
use Rattle.original.specs.Subscription.{Subscription, report_due_at, is_reportable, next_report_at}
use Rattle.original.specs.Contexts.{ReportContext, context, returned}

-- `struct SubscriptionsInner`
pub record Subscriptions : Type 0 where
  -- `N`
  pub capacity : ℕ
  pub next_subscription_id : ℕ
  pub subscriptions_count : ℕ
  pub subscriptions : List Subscription
  pub changed_attrs : ChangedAttrs
  pub reporting : Option Subscription
  -- the reason, a text in the Rust, by its number
  pub reporting_cancelled : Option ℕ
  -- the contexts that callers hold, the newest first
  pub contexts : List ReportContext

-- `SubscriptionsInner::new`
abbrev pub new_table : ℕ → Subscriptions
new_table capacity =
    record {
      capacity = capacity;
      next_subscription_id = 1;
      subscriptions_count = 0;
      subscriptions = [];
      changed_attrs = new_log;
      reporting = None;
      reporting_cancelled = None;
      contexts = [];
    }

-- the table with another count, other subscriptions, another report and another cancellation
abbrev pub with_inner : ℕ → List Subscription → Option Subscription → Option ℕ → Subscriptions → Subscriptions
with_inner subscriptions_count subscriptions reporting reporting_cancelled t =
    record {
      capacity = t.capacity;
      next_subscription_id = t.next_subscription_id;
      subscriptions_count = subscriptions_count;
      subscriptions = subscriptions;
      changed_attrs = t.changed_attrs;
      reporting = reporting;
      reporting_cancelled = reporting_cancelled;
      contexts = t.contexts;
    }

-- with another log
abbrev pub with_log : ChangedAttrs → Subscriptions → Subscriptions
with_log changed_attrs t =
    record {
      capacity = t.capacity;
      next_subscription_id = t.next_subscription_id;
      subscriptions_count = t.subscriptions_count;
      subscriptions = t.subscriptions;
      changed_attrs = changed_attrs;
      reporting = t.reporting;
      reporting_cancelled = t.reporting_cancelled;
      contexts = t.contexts;
    }

-- with other contexts in callers' hands
abbrev pub with_contexts : List ReportContext → Subscriptions → Subscriptions
with_contexts contexts t =
    record {
      capacity = t.capacity;
      next_subscription_id = t.next_subscription_id;
      subscriptions_count = t.subscriptions_count;
      subscriptions = t.subscriptions;
      changed_attrs = t.changed_attrs;
      reporting = t.reporting;
      reporting_cancelled = t.reporting_cancelled;
      contexts = contexts;
    }

-- ---- `SubscriptionsInner::add` and `Subscriptions::add_with_id`

-- the subscription that is added
abbrev pub fresh : ℕ → Request → ChangedAttrs → Subscription
fresh id request changed_attrs =
    record {
      id = id;
      fab_idx = request.fabric;
      peer_node_id = request.peer;
      min_int_secs = request.shortest;
      max_int_secs = request.longest;
      reported_at = instant_max;
      retry_at = instant_min;
      fail_count = 0;
      max_seen_attr_change_id = watermark changed_attrs;
      max_seen_event_number = 0;
      rx = request.rx;
    }

-- the table that has counted it
abbrev pub counting : ℕ → Subscriptions → Subscriptions
counting id t =
    record {
      capacity = t.capacity;
      next_subscription_id = max t.next_subscription_id (wrapping_add 32 id 1);
      subscriptions_count = t.subscriptions_count + 1;
      subscriptions = t.subscriptions;
      changed_attrs = t.changed_attrs;
      reporting = t.reporting;
      reporting_cancelled = t.reporting_cancelled;
      contexts = t.contexts;
    }

-- a context for the first report and the table, or nothing where it is full
unfoldable pub add_with_id : Option ℕ → ℕ → Request → ℕ → Subscriptions → Option (ReportContext × Subscriptions)
add_with_id asked now request events t =
    cond (leb t.capacity t.subscriptions_count) None
    (let id : ℕ = unwrap_or asked t.next_subscription_id in
    Some (context (fresh id request t.changed_attrs) (watermark t.changed_attrs) events now, counting id t))

-- ---- `Subscriptions::report`, without its debug assertions that no report is open: a second one takes the slot

-- `SubscriptionsInner::find_reportable`
abbrev pub find_reportable : Settings → Subscriptions → Option ℕ
find_reportable at t =
    position (is_reportable at.now.ms t.changed_attrs at.events at.kind at.all) t.subscriptions

module _ {A : Type 0} where
  -- the one at a place, if there is one, and what is left
  abbrev pub removed_at : Option A → List A → Option (A × List A)
  removed_at None l = None
  removed_at (Some x) l = Some (x, l)

  -- `vector.swap_remove(index)` of a place that was found: the one removed, and what is left
  abbrev pub swap_removed : Option ℕ → List A → Option (A × List A)
  swap_removed None l = None
  swap_removed (Some index) l = removed_at (slice_get l index) (swap_remove index l)

-- a context for the subscription found and the table that has its clone in `reporting`, or nothing
abbrev pub handed_out : Settings → Subscriptions → Option (Subscription × List Subscription) → Option (ReportContext × Subscriptions)
handed_out at t None = None
handed_out at t (Some (s, others)) =
    Some (
      context s (watermark t.changed_attrs) at.events at.now.ms,
      with_inner t.subscriptions_count others (Some s) t.reporting_cancelled t,
    )

-- the first that is reportable
unfoldable pub report : Settings → Subscriptions → Option (ReportContext × Subscriptions)
report at t = handed_out at t (swap_removed (find_reportable at t) t.subscriptions)

-- ---- `SubscriptionsInner::report_complete`, after the values of the context were put into the subscription. Its push is unwrapped: there
-- is room while the count is right.

-- `self.reporting.as_ref().is_some_and(|reporting| reporting.ids.id == sub.ids.id)`
abbrev pub owns_slot : ℕ → Option Subscription → Bool
owns_slot id None = false
owns_slot id (Some reporting) = eqb reporting.id id

-- dropped or put back, with `reporting` and `reporting_cancelled` as they are left
abbrev pub put_back : Bool → Bool → Subscription → Option Subscription → Option ℕ → Subscriptions → Subscriptions
put_back cancelled keep s reporting reporting_cancelled t =
    cond cancelled
    (with_inner (wrapping_sub 64 t.subscriptions_count 1) t.subscriptions reporting reporting_cancelled t)
    (cond keep
    (with_inner t.subscriptions_count (t.subscriptions ++ (s ∷ [])) reporting reporting_cancelled t)
    (with_inner (wrapping_sub 64 t.subscriptions_count 1) t.subscriptions reporting reporting_cancelled t))

-- only the report that owns the slot empties it and takes its cancellation
unfoldable pub report_complete : ReportContext → Subscriptions → Subscriptions
report_complete c t =
    cond (owns_slot c.subscription.id t.reporting)
    (put_back (is_some t.reporting_cancelled) c.keep (returned c) None None t)
    (put_back false c.keep (returned c) t.reporting t.reporting_cancelled t)

-- ---- `Subscriptions::remove`

-- where its loop stands: the count, the subscriptions, `removed`
pub record Removal : Type 0 where
  pub subscriptions_count : ℕ
  pub subscriptions : List Subscription
  pub removed : Bool

-- the loop: the number is how many turns are left to it
unfoldable pub remove_loop : ℕ → (Subscription → Bool) → Removal → Removal
remove_loop zero f r = r
remove_loop (suc n) f r =
    elim (position f r.subscriptions) [
      | None ↦ r
      | Some index ↦ remove_loop n f
          (record {
            subscriptions_count = wrapping_sub 64 r.subscriptions_count 1;
            subscriptions = swap_remove index r.subscriptions;
            removed = true;
          })
    ]

-- `if state.reporting_cancelled.is_none() { if let Some(sub) = state.reporting .. { if let Some(reason) = f(sub) {`
abbrev pub cancels : (Subscription → Bool) → Option Subscription → Option ℕ → Bool
cancels f None cancelled = false
cancels f (Some reporting) None = f reporting
cancels f (Some reporting) (Some reason) = false

-- whether it removed or cancelled, and the table
unfoldable pub remove : (Subscription → Bool) → ℕ → Subscriptions → Bool × Subscriptions
remove f reason t =
    let r : Removal = remove_loop (length t.subscriptions) f
    (record { subscriptions_count = t.subscriptions_count; subscriptions = t.subscriptions; removed = false }) in (
      r.removed || cancels f t.reporting t.reporting_cancelled,
      with_inner r.subscriptions_count r.subscriptions t.reporting
          (cond (cancels f t.reporting t.reporting_cancelled) (Some reason) t.reporting_cancelled) t,
    )

-- ---- `SubscriptionsInner::clear`, whose reason "subscriptions cleared" has the number 255; the requests go with the subscriptions

-- the report in flight stays counted until it completes
unfoldable pub clear : Subscriptions → Subscriptions
clear t =
    cond (is_some t.reporting)
    (with_inner 1 [] t.reporting (Some 255) t)
    (with_inner 0 [] t.reporting t.reporting_cancelled t)

-- ---- `SubscriptionsInner::purge_reported_changes`

-- up to the least that every subscription has seen, or all where there is none
abbrev pub purged_by : Option ℕ → ChangedAttrs → ChangedAttrs
purged_by None g = clear_log g
purged_by (Some least) g = purge_up_to least g

-- not while more are counted than are in the vector
unfoldable pub purge_reported_changes : Subscriptions → Subscriptions
purge_reported_changes t =
    cond (ltb (length t.subscriptions) t.subscriptions_count) t
    (with_log (purged_by (iter_min (map (λ s. s.max_seen_attr_change_id) t.subscriptions)) t.changed_attrs) t)

-- ---- questions

-- `SubscriptionsInner::next_report_at`
unfoldable pub next_report_of : ℕ → KeepAlive → Subscriptions → ℕ
next_report_of events keep_alive t =
    unwrap_or (iter_min (map (next_report_at t.changed_attrs events keep_alive) t.subscriptions)) instant_max

-- `Subscriptions::any_reportable`
unfoldable pub any_reportable : Settings → Subscriptions → Bool
any_reportable at t = is_some (find_reportable at t)

-- `Subscriptions::next_keep_alive_at`
unfoldable pub next_keep_alive_at : Subscriptions → Option ℕ
next_keep_alive_at t = iter_min (map (λ s. report_due_at s Icd) t.subscriptions)

-- `Subscriptions::load_stats`: its `current_subscriptions_for_fabric`
unfoldable pub count_for : Option ℕ → Subscriptions → ℕ
count_for fab_idx t = unwrap_or (map_some (λ fab. count (λ s. eqb s.fab_idx fab) t.subscriptions) fab_idx) 0

-- and its `total_subscriptions_established`
unfoldable pub total_established : Subscriptions → ℕ
total_established t = t.next_subscription_id - 1

-- `Subscriptions::has_subscription_for`
unfoldable pub has_subscription_for : ℕ → ℕ → Subscriptions → Bool
has_subscription_for fab_idx node_id t =
    some (λ s. eqb s.fab_idx fab_idx && eqb s.peer_node_id node_id && eqb s.fail_count 0) t.subscriptions
