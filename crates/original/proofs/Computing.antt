-- A name under which every rule of the original computes, for closed examples only; `all_rules` of crate rules does it for the machine.
-- Assumes nothing.
use Prim.Native.Nat.{ℕ}
use Rattle.lists.specs.Search.{some, count}
use Rattle.lists.specs.Removal.{take_out_newest}
use Rattle.original.specs.Std.{checked_add, swap_remove, push, position, find, find_mut, remove_while, min_from}
use Rattle.original.specs.Time.{retry_backoff_secs, due_after_secs}
use Rattle.original.specs.Entries.{matches, covers, coarsen}
use Rattle.original.specs.Log.{contains_since, any_since, purge_up_to, best_pivot, collapse, promote_largest_group, promote_and_insert, recorded, record_raw}
use Rattle.original.specs.Subscription.{is_expired, report_allowed_at, report_due_at, is_reportable, next_report_at}
use Rattle.original.specs.Contexts.{should_send_if_empty, should_report_attr, set_keep, set_unsent, set_drop_failed, set_keep_retry, returned}
use Rattle.original.specs.Table.{add_with_id, report, report_complete, remove_loop, remove, clear, purge_reported_changes, next_report_of, any_reportable, next_keep_alive_at, count_for, total_established, has_subscription_for}
use Rattle.original.specs.Calls.{complete, takes, turns, call_on, after, answered}

unfoldable pub original_rules : ℕ
unfolding some count take_out_newest checked_add swap_remove push position find find_mut remove_while min_from retry_backoff_secs due_after_secs matches covers coarsen contains_since any_since purge_up_to best_pivot collapse promote_largest_group promote_and_insert recorded record_raw is_expired report_allowed_at report_due_at is_reportable next_report_at should_send_if_empty should_report_attr set_keep set_unsent set_drop_failed set_keep_retry returned add_with_id report report_complete remove_loop remove clear purge_reported_changes next_report_of any_reportable next_keep_alive_at count_for total_established has_subscription_for complete takes turns call_on after answered
original_rules = 0
