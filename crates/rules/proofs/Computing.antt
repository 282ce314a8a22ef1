-- A name under which every rule of the machine and of the crates below computes, for closed examples only.
-- Assumes nothing.
use Prim.Native.Nat.{ℕ}
use Rattle.lists.specs.Search.{some, count, first, change_first, first_by, distinct, least_by}
use Rattle.lists.specs.Removal.{last_of, init_of, refilled, sweep_for, sweep, take_out, take_out_newest}
use Rattle.instants.specs.Instants.{later}
use Rattle.time.specs.Intervals.{backoff_secs, due_after_secs, granted_max_secs}
use Rattle.time.specs.Moments.{since_report, retry_at, expired}
use Rattle.entries.specs.Paths.{field_covers, covers, field_matches, matches, over, under, above, since, up_to, candidate}
use Rattle.notes.specs.Notes.{refreshed, placed, group_of, larger, largest_from, largest, newest, folded, crowded, inserted, entered}
use Rattle.notes.specs.Places.{held_as}
use Rattle.changes.specs.Logs.{holding, kept, identity_after, noted, purged, cleared}
use Rattle.subscription.specs.When.{gate_of, allowed_of, due_of, is_due, pending, along, reportable, next_of, is_over}
use Rattle.subscription.specs.Life.{priming, resumed, opened, stored_with, closed, gives_up, keeps, failed}
use Rattle.choices.specs.Choices.{chosen}
use Rattle.rules.specs.Marked.{after_notes, after_seventeen}
use Rattle.rules.specs.States.{counted, report_open, has_id, well_kept}
use Rattle.rules.specs.Machine.{first_of, objections, refusal, added, resumed_to, noted_in, ready, reported, completed_in, removed, cleared_in, purged_in, attribute_in, send_if_empty_in, next_instant_in, any_reportable_in, keep_alive_in, statistics_in, has_subscription_in, round_from, round_in, act, step, run, answers}

unfoldable pub all_rules : ℕ
unfolding some count first change_first first_by distinct least_by last_of init_of refilled sweep_for sweep take_out take_out_newest later backoff_secs due_after_secs since_report retry_at expired field_covers covers field_matches matches over under above since up_to refreshed placed candidate group_of larger largest_from largest newest folded crowded inserted entered held_as holding kept identity_after noted purged cleared gate_of allowed_of due_of is_due pending along reportable next_of is_over priming resumed opened stored_with closed gives_up keeps failed chosen counted report_open has_id well_kept first_of objections refusal added resumed_to noted_in ready reported completed_in removed cleared_in purged_in attribute_in send_if_empty_in next_instant_in any_reportable_in keep_alive_in statistics_in has_subscription_in round_from round_in act step run answers granted_max_secs after_notes after_seventeen
all_rules = 0
