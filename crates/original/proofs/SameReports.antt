-- A report: the Rust finds the subscription that the machine hands out, by swap removal, and leaves its clone in the slot.
-- Assumes nothing.
use Rattle.std.specs.Prelude.{Some, None}
use mathlib.Core.Path.{◌≡◌, refl, sym, ap, ◌∙◌, fun_ext}
use mathlib.Core.Bool.{Bool, true, false, cond}
use mathlib.Core.List.{◌∷◌, map}
use native.Mathlib.Omega.{arith}
use Rattle.lists.specs.Search.{some, first_by}
use Rattle.lists.specs.Removal.{take_out}
use Rattle.lists.proofs.Bools.{split}
use Rattle.lists.proofs.Counts.{count_taken, count_every}
use Rattle.lists.proofs.Maps.{some_map, first_map, taken_map}
use Rattle.changes.specs.Logs.{watermark_of}
use Rattle.subscription.specs.declared.Settings.{Settings}
use Rattle.subscription.specs.Life.{blank}
use Rattle.subscription.proofs.Laws.{opened_reporting}
use Rattle.subscription.proofs.Cases.{opened_is}
use Rattle.rules.specs.States.{State, counted}
use Rattle.rules.specs.Calls as call
use Rattle.rules.specs.Machine.{with_ones, ready, next_up, opened_in, act}
use Rattle.rules.proofs.Acts.{ready_is, act_report, reported_one, reported_none}
use Rattle.rules.proofs.Clauses.{counted_is}
use Rattle.original.specs.Std.{position}
use Rattle.original.specs.Log.{watermark}
use Rattle.original.specs.Subscription.{Subscription, is_reportable}
use Rattle.original.specs.Contexts.{context}
use Rattle.original.specs.Table.{Subscriptions, with_inner, with_contexts, swap_removed, report, any_reportable}
use Rattle.original.specs.Calls.{reply, call_on}
use Rattle.original.specs.Likeness.{subscription_of, context_of, reporting_of, cancelled_of, log_of, original_of}
use Rattle.original.proofs.Alike.{reply_of, same_table, Fit}
use Rattle.original.proofs.Opens.{slot_report}
use Rattle.original.proofs.SameNotes.{watermark_is}
use Rattle.original.proofs.SameSubscription.{reportable_same, opened_same}
use Rattle.original.proofs.Vectors.{first_removed, position_some}

module _ (at : Settings) (s : State) where
  -- the Rust's test, of a stored one
  abbrev test : Subscription → Bool
  test = is_reportable at.now.ms (log_of s.log) at.events at.kind at.all

  test_same : (λ x. test (subscription_of x)) ≡ ready at s
  test_same = fun_ext (λ x. reportable_same x s.log at.events at.kind at.now at.all ∙ sym (ready_is at s x))

  some_same : some test (map subscription_of s.stored) ≡ some (ready at s) s.stored
  some_same = some_map subscription_of test s.stored ∙ ap (λ p. some p s.stored) test_same

  -- the one found and what is left
  found_same : swap_removed (position test (map subscription_of s.stored)) (map subscription_of s.stored)
      ≡ cond (some (ready at s) s.stored)
      (Some (subscription_of (next_up at s), map subscription_of (take_out (ready at s) s.stored))) None
  found_same =
      first_removed test (subscription_of blank) (map subscription_of s.stored)
      ∙ rw (some_same, first_map subscription_of test blank s.stored, taken_map subscription_of test s.stored)
      (ap (λ p. cond (some (ready at s) s.stored)
      (Some (subscription_of (first_by p blank s.stored), map subscription_of (take_out p s.stored))) None) test_same)

  -- whether anybody is reportable
  pub any_same : any_reportable at (original_of s) ≡ some (ready at s) s.stored
  unfolding any_reportable original_of
  any_same = position_some test (map subscription_of s.stored) ∙ some_same

  -- the table that has handed it out
  abbrev pub left : Subscriptions
  left =
      with_inner (counted s) (map subscription_of (take_out (ready at s) s.stored)) (Some (subscription_of (next_up at s)))
      (cancelled_of s.cancel) (original_of s)

  pub report_none : some (ready at s) s.stored ≡ false → report at (original_of s) ≡ None
  unfolding report original_of
  report_none e = rw (found_same, e)

  module _ (fit : Fit s) (found : some (ready at s) s.stored ≡ true) where
    context_same : context (subscription_of (next_up at s)) (watermark (log_of s.log)) at.events at.now.ms
        ≡ context_of (opened_in at s (next_up at s))
    context_same =
        rw (watermark_is s.log fit.sound.log fit.identities)
        (sym (opened_same (next_up at s) (watermark_of s.log) at.events at.now))

    pub report_one : report at (original_of s) ≡ Some (context_of (opened_in at s (next_up at s)), left)
    unfolding report original_of
    report_one = rw (found_same, found) (ap (λ c. Some (c, left)) context_same)

    -- the state after it
    abbrev handed : State
    handed = with_ones s (take_out (ready at s) s.stored) (opened_in at s (next_up at s) ∷ s.opens)

    -- none comes or goes: what was stored is open
    pub handed_counts : counted s ≡ counted handed
    handed_counts =
        omega (
          arith,
          counted_is s,
          counted_is handed,
          count_taken (λ x. true) (ready at s) blank s.stored found,
          count_every s.stored,
          count_every (take_out (ready at s) s.stored),
        )

    -- the same subscription, with or without the values that its report opened with
    pub opened_plain : subscription_of (opened_in at s (next_up at s)) ≡ subscription_of (next_up at s)
    unfolding subscription_of
    opened_plain = rw (opened_is (next_up at s) (watermark_of s.log) at.events at.now)

    slot_same : Some (subscription_of (next_up at s)) ≡ reporting_of (opened_in at s (next_up at s) ∷ s.opens)
    slot_same =
        sym
        (slot_report (opened_in at s (next_up at s)) s.opens (opened_reporting (next_up at s) (watermark_of s.log) at.events at.now)
        ∙ ap Some opened_plain)

    -- with the context in a caller's hands
    pub left_same : with_contexts (context_of (opened_in at s (next_up at s)) ∷ map context_of s.opens) left ≡ original_of handed
    unfolding original_of
    left_same = same_table refl refl handed_counts refl refl slot_same refl refl

  pub report_same : Fit s → call_on (call.report at) (original_of s) ≡ reply_of (act (call.report at) s)
  unfolding call_on context_of subscription_of original_of
  report_same fit =
      split (some (ready at s) s.stored)
      (λ t. rw (act_report at s, reported_one at s t, report_one fit t)
      (ap (λ x. reply (call.handed x.id x.rx)
      (with_contexts (context_of (opened_in at s (next_up at s)) ∷ map context_of s.opens) left)) (opened_plain fit t)
      ∙ ap (reply (call.handed (next_up at s).id (next_up at s).rx)) (left_same fit t)))
      (λ t. rw (act_report at s, reported_none at s t, report_none t))
