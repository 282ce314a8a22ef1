-- Remove, clear and purge: the Rust does what the machine does.
-- Assumes nothing.
use Rattle.std.specs.Prelude.{Option, Some, None}
use mathlib.Core.Path.{◌≡◌, refl, sym, ap, ◌∙◌, fun_ext}
use mathlib.Core.Bool.{Bool, true, false, cond, not, ◌&&◌, ◌||◌, or-false}
use mathlib.Core.List.{List, [], ◌∷◌, map}
use Prim.Native.Nat.{ℕ, suc, ◌+◌, ◌≤◌}
use native.Mathlib.Omega.{arith}
use borrow.Author.Tests.{lt-ltb, le-ltb, ltb-true, ltb-false}
use lib.Dec.{eqb, leb, ltb}
use lib.ListN.{length, length-map}
use Rattle.lists.specs.Search.{one, some, count, least_by}
use Rattle.lists.specs.Removal.{sweep}
use Rattle.lists.proofs.Bools.{split, or_neither, and_left}
use Rattle.lists.proofs.Counts.{one_yes, one_no, count_none, count_some, none_count}
use Rattle.lists.proofs.Numbers.{none_counted}
use Rattle.lists.proofs.Maps.{some_map, sweep_map}
use Rattle.changes.specs.declared.ChangedAttrs as changes
use Rattle.changes.specs.Logs.{kept, purged, cleared}
use Rattle.subscription.specs.declared.Subscription as one
use Rattle.choices.specs.declared.Choice.{Choice}
use Rattle.choices.specs.Choices.{chosen}
use Rattle.rules.specs.States.{State, counted, is_report, is_priming}
use Rattle.rules.specs.Calls as call
use Rattle.rules.specs.Machine as machine
use Rattle.rules.specs.Machine.{with_cancel, with_ones, with_log, least_seen, first_of, objections, act}
use Rattle.rules.proofs.Acts.{act_remove, act_clear, act_purge}
use Rattle.rules.proofs.Clauses.{counted_is, remove_objects, clear_objects}
use Rattle.rules.proofs.Objections.{unobjected}
use Rattle.rules.proofs.Sound.{Sound}
use Rattle.original.specs.Std.{iter_min}
use Rattle.original.specs.Subscription.{Subscription}
use Rattle.original.specs.Table as table
use Rattle.original.specs.Table.{cancels, remove, clear, purged_by, purge_reported_changes}
use Rattle.original.specs.Calls.{reply, takes, call_on}
use Rattle.original.specs.Likeness.{subscription_of, reporting_of, cancelled_of, log_of, original_of}
use Rattle.original.proofs.Alike.{reply_of, same_table, few}
use Rattle.original.proofs.Opens.{slot_full}
use Rattle.original.proofs.SameNotes.{purge_is, clear_is}
use Rattle.original.proofs.SameRemoval.{loop_sweeps}
use Rattle.original.proofs.SameSubscription.{takes_same}
use Rattle.original.proofs.Vectors.{least_is}

-- ---- removal

module _ (f : Subscription → Bool) (q : one.Subscription → Bool) (same : (x : one.Subscription) → f (subscription_of x) ≡ q x) where
  -- the report matches exactly where an open one does that is no priming: there is at most one
  slot_matches : (l : List one.Subscription) → count is_report l ≤ 1 → cancels f (reporting_of l) None ≡ some (λ x. is_report x && q x) l
  unfolding reporting_of some count
  slot_matches [] h = refl
  slot_matches (x ∷ xs) h = go (is_report x) refl (slot_matches xs)
    where
      alone : count is_report xs ≡ 0 → some (λ x. is_report x && q x) xs ≡ false
      alone z =
          none_count (λ x. is_report x && q x) xs
          (none_counted is_report (λ x. is_report x && q x) xs (λ y e. and_left (is_report y) (q y) e) (none_count is_report xs z))

      go : (b : Bool) → is_report x ≡ b
          → (count is_report xs ≤ 1 → cancels f (reporting_of xs) None ≡ some (λ x. is_report x && q x) xs)
          → cancels f (cond b (Some (subscription_of x)) (reporting_of xs)) None ≡ ((b && q x) || some (λ x. is_report x && q x) xs)
      go true e ih = same x ∙ sym (or-false (q x)) ∙ ap (λ b. q x || b) (sym (alone (omega (arith, one_yes e))))
      go false e ih = ih (omega (arith, one_no e))

  -- it is cancelled where it matches and is not cancelled yet
  cancels_same : (n : ℕ) (l : List one.Subscription) → count is_report l ≤ 1
      → cancels f (reporting_of l) (cancelled_of n) ≡ (eqb n 0 && some (λ x. is_report x && q x) l)
  cancels_same n l h = split (eqb n 0) (λ t. rw t (slot_matches l h)) (λ t. rw t (go (reporting_of l)))
    where
      go : (o : Option Subscription) → cancels f o (Some n) ≡ false
      go None = refl
      go (Some r) = refl

-- a reason is not 0, so that the cancellation can be told by its number
reason_same : (b : Bool) (reason n : ℕ) → eqb reason 0 ≡ false → cond b (Some reason) (cancelled_of n) ≡ cancelled_of (cond b reason n)
reason_same true reason n h = rw h
reason_same false reason n h = refl

pub remove_same : (s : State) → Sound s → (choice : Choice) (reason : ℕ) → first_of (objections (call.remove choice reason) s) ≡ None
    → call_on (call.remove choice reason) (original_of s) ≡ reply_of (act (call.remove choice reason) s)
unfolding call_on remove original_of
remove_same s sound choice reason e =
    let a = unobjected _ _ _ (ap first_of (sym (remove_objects s choice reason)) ∙ e) in
    let some-reason : eqb reason 0 ≡ false = (or_neither (eqb reason 0) (leb 255 reason) a.0).0 in
    rw (
      act_remove s choice reason,
      counting,
      loop_sweeps (takes choice) (map subscription_of s.stored) (length s.opens) room,
      swept,
      wakes,
      cancelling,
      reason_same (machine.cancels choice s) reason s.cancel some-reason,
    )
    (ap (reply (call.yes_no (some (chosen choice) s.stored || machine.cancels choice s)))
    (same_table refl refl counts refl refl refl refl refl))
  where
    takes_chosen : (λ x. takes choice (subscription_of x)) ≡ chosen choice
    takes_chosen = fun_ext (λ x. takes_same x choice)

    counting : counted s ≡ length (map subscription_of s.stored) + length s.opens
    counting = omega (arith, counted_is s, length-map s.stored subscription_of)

    room : length (map subscription_of s.stored) + length s.opens ≤ 80
    room = omega (arith, few s sound, length-map s.stored subscription_of)

    swept : sweep (takes choice) (map subscription_of s.stored) ≡ map subscription_of (sweep (chosen choice) s.stored)
    swept = sweep_map subscription_of (takes choice) s.stored ∙ ap (λ p. map subscription_of (sweep p s.stored)) takes_chosen

    wakes : some (takes choice) (map subscription_of s.stored) ≡ some (chosen choice) s.stored
    wakes = some_map subscription_of (takes choice) s.stored ∙ ap (λ p. some p s.stored) takes_chosen

    cancelling : cancels (takes choice) (reporting_of s.opens) (cancelled_of s.cancel) ≡ machine.cancels choice s
    cancelling = cancels_same (takes choice) (chosen choice) (λ x. takes_same x choice) s.cancel s.opens sound.single

    after : State
    after =
        with_cancel (with_ones s (sweep (chosen choice) s.stored) s.opens) (cond (machine.cancels choice s) reason s.cancel)

    counts : length (map subscription_of (sweep (chosen choice) s.stored)) + length s.opens ≡ counted after
    counts = omega (arith, counted_is after, length-map (sweep (chosen choice) s.stored) subscription_of)

-- ---- clearing

-- every open one is the report or a priming
kinds : (l : List one.Subscription) → count is_report l + count is_priming l ≡ length l
unfolding count
kinds [] = refl
kinds (x ∷ xs) = go (is_report x) (kinds xs)
  where
    go : (b : Bool) → count is_report xs + count is_priming xs ≡ length xs
        → one b + count is_report xs + (one (not b) + count is_priming xs) ≡ suc (length xs)
    go true e = omega arith
    go false e = omega arith

pub clear_same : (s : State) → Sound s → first_of (objections call.clear s) ≡ None
    → call_on call.clear (original_of s) ≡ reply_of (act call.clear s)
unfolding call_on clear original_of
clear_same s sound e =
    let a = unobjected _ _ _ (ap first_of (sym (clear_objects s)) ∙ e) in
    let only = kinds s.opens in
    let primings = count_none is_priming s.opens a.0 in
    split (some is_report s.opens)
    (λ t. rw (act_clear s, slot_full s.opens, t)
    (ap (reply (call.yes_no false))
    (same_table refl refl (omega (arith, counted_is (after 255), count_some is_report s.opens t, sound.single)) refl refl refl refl
    refl)))
    (λ t. rw (act_clear s, slot_full s.opens, t)
    (ap (reply (call.yes_no false))
    (same_table refl refl (omega (arith, counted_is (after s.cancel), count_none is_report s.opens t)) refl refl refl refl refl)))
  where
    after : ℕ → State
    after n = with_cancel (with_ones s [] s.opens) n

-- ---- purge

-- up to the least watermark of all stored ones, or all of it where none is stored
purged_log : (g : changes.ChangedAttrs) → kept g ≡ true → (l : List one.Subscription)
    → purged_by (iter_min (map (λ x. x.max_seen_attr_change_id) (map subscription_of l))) (log_of g)
    ≡ log_of (cond (ltb 0 (length l)) (purged g (least_seen l)).log (cleared g).log)
unfolding subscription_of
purged_log g k [] = clear_is g k
purged_log g k (x ∷ xs) =
    rw (least_is subscription_of (λ y. y.max_seen_attr_change_id) x.seen xs, lt-ltb 0 (suc (length xs)) (omega arith))
    (purge_is g k (least_by (λ y. y.seen) x.seen xs))

pub purge_same : (s : State) → Sound s → call_on call.purge (original_of s) ≡ reply_of (act call.purge s)
unfolding call_on purge_reported_changes original_of
purge_same s sound =
    split (ltb 0 (length s.opens))
    (λ t. rw (act_purge s, busy, t) (ap (reply call.done) (recount s.log)))
    (λ t. rw (act_purge s, busy, t)
    (ap (λ g. reply call.done (table.with_log g (original_of s))) (purged_log s.log sound.log s.stored)
    ∙ ap (reply call.done) (recount _)))
  where
    -- something is open exactly where more are counted than are stored
    busy : ltb (length (map subscription_of s.stored)) (counted s) ≡ ltb 0 (length s.opens)
    busy =
        let stored = length-map s.stored subscription_of in
        split (ltb 0 (length s.opens))
        (λ t. lt-ltb (length (map subscription_of s.stored)) (counted s)
        (omega (arith, counted_is s, ltb-true 0 (length s.opens) t))
        ∙ sym t)
        (λ t. le-ltb (length (map subscription_of s.stored)) (counted s)
        (omega (arith, counted_is s, ltb-false 0 (length s.opens) t))
        ∙ sym t)

    recount : (g : changes.ChangedAttrs) → table.with_log (log_of g) (original_of s) ≡ original_of (with_log s g)
    recount g = same_table refl refl (counted_is s ∙ sym (counted_is (with_log s g))) refl refl refl refl refl
