-- The questions: the Rust answers what the machine answers.
-- Assumes nothing.
use Rattle.std.specs.Prelude.{Some, None}
use mathlib.Core.Path.{◌≡◌, refl, sym, ap, ◌∙◌, fun_ext}
use mathlib.Core.Bool.{Bool, true, false, cond, ◌&&◌, ◌||◌, and_assoc}
use mathlib.Core.List.{List, [], ◌∷◌, map}
use Prim.Native.Nat.{ℕ, ◌-◌}
use native.Mathlib.Omega.{arith}
use borrow.Author.Tests.{ltb-false, not-false}
use lib.Dec.{eqb}
use Rattle.lists.specs.Search.{some, count, least_by}
use Rattle.lists.proofs.Bools.{split}
use Rattle.lists.proofs.Counts.{none_one, count_cons}
use Rattle.lists.proofs.Numbers.{least_lower}
use Rattle.lists.proofs.Maps.{some_map, count_map}
use Rattle.refusal.specs.declared.Refusal.TheVariants.{NotOpen}
use Rattle.instants.specs.declared.Instant.{Instant}
use Rattle.time.specs.declared.KeepAlive.{KeepAlive}
use Rattle.time.specs.declared.KeepAlive.TheVariants.{Icd}
use Rattle.instants.specs.Instants.{last_instant, never_reported}
use Rattle.changes.specs.Logs as logs
use Rattle.changes.specs.Logs.{changed_since}
use Rattle.subscription.specs.declared.Subscription as one
use Rattle.subscription.specs.When.{due_of, next_of}
use Rattle.subscription.proofs.Laws.{next_most}
use Rattle.subscription.proofs.Cases.{is_due_is}
use Rattle.rules.specs.States.{State, counted, has_id}
use Rattle.rules.specs.Calls as call
use Rattle.rules.specs.Histories.{late_retry}
use Rattle.rules.specs.Machine.{not_open, open_with, keep_alive_in, first_of, objections, act}
use Rattle.rules.proofs.Acts.{act_attribute, act_send, act_any, act_next, act_alive, alive_none, alive_some, act_statistics, act_has}
use Rattle.rules.proofs.Clauses.{attribute_objects, send_objects}
use Rattle.rules.proofs.Lives.{lives}
use Rattle.rules.proofs.Objections.{unobjected}
use Rattle.original.specs.Std.{unwrap_or, map_some, instant_max, iter_min}
use Rattle.original.specs.Subscription.{report_due_at, next_report_at}
use Rattle.original.specs.Contexts.{should_send_if_empty, should_report_attr}
use Rattle.original.specs.Table.{next_report_of, next_keep_alive_at, count_for, total_established, has_subscription_for}
use Rattle.original.specs.Calls.{reply, instant_at, call_on}
use Rattle.original.specs.Likeness.{subscription_of, context_of, log_of, original_of}
use Rattle.original.proofs.Alike.{reply_of}
use Rattle.original.proofs.Opens.{context_found}
use Rattle.original.proofs.SameNotes.{contains_since_is}
use Rattle.original.proofs.SameReports.{any_same}
use Rattle.original.proofs.SameSubscription.{due_same, next_same}
use Rattle.original.proofs.Vectors.{least_is}

module _ (s : State) where
  -- ---- of an open one

  module _ (id : ℕ) where
    -- the objection that nobody has the id
    found_open : first_of ((not_open id s, NotOpen) ∷ []) ≡ None → some (has_id id) s.opens ≡ true
    found_open e = not-false _ (unobjected _ _ _ e).0

    pub attribute_same : (e c a : ℕ) → first_of (objections (call.attribute id e c a) s) ≡ None
        → call_on (call.attribute id e c a) (original_of s) ≡ reply_of (act (call.attribute id e c a) s)
    unfolding call_on original_of should_report_attr context_of subscription_of
    attribute_same e c a unobjected-to =
        rw (
          act_attribute s id e c a,
          context_found id s.opens (found_open (ap first_of (sym (attribute_objects s id e c a)) ∙ unobjected-to)),
          contains_since_is s.log e c a (open_with id s).seen,
        )
        (ap (λ b. reply (call.yes_no b) (original_of s)) (go (never_reported (open_with id s).reported)))
      where
        go : (b : Bool)
            → cond b true (changed_since s.log e c a (open_with id s).seen) ≡ (b || changed_since s.log e c a (open_with id s).seen)
        go true = refl
        go false = refl

    pub send_same : (kind : KeepAlive) → first_of (objections (call.send_if_empty id kind) s) ≡ None
        → call_on (call.send_if_empty id kind) (original_of s) ≡ reply_of (act (call.send_if_empty id kind) s)
    unfolding call_on original_of should_send_if_empty context_of
    send_same kind unobjected-to =
        rw (
          act_send s id kind,
          context_found id s.opens (found_open (ap first_of (sym (send_objects s id kind)) ∙ unobjected-to)),
          due_same (open_with id s) kind,
          is_due_is (open_with id s) (open_with id s).opened kind,
        )

  -- ---- of the stored ones

  pub any_reportable_same : (now : Instant) (events : ℕ) (kind : KeepAlive)
      → call_on (call.any_reportable now events kind) (original_of s) ≡ reply_of (act (call.any_reportable now events kind) s)
  unfolding call_on
  any_reportable_same now events kind =
      rw (act_any s now events kind, any_same (record { now = now; events = events; kind = kind; all = false }) s)

  pub alive_same : call_on call.next_keep_alive (original_of s) ≡ reply_of (act call.next_keep_alive s)
  unfolding call_on next_keep_alive_at original_of
  alive_same = rw (act_alive s) (ap (λ o. reply (call.keep_alive o) (original_of s)) (go s.stored))
    where
      due : ◌≡◌ {A = one.Subscription → ℕ} (λ x. report_due_at (subscription_of x) Icd) (λ x. (due_of x Icd).ms)
      due = fun_ext (λ x. due_same x Icd)

      go : (l : List one.Subscription) → map_some instant_at (iter_min (map (λ x. report_due_at x Icd) (map subscription_of l))) ≡ keep_alive_in l
      go [] = sym alive_none
      go (x ∷ xs) =
          ap (λ n. Some (instant_at n))
          (least_is subscription_of (λ y. report_due_at y Icd) (report_due_at (subscription_of x) Icd) xs ∙ ap (λ f. least_by f (f x) xs) due)
          ∙ sym (alive_some x xs)

  pub statistics_same : (fabric : ℕ) → call_on (call.statistics fabric) (original_of s) ≡ reply_of (act (call.statistics fabric) s)
  unfolding call_on count_for total_established original_of subscription_of
  statistics_same fabric =
      rw (act_statistics s fabric)
      (ap (λ n. reply (call.stats (counted s) n (s.next - 1)) (original_of s))
      (split (eqb fabric 0)
      (λ t. rw t)
      (λ t. rw t (count_map subscription_of (λ x. eqb x.fab_idx fabric) s.stored))))

  pub has_same : (fabric peer : ℕ)
      → call_on (call.has_subscription fabric peer) (original_of s) ≡ reply_of (act (call.has_subscription fabric peer) s)
  unfolding call_on has_subscription_for original_of subscription_of
  has_same fabric peer =
      rw (act_has s fabric peer)
      (ap (λ b. reply (call.yes_no b) (original_of s))
      (some_map subscription_of (λ x. eqb x.fab_idx fabric && eqb x.peer_node_id peer && eqb x.fail_count 0) s.stored
      ∙ ap (λ p. some p s.stored) (fun_ext (λ x. and_assoc (eqb x.fabric fabric) (eqb x.peer peer) (eqb x.fails 0)))))

-- Next instants are instants: no retry is later.
pub next_instant_same : (s : State) → lives late_retry s ≡ 0 → (events : ℕ) (kind : KeepAlive)
    → call_on (call.next_instant events kind) (original_of s) ≡ reply_of (act (call.next_instant events kind) s)
unfolding call_on next_report_of original_of least_by
next_instant_same s early events kind =
    rw (act_next s events kind) (ap (λ n. reply (call.instant (instant_at n)) (original_of s)) (go s.stored (omega arith)))
  where
    next : ◌≡◌ {A = one.Subscription → ℕ} (λ x. next_report_at (log_of s.log) events kind (subscription_of x))
        (λ x. (next_of x (logs.any_since s.log x.seen) events kind).ms)
    next = fun_ext (λ x. next_same x s.log events kind)

    go : (l : List one.Subscription) → count late_retry l ≡ 0
        → unwrap_or (iter_min (map (next_report_at (log_of s.log) events kind) (map subscription_of l))) instant_max
        ≡ least_by (λ x. (next_of x (logs.any_since s.log x.seen) events kind).ms) last_instant.ms l
    go [] h = refl
    go (x ∷ xs) h =
        let instant = ltb-false last_instant.ms x.retry.ms (none_one (late_retry x) (omega (arith, count_cons late_retry x xs))) in
        least_is subscription_of (next_report_at (log_of s.log) events kind)
        (next_report_at (log_of s.log) events kind (subscription_of x)) xs
        ∙ ap (λ f. least_by f (f x) xs) next
        ∙ sym
        (least_lower (λ x. (next_of x (logs.any_since s.log x.seen) events kind).ms) last_instant.ms x xs
        (next_most x (logs.any_since s.log x.seen) events kind instant))
