-- One subscription: when the Rust lets it speak, what a removal takes, and what becomes of it when its context is dropped.
-- Assumes nothing.
use mathlib.Core.Path.{◌≡◌, refl, sym, ap, ◌∙◌}
use mathlib.Core.Bool.{Bool, true, false, cond, not, ◌&&◌, ◌||◌}
use Prim.Native.Nat.{ℕ, zero, suc, ◌≤◌, max}
use native.Mathlib.Omega.{arith}
use lib.Dec.{eqb, leb, ltb}
use Rattle.lists.proofs.Bools.{split, clash}
use Rattle.instants.specs.declared.Instant.{Instant}
use Rattle.time.specs.declared.KeepAlive.{KeepAlive}
use Rattle.instants.specs.Instants.{never_reported}
use Rattle.time.specs.Intervals as time
use Rattle.changes.specs.declared.ChangedAttrs as changes
use Rattle.changes.specs.Logs as logs
use Rattle.subscription.specs.declared.Subscription as one
use Rattle.choices.specs.declared.Choice.{Choice}
use Rattle.choices.specs.declared.Choice.TheVariants.{All, Fabric, Peer, Id, ExpiredAt}
use Rattle.subscription.specs.When.{allowed_of, due_of, reportable, next_of}
use Rattle.subscription.specs.Life.{opened, next_fails, closed, keeps, failed}
use Rattle.choices.specs.Choices.{chosen}
use Rattle.subscription.proofs.Cases.{allowed_is, due_is, reportable_is, next_is, keeps_is, failed_is, closed_is, opened_is, stored_with_is, over_is}
use Rattle.choices.proofs.Cases.{chosen_all, chosen_fabric, chosen_peer, chosen_id, chosen_expired}
use Rattle.original.specs.Std.{unwrap_or, instant_max, checked_add}
use Rattle.original.specs.Subscription.{is_expired, report_allowed_at, report_due_at, is_reportable, next_report_at}
use Rattle.original.specs.Contexts.{context, set_keep, set_unsent, set_keep_retry, set_drop_failed, returned}
use Rattle.original.specs.Calls.{said, takes}
use Rattle.original.specs.Likeness.{subscription_of, context_of, log_of}
use Rattle.original.proofs.SameTime.{due_after_same, since_same, expired_same, retry_same}
use Rattle.original.proofs.SameNotes.{any_since_is}

-- ---- when it may speak and when it must

module _ (x : one.Subscription) where
  pub allowed_same : report_allowed_at (subscription_of x) ≡ (allowed_of x).ms
  unfolding report_allowed_at subscription_of
  allowed_same = rw (since_same x.reported x.shortest, allowed_is x)

  pub due_same : (kind : KeepAlive) → report_due_at (subscription_of x) kind ≡ (due_of x kind).ms
  unfolding report_due_at subscription_of
  due_same kind =
      ap (λ secs. cond (eqb x.reported.ms instant_max) 0 (unwrap_or (checked_add x.reported.ms secs) 0))
      (due_after_same kind x.longest)
      ∙ since_same x.reported (time.due_after_secs kind x.longest)
      ∙ ap (λ i. i.ms) (sym (due_is x kind))

  module _ (g : changes.ChangedAttrs) (events : ℕ) (kind : KeepAlive) where
    pub reportable_same : (now : Instant) (all : Bool)
        → is_reportable now.ms (log_of g) events kind all (subscription_of x) ≡ reportable x now (logs.any_since g x.seen) events kind all
    unfolding is_reportable subscription_of
    reportable_same now all =
        rw (allowed_same, due_same kind, any_since_is g x.seen, reportable_is x now (logs.any_since g x.seen) events kind all)
        (go (leb (allowed_of x).ms now.ms) (all && ltb x.reported.ms now.ms) (leb (due_of x kind).ms now.ms)
        (logs.any_since g x.seen))
      where
        go : (a b c d : Bool)
            → cond (not a) false (b || c || d || ltb x.heard events) ≡ (a && (b || (c || (d || ltb x.heard events))))
        go false b c d = refl
        go true true c d = refl
        go true false true d = refl
        go true false false true = refl
        go true false false false = refl

    pub next_same : next_report_at (log_of g) events kind (subscription_of x) ≡ (next_of x (logs.any_since g x.seen) events kind).ms
    unfolding next_report_at subscription_of
    next_same =
        rw (allowed_same, due_same kind, any_since_is g x.seen, next_is x (logs.any_since g x.seen) events kind)
        (go (logs.any_since g x.seen || ltb x.heard events))
      where
        go : (b : Bool)
            → cond b (allowed_of x).ms (max (allowed_of x).ms (due_of x kind).ms)
            ≡ (cond b (allowed_of x) (record { ms = max (allowed_of x).ms (due_of x kind).ms })).ms
        go true = refl
        go false = refl

  -- ---- what a removal takes

  pub takes_same : (choice : Choice) → takes choice (subscription_of x) ≡ chosen choice x
  unfolding takes subscription_of is_expired
  takes_same All = sym (chosen_all x)
  takes_same (Fabric fabric) = sym (chosen_fabric x fabric)
  takes_same (Peer fabric peer) = sym (chosen_peer x fabric peer)
  takes_same (Id id) = sym (chosen_id x id)
  takes_same (ExpiredAt now) = expired_same x.reported x.longest now ∙ sym (chosen_expired x now ∙ over_is x now)

  -- ---- handed out

  pub opened_same : (mark events : ℕ) (now : Instant)
      → context_of (opened x mark events now) ≡ context (subscription_of x) mark events now.ms
  unfolding context_of subscription_of
  opened_same mark events now = rw (opened_is x mark events now)

  -- ---- dropped

  -- by the five outcomes
  outcome_by : (P : ℕ → Type 0) → P 0 → P 1 → P 2 → P 3 → P 4 → (o : ℕ) → o ≤ 4 → P o
  outcome_by P a b c d e zero h = a
  outcome_by P a b c d e (suc zero) h = b
  outcome_by P a b c d e (suc (suc zero)) h = c
  outcome_by P a b c d e (suc (suc (suc zero))) h = d
  outcome_by P a b c d e (suc (suc (suc (suc zero)))) h = e
  outcome_by P a b c d e (suc (suc (suc (suc (suc n))))) h = absurd (omega arith)

  -- whether it is kept
  pub keep_same : (o : ℕ) → o ≤ 4 → (said o (context_of x)).keep ≡ keeps x o
  unfolding set_keep set_unsent set_keep_retry set_drop_failed context_of subscription_of
  keep_same =
      outcome_by (λ o. (said o (context_of x)).keep ≡ keeps x o)
      (sym (keeps_is x 0))
      (sym (keeps_is x 1))
      (split (never_reported x.reported) (λ t. rw (keeps_is x 2, t)) (λ t. rw (keeps_is x 2, t)))
      (sym (keeps_is x 3))
      (sym (keeps_is x 4))

  -- whether it failed
  pub failed_same : (o : ℕ) → o ≤ 4 → (said o (context_of x)).report_failed ≡ failed x o
  unfolding set_keep set_unsent set_keep_retry set_drop_failed context_of subscription_of
  failed_same =
      outcome_by (λ o. (said o (context_of x)).report_failed ≡ failed x o)
      (sym (failed_is x 0))
      (sym (failed_is x 1))
      (split (never_reported x.reported) (λ t. rw (failed_is x 2, t)) (λ t. rw (failed_is x 2, t)))
      (sym (failed_is x 3))
      (sym (failed_is x 4))

  -- who it is
  pub said_id : (o : ℕ) → o ≤ 4 → (said o (context_of x)).subscription.id ≡ x.id
  unfolding set_keep set_unsent set_keep_retry set_drop_failed context_of subscription_of
  said_id =
      outcome_by (λ o. (said o (context_of x)).subscription.id ≡ x.id)
      refl
      refl
      (split (never_reported x.reported) (λ t. rw t) (λ t. rw t))
      refl
      refl

  -- and what is stored of it
  pub returned_same : (o : ℕ) → o ≤ 4 → keeps x o ≡ true → returned (said o (context_of x)) ≡ subscription_of (closed x o)
  unfolding returned set_keep set_unsent set_keep_retry set_drop_failed context_of subscription_of
  returned_same =
      outcome_by (λ o. keeps x o ≡ true → returned (said o (context_of x)) ≡ subscription_of (closed x o))
      (λ k. rw (closed_is x 0, stored_with_is))
      (λ k. rw (closed_is x 1, stored_with_is))
      (λ k. split (never_reported x.reported)
      (λ t. absurd (clash k (keeps_is x 2 ∙ rw t)))
      (λ t. rw (closed_is x 2, stored_with_is, t, retry_same x.opened (next_fails x) x.longest)))
      (λ k. absurd (clash k (keeps_is x 3)))
      (λ k. absurd (clash k (keeps_is x 4)))
