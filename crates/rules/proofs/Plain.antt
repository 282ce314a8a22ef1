-- A history goes as its plain calls do, with each round told as the reports and completions that it stands for.
-- Assumes nothing.
use Rattle.std.specs.Prelude.{Option, Some, None}
use mathlib.Core.Path.{◌≡◌, refl, sym, ap, ◌∙◌}
use mathlib.Core.Logic.{◌⊎◌, inl, inr}
use mathlib.Core.Bool.{Bool, false}
use mathlib.Core.List.{List, [], ◌∷◌, ◌++◌}
use Prim.Native.Nat.{ℕ}
use native.Mathlib.Omega.{arith}
use native.Mathlib.Nat.{add-zero}
use Rattle.refusal.specs.declared.Refusal.{Refusal}
use Rattle.lists.specs.Search.{one, some, count}
use Rattle.lists.proofs.Bools.{split}
use Rattle.lists.proofs.Searches.{some_append}
use Rattle.lists.proofs.Counts.{count_append, count_none, one_no}
use Rattle.rules.specs.States.{State}
use Rattle.rules.specs.Calls as call
use Rattle.rules.specs.Calls.{Settings, Op}
use Rattle.rules.specs.Rounds.{calls_of, is_round, round_calls, calls_for, plainly}
use Rattle.rules.specs.Machine.{refusal, ready, next_up, step, run}
use Rattle.rules.proofs.Refusals.{refused_alters_nothing}
use Rattle.rules.proofs.Rounds.{round_is_its_calls}

-- one call after another
pub run_append : (ops others : List Op) (s : State) → run (ops ++ others) s ≡ run others (run ops s)
unfolding run
run_append [] others s = refl
run_append (op ∷ ops) others s = run_append ops others (step op s).state

-- a call is plain, or a round
pub plain_or_round : (op : Op) → (is_round op ≡ false) ⊎ ((at : Settings) × (outcomes : List ℕ) × (ids : List ℕ) × (op ≡ call.round at outcomes ids))
plain_or_round (call.new capacity) = inl refl
plain_or_round (call.add request events now) = inl refl
plain_or_round (call.resume id request events) = inl refl
plain_or_round (call.note endpoint cluster attr) = inl refl
plain_or_round (call.report at) = inl refl
plain_or_round (call.complete id o) = inl refl
plain_or_round (call.remove choice reason) = inl refl
plain_or_round call.clear = inl refl
plain_or_round call.purge = inl refl
plain_or_round (call.attribute id endpoint cluster attr) = inl refl
plain_or_round (call.send_if_empty id kind) = inl refl
plain_or_round (call.next_instant events kind) = inl refl
plain_or_round (call.any_reportable now events kind) = inl refl
plain_or_round call.next_keep_alive = inl refl
plain_or_round (call.statistics fabric) = inl refl
plain_or_round (call.has_subscription fabric peer) = inl refl
plain_or_round (call.round at outcomes ids) = inr (at, outcomes, ids, refl)

-- a plain call stands for itself
pub plain_alone : (op : Op) (s : State) → is_round op ≡ false → calls_for op s ≡ (op ∷ [])
unfolding calls_for
plain_alone (call.new capacity) s h = refl
plain_alone (call.add request events now) s h = refl
plain_alone (call.resume id request events) s h = refl
plain_alone (call.note endpoint cluster attr) s h = refl
plain_alone (call.report at) s h = refl
plain_alone (call.complete id o) s h = refl
plain_alone (call.remove choice reason) s h = refl
plain_alone call.clear s h = refl
plain_alone call.purge s h = refl
plain_alone (call.attribute id endpoint cluster attr) s h = refl
plain_alone (call.send_if_empty id kind) s h = refl
plain_alone (call.next_instant events kind) s h = refl
plain_alone (call.any_reportable now events kind) s h = refl
plain_alone call.next_keep_alive s h = refl
plain_alone (call.statistics fabric) s h = refl
plain_alone (call.has_subscription fabric peer) s h = refl
plain_alone (call.round at outcomes ids) s h = absurd (let z : ◌≡◌ {A = ℕ} 0 1 = cc in omega arith)

-- a round holds reports and completions alone
calls_only : (p : Op → Bool) → ((at : Settings) → p (call.report at) ≡ false) → ((id o : ℕ) → p (call.complete id o) ≡ false)
    → (at : Settings) (os : List ℕ) (s : State) → some p (calls_of at os s) ≡ false
unfolding calls_of some
calls_only p r c at [] s = refl
calls_only p r c at (o ∷ os) s =
    split (some (ready at s) s.stored) (λ e. rw (e, calls_of) (rw (r at, c (next_up at s).id o) (calls_only p r c at os _))) (λ e. rw (e, calls_of))

for_plain : (op : Op) (s : State) → some is_round (calls_for op s) ≡ false
unfolding calls_for some
for_plain op s = go op (plain_or_round op)
  where
    called : (r : Option Refusal) (at : Settings) (os : List ℕ) → some is_round (round_calls r at os s) ≡ false
    called None at os = calls_only is_round (λ _. refl) (λ _ _. refl) at os s
    called (Some why) at os = refl

    go : (op : Op) → (is_round op ≡ false) ⊎ ((at : Settings) × (outcomes : List ℕ) × (ids : List ℕ) × (op ≡ call.round at outcomes ids))
        → some is_round (calls_for op s) ≡ false
    go op (inl h) = rw (plain_alone op s h, h)
    go op (inr (at, os, ids, e)) = rw e (called (refusal (call.round at os ids) s) at os)

-- a history told plainly holds no round
pub plainly_plain : (ops : List Op) (s : State) → some is_round (plainly ops s) ≡ false
unfolding plainly some
plainly_plain [] s = refl
plainly_plain (op ∷ ops) s =
    some_append is_round (calls_for op s) (plainly ops (step op s).state) ∙ rw (for_plain op s, plainly_plain ops (step op s).state)

-- the calls that a call stands for leave what it leaves
for_run : (op : Op) (s : State) → run (calls_for op s) s ≡ (step op s).state
unfolding calls_for run
for_run op s = go op (plain_or_round op)
  where
    called : (at : Settings) (os ids : List ℕ) (r : Option Refusal) → refusal (call.round at os ids) s ≡ r
        → run (round_calls r at os s) s ≡ (step (call.round at os ids) s).state
    called at os ids None e = sym (ap (λ o. o.state) (round_is_its_calls at os ids s e))
    called at os ids (Some why) e = sym (ap (λ o. o.state) (refused_alters_nothing (call.round at os ids) s why e))

    go : (op : Op) → (is_round op ≡ false) ⊎ ((at : Settings) × (outcomes : List ℕ) × (ids : List ℕ) × (op ≡ call.round at outcomes ids))
        → run (calls_for op s) s ≡ (step op s).state
    go op (inl h) = rw (plain_alone op s h)
    go op (inr (at, os, ids, e)) = rw e (called at os ids (refusal (call.round at os ids) s) refl)

-- and so does a history told plainly
pub run_plainly : (ops : List Op) (s : State) → run (plainly ops s) s ≡ run ops s
unfolding plainly run
run_plainly [] s = refl
run_plainly (op ∷ ops) s =
    run_append (calls_for op s) (plainly ops (step op s).state) s
    ∙ ap (run (plainly ops (step op s).state)) (for_run op s)
    ∙ run_plainly ops (step op s).state

-- what is neither a report nor a completion nor a round is counted as often in a history that is told plainly
module _ (p : Op → Bool) (r : (at : Settings) → p (call.report at) ≡ false) (c : (id o : ℕ) → p (call.complete id o) ≡ false)
    (n : (at : Settings) (os ids : List ℕ) → p (call.round at os ids) ≡ false) where
  for_counts : (op : Op) (s : State) → count p (calls_for op s) ≡ one (p op)
  unfolding calls_for count
  for_counts op s = go op (plain_or_round op)
    where
      called : (x : Option Refusal) (at : Settings) (os : List ℕ) → count p (round_calls x at os s) ≡ 0
      called None at os = count_none p (calls_of at os s) (calls_only p r c at os s)
      called (Some why) at os = refl

      go : (op : Op) → (is_round op ≡ false) ⊎ ((at : Settings) × (outcomes : List ℕ) × (ids : List ℕ) × (op ≡ call.round at outcomes ids))
          → count p (calls_for op s) ≡ one (p op)
      go op (inl h) = rw (plain_alone op s h) (add-zero (one (p op)))
      go op (inr (at, os, ids, e)) = rw e (called (refusal (call.round at os ids) s) at os ∙ sym (one_no (n at os ids)))

  pub plainly_counts : (ops : List Op) (s : State) → count p (plainly ops s) ≡ count p ops
  unfolding plainly count
  plainly_counts [] s = refl
  plainly_counts (op ∷ ops) s =
      count_append p (calls_for op s) (plainly ops (step op s).state) ∙ rw (for_counts op s, plainly_counts ops (step op s).state)
