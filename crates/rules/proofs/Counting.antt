-- What one call does to the number of counted places, and a history: `Lives` with the test that always holds, call by call. A hand-out and a
-- completion that keeps move a subscription from one list to the other, and only what is dropped, removed or cleared goes.
-- Assumes nothing.
use Rattle.std.specs.Prelude.{Option, Some, None}
use mathlib.Core.Path.{◌≡◌, refl, sym, ◌∙◌}
use mathlib.Core.Bool.{Bool, true, false, cond, not, ◌&&◌, ◌||◌}
use mathlib.Core.List.{List, [], ◌∷◌}
use Prim.Native.Nat.{ℕ, ◌+◌}
use native.Mathlib.Omega.{arith}
use borrow.Author.Tests.{not-false}
use Rattle.refusal.specs.declared.Refusal.{Refusal}
use Rattle.lists.specs.Search.{one, some}
use Rattle.lists.proofs.Bools.{split, or_neither}
use Rattle.lists.proofs.Counts.{some_cons, count_every}
use Rattle.subscription.specs.Life.{keeps}
use Rattle.rules.specs.States.{State, has_id}
use Rattle.rules.specs.Calls as call
use Rattle.rules.specs.Calls.{Settings, Op}
use Rattle.rules.specs.Histories.{is_new}
use Rattle.rules.specs.Machine.{next_up, first_of, objections, takes_state, refusal, noted_in, ready, reported, open_with, cancelled, completed_in, purged_in, Turn, turned, round_from, round_in, act, step_by, step, run}
use Rattle.rules.specs.Counts.{admits, resumes, drops, round_ends, ends, unless, total, admissions, resumptions, endings}
use Rattle.rules.proofs.Objections.{unobjected, no_objection}
use Rattle.rules.proofs.Lives.{lives, every, handed_state, added_lives, resumed_lives, reported_lives, completed_lives, removed_lives, cleared_lives, turn_found}

-- what is handed out is still counted
report_counts : (at : Settings) (s : State) → lives every (reported at s).state ≡ lives every s
unfolding reported
report_counts at s =
    split (some (ready at s) s.stored)
    (λ t. rw (handed_state at s t) (omega (arith, reported_lives every s at t)))
    (λ t. rw (t, reported))

-- what is completed is stored or dropped
complete_counts : (id o : ℕ) (s : State) → some (has_id id) s.opens ≡ true
    → lives every (completed_in id o s).state + one (drops id o s) ≡ lives every s
complete_counts id o s found =
    let either = stored_or_dropped (cancelled (open_with id s) s) (keeps (open_with id s) o) in
    omega (arith, completed_lives every s id o found)
  where
    stored_or_dropped : (c k : Bool) → cond (not c && k) 1 0 + one (c || not k) ≡ 1
    stored_or_dropped true k = refl
    stored_or_dropped false true = refl
    stored_or_dropped false false = refl

round_counts : (at : Settings) (os : List ℕ) (t : Turn)
    → lives every (round_from at os t).state + round_ends at os t.state ≡ lives every t.state
unfolding round_from round_ends
round_counts at [] t = omega arith
round_counts at (o ∷ os) t =
    let s = t.state in
    split (some (ready at s) s.stored)
    (λ e. let rest = round_counts at os (turned at o t) in
    let here = complete_counts (next_up at s).id o (reported at s).state (turn_found at s e) in
    rw (e, round_from, round_ends) (omega (arith, report_counts at s)))
    (λ e. rw (e, round_from, round_ends) (omega arith))

act_counts : (op : Op) (s : State) → takes_state op ≡ true → first_of (objections op s) ≡ None
    → lives every (act op s).state + ends op s ≡ lives every s + (admits op s + resumes op s)
unfolding act objections round_in noted_in purged_in admits resumes ends
act_counts (call.new capacity) s t e = let z : ◌≡◌ {A = ℕ} 0 1 = cc in absurd (omega arith)
act_counts (call.add request events now) s t e = omega (arith, added_lives every s request events now)
act_counts (call.resume id request events) s t e = omega (arith, resumed_lives every s id request events)
act_counts (call.note endpoint cluster attr) s t e = refl
act_counts (call.report at) s t e = omega (arith, report_counts at s)
act_counts (call.complete id o) s t e =
    omega (arith, complete_counts id o s (not-false _ (unobjected _ _ _ (unobjected _ _ _ e).1).0))
act_counts (call.remove choice reason) s t e = omega (arith, removed_lives every s choice reason)
act_counts call.clear s t e = omega (arith, cleared_lives every s, count_every s.stored)
act_counts call.purge s t e = refl
act_counts (call.attribute id endpoint cluster attr) s t e = refl
act_counts (call.send_if_empty id kind) s t e = refl
act_counts (call.next_instant events kind) s t e = refl
act_counts (call.any_reportable now events kind) s t e = refl
act_counts call.next_keep_alive s t e = refl
act_counts (call.statistics fabric) s t e = refl
act_counts (call.has_subscription fabric peer) s t e = refl
act_counts (call.round at outcomes ids) s t e = omega (arith, round_counts at outcomes (record { hand_outs = 0; ids = ids; state = s }))

step_counts : (op : Op) (s : State) → takes_state op ≡ true
    → lives every (step op s).state + unless (refusal op s) (ends op s)
    ≡ lives every s + (unless (refusal op s) (admits op s) + unless (refusal op s) (resumes op s))
unfolding step
step_counts op s t = go (refusal op s) refl
  where
    go : (r : Option Refusal) → refusal op s ≡ r
        → lives every (step_by r op s).state + unless r (ends op s) ≡ lives every s + (unless r (admits op s) + unless r (resumes op s))
    go None e = act_counts op s t (no_objection op s e)
    go (Some why) e = refl

-- and a history adds up
pub run_counts : (ops : List Op) (s : State) → some is_new ops ≡ false
    → lives every (run ops s) + endings ops s ≡ lives every s + (admissions ops s + resumptions ops s)
unfolding run total
run_counts [] s h = refl
run_counts (op ∷ ops) s h =
    let w = or_neither (is_new op) (some is_new ops) (sym (some_cons is_new op ops) ∙ h) in
    let rest = run_counts ops (step op s).state w.1 in
    omega (arith, step_counts op s (not-false _ w.0))
