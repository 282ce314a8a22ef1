-- The invariant of live subscriptions, over every call: a test that nobody meets before a call nobody meets after it, if whoever the call brings
-- in, hands out or stores again does not. What holds of one subscription through its life is told by this and by nothing else.
-- Assumes nothing.
use Rattle.std.specs.Prelude.{None}
use mathlib.Core.Path.{◌≡◌, refl, sym, ap, ◌∙◌}
use mathlib.Core.Bool.{Bool, true, false, not, cond}
use mathlib.Core.List.{List, [], ◌∷◌}
use Prim.Native.Nat.{ℕ}
use native.Mathlib.Omega.{arith}
use borrow.Author.Tests.{not-false}
use Rattle.lists.specs.Search.{one, some}
use Rattle.lists.proofs.Bools.{split, and_right, or_neither}
use Rattle.lists.proofs.Counts.{count_nil, none_count, one_no, none_one, some_cons, count_taken, count_taken_newest, first_meets}
use Rattle.lists.proofs.Numbers.{none_counted}
use Rattle.changes.specs.Logs.{watermark_of}
use Rattle.subscription.specs.declared.Subscription.{Subscription}
use Rattle.subscription.specs.Life.{blank, priming, resumed, closed, keeps}
use Rattle.rules.specs.States.{State, has_id, id_live}
use Rattle.rules.specs.Calls as call
use Rattle.rules.specs.Calls.{Settings, Op}
use Rattle.rules.specs.Rounds.{is_round, plainly}
use Rattle.rules.specs.Machine.{opened_in, next_up, first_of, objections, noted_in, ready, reported, open_with, cancelled, stays, completed_in, purged_in, refusal, act, step, run}
use Rattle.rules.proofs.Refusals.{step_either}
use Rattle.rules.proofs.Objections.{unobjected, no_objection}
use Rattle.rules.proofs.Plain.{plainly_plain, run_plainly}
use Rattle.rules.proofs.Lives.{lives, handed_state, added_lives, resumed_lives, reported_lives, completed_lives, removed_lives, cleared_lives}

-- nobody whom a plain call brings in, hands out or stores again meets q, where nobody met p before
abbrev pub Spares : (Subscription → Bool) → (Subscription → Bool) → Op → State → Type 0
Spares p q (call.new capacity) s = Unit {0}
Spares p q (call.add request events now) s = id_live s.next s ≡ false → q (priming request s.next (watermark_of s.log) events now) ≡ false
Spares p q (call.resume id request events) s = id_live id s ≡ false → q (resumed request id (watermark_of s.log) events) ≡ false
Spares p q (call.note endpoint cluster attr) s = Unit {0}
Spares p q (call.report at) s = some (ready at s) s.stored ≡ true → p (next_up at s) ≡ false → q (opened_in at s (next_up at s)) ≡ false
Spares p q (call.complete id o) s = has_id id (open_with id s) ≡ true → p (open_with id s) ≡ false → keeps (open_with id s) o ≡ true → q (closed (open_with id s) o) ≡ false
Spares p q (call.remove choice reason) s = Unit {0}
Spares p q call.clear s = Unit {0}
Spares p q call.purge s = Unit {0}
Spares p q (call.attribute id endpoint cluster attr) s = Unit {0}
Spares p q (call.send_if_empty id kind) s = Unit {0}
Spares p q (call.next_instant events kind) s = Unit {0}
Spares p q (call.any_reportable now events kind) s = Unit {0}
Spares p q call.next_keep_alive s = Unit {0}
Spares p q (call.statistics fabric) s = Unit {0}
Spares p q (call.has_subscription fabric peer) s = Unit {0}
Spares p q (call.round at outcomes ids) s = Unit {0}

-- whom a weaker test takes, a stronger one took
pub fewer_live : (p q : Subscription → Bool) → ((x : Subscription) → q x ≡ true → p x ≡ true) → (s : State) → lives p s ≡ 0 → lives q s ≡ 0
fewer_live p q weaker s h =
    omega (
      arith,
      none_counted p q s.stored weaker (none_count p s.stored (omega arith)),
      none_counted p q s.opens weaker (none_count p s.opens (omega arith)),
    )

module _ (p q : Subscription → Bool) (weaker : (x : Subscription) → q x ≡ true → p x ≡ true) where
  spared_report : (at : Settings) (s : State) → Spares p q (call.report at) s → lives p s ≡ 0 → lives q (reported at s).state ≡ 0
  unfolding reported
  spared_report at s spares h =
      split (some (ready at s) s.stored)
      (λ t. let x = next_up at s in
      let taken = count_taken p (ready at s) blank s.stored t in
      let stored = none_one (p x) (omega arith) in
      rw (handed_state at s t) (omega (arith, fewer_live p q weaker s h, reported_lives q s at t, one_no (spares t stored))))
      (λ t. rw (t, reported) (fewer_live p q weaker s h))

  spared_end : (id o : ℕ) (s : State) → Spares p q (call.complete id o) s → some (has_id id) s.opens ≡ true → lives p s ≡ 0
      → lives q (completed_in id o s).state ≡ 0
  spared_end id o s spares found h =
      let x = open_with id s in
      let met = first_meets (has_id id) blank s.opens found in
      let free = none_one (p x) (omega (arith, count_taken_newest p (has_id id) blank s.opens found)) in
      omega (arith, fewer_live p q weaker s h, completed_lives q s id o found, put (stays x o s) refl met free)
    where
      put : (b : Bool) → stays (open_with id s) o s ≡ b → has_id id (open_with id s) ≡ true → p (open_with id s) ≡ false
          → cond b (one (q (closed (open_with id s) o))) 0 ≡ 0
      put true e met free = one_no (spares met free (and_right (not (cancelled (open_with id s) s)) (keeps (open_with id s) o) e))
      put false e met free = refl

  spared_act : (op : Op) (s : State) → is_round op ≡ false → Spares p q op s → first_of (objections op s) ≡ None → lives p s ≡ 0
      → lives q (act op s).state ≡ 0
  unfolding act objections noted_in purged_in
  spared_act (call.new capacity) s plain spares e h = omega (arith, count_nil q)
  spared_act (call.add request events now) s plain spares e h =
      let clear = (unobjected _ _ _ (unobjected _ _ _ (unobjected _ _ _ e).1).1).0 in
      omega (arith, added_lives q s request events now, fewer_live p q weaker s h, one_no (spares clear))
  spared_act (call.resume id request events) s plain spares e h =
      let clear = (unobjected _ _ _ (unobjected _ _ _ (unobjected _ _ _ e).1).1).0 in
      omega (arith, resumed_lives q s id request events, fewer_live p q weaker s h, one_no (spares clear))
  spared_act (call.note endpoint cluster attr) s plain spares e h = fewer_live p q weaker s h
  spared_act (call.report at) s plain spares e h = spared_report at s spares h
  spared_act (call.complete id o) s plain spares e h = spared_end id o s spares (not-false _ (unobjected _ _ _ (unobjected _ _ _ e).1).0) h
  spared_act (call.remove choice reason) s plain spares e h = omega (arith, removed_lives q s choice reason, fewer_live p q weaker s h)
  spared_act call.clear s plain spares e h = omega (arith, cleared_lives q s, fewer_live p q weaker s h)
  spared_act call.purge s plain spares e h = fewer_live p q weaker s h
  spared_act (call.attribute id endpoint cluster attr) s plain spares e h = fewer_live p q weaker s h
  spared_act (call.send_if_empty id kind) s plain spares e h = fewer_live p q weaker s h
  spared_act (call.next_instant events kind) s plain spares e h = fewer_live p q weaker s h
  spared_act (call.any_reportable now events kind) s plain spares e h = fewer_live p q weaker s h
  spared_act call.next_keep_alive s plain spares e h = fewer_live p q weaker s h
  spared_act (call.statistics fabric) s plain spares e h = fewer_live p q weaker s h
  spared_act (call.has_subscription fabric peer) s plain spares e h = fewer_live p q weaker s h
  spared_act (call.round at outcomes ids) s plain spares e h = absurd (let z : ◌≡◌ {A = ℕ} 0 1 = cc in omega arith)

  -- one call, refused or not
  pub spared : (op : Op) (s : State) → is_round op ≡ false → (refusal op s ≡ None → Spares p q op s) → lives p s ≡ 0
      → lives q (step op s).state ≡ 0
  spared op s plain spares h =
      step_either (λ r. lives q r.state ≡ 0) op s (λ e. spared_act op s plain (spares e) (no_objection op s e) h) (λ why e. fewer_live p q weaker s h)

-- over every history, where no plain call brings it about
module _ (p : Subscription → Bool) (spares : (op : Op) (s : State) → Spares p p op s) where
  plain_ever : (ops : List Op) (s : State) → some is_round ops ≡ false → lives p s ≡ 0 → lives p (run ops s) ≡ 0
  unfolding run
  plain_ever [] s plain h = h
  plain_ever (op ∷ ops) s plain h =
      let w = or_neither (is_round op) (some is_round ops) (sym (some_cons is_round op ops) ∙ plain) in
      plain_ever ops (step op s).state w.1 (spared p p (λ x e. e) op s w.0 (λ _. spares op s) h)

  pub nobody_ever : (ops : List Op) (s : State) → lives p s ≡ 0 → lives p (run ops s) ≡ 0
  nobody_ever ops s h = ap (lives p) (sym (run_plainly ops s)) ∙ plain_ever (plainly ops s) s (plainly_plain ops s) h
