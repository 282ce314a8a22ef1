-- A history with few notes: every state of it is well kept, identities have not started again, and nobody has seen, or opened with, what is not
-- given yet.
-- Assumes nothing.
use mathlib.Core.Path.{◌≡◌, refl, ap}
use mathlib.Core.Logic.{◌⊎◌, inl, inr, ⊎_elim}
use mathlib.Core.Bool.{Bool, true, false, cond, ◌||◌}
use Prim.Native.Nat.{ℕ, ◌+◌, ◌≤◌, ◌<◌}
use native.Mathlib.Omega.{arith}
use borrow.Author.Tests.{leb-true, leb-false, le-leb, lt-leb}
use lib.Dec.{eqb, leb, ltb}
use lib.ListN.{length}
use Rattle.subscription.specs.declared.Subscription.{Subscription}
use Rattle.lists.specs.Search.{one}
use Rattle.changes.specs.Logs.{watermark_of, purged, cleared}
use Rattle.changes.specs.Reach.{fresh as new-log}
use Rattle.subscription.specs.Life.{priming, resumed, closed}
use Rattle.rules.specs.States.{State, fresh, capacity_fits, well_kept}
use Rattle.rules.specs.Calls.{Op}
use Rattle.rules.specs.Machine.{Outcome, least_seen, next_up, opened_in, open_with, step}
use Rattle.rules.specs.Rounds.{is_round}
use Rattle.heard.specs.Hearing.{is_note}
use Rattle.rules.specs.Calls as call
use Rattle.lists.proofs.Bools.{split, or_left, or_right, or_either, or_neither}
use Rattle.lists.proofs.Counts.{count_nil}
use Rattle.changes.proofs.Answering.{watermark_below}
use Rattle.changes.proofs.Promises.{note_grows, purge_next, clear_next, came_next}
use Rattle.subscription.proofs.Watermarks.{priming_seen, priming_mark, resumed_seen, resumed_mark, opened_seen, opened_mark, closed_seen, closed_mark}
use Rattle.rules.proofs.Acts.{act_note, act_purge, new_made, new_refused}
use Rattle.rules.proofs.Refusals.{step_either}
use Rattle.rules.proofs.LogKept.{log_kept_lem}
use Rattle.rules.proofs.Kept.{step_well_kept}
use Rattle.rules.proofs.Sound.{kept_sound}
use Rattle.rules.proofs.Lives.{lives}
use Rattle.rules.proofs.Nobody.{Spares, spared}

-- it has seen, or opened with, an identity from n on
abbrev pub late : ℕ → Subscription → Bool
late n x = leb n x.seen || leb n x.mark

-- with so many notes so far
pub record Sane (notes : ℕ) (s : State) : Type 0 where
  pub well : well_kept s ≡ true
  pub few : s.log.next ≤ notes + 1
  pub early : lives (late s.log.next) s ≡ 0

module _ (s : State) (well : well_kept s ≡ true) (m : ℕ) (up : s.log.next ≤ m) where
  abbrev n : ℕ
  n = s.log.next

  abbrev w : ℕ
  w = watermark_of s.log

  below : w < n
  below = watermark_below s.log (kept_sound s well).log

  same : {k : ℕ} → k ≡ w → k < m
  same e = omega (arith, below, e)

  early : (x : Subscription) → x.seen < m → x.mark < m → late m x ≡ false
  early x a b = rw (lt-leb m x.seen a, lt-leb m x.mark b)

  before : (x : Subscription) → late n x ≡ false → (x.seen < n) × (x.mark < n)
  before x h =
      let f = or_neither (leb n x.seen) (leb n x.mark) h in
      (leb-false n x.seen f.0, leb-false n x.mark f.1)

  either : (b : Bool) (j k : ℕ) → j < n → k < n → cond b j k < n
  either true j k a c = a
  either false j k a c = c

  -- whoever comes in, is handed out or is stored again has seen what is given
  none_late : (op : Op) → Spares (late n) (late m) op s
  none_late (call.new capacity) = tt
  none_late (call.add request events now) = λ _. early (priming request s.next w events now) (same (priming_seen request s.next w events now)) (same (priming_mark request s.next w events now))
  none_late (call.resume id request events) = λ _. early (resumed request id w events) (same (resumed_seen request id w events)) (omega (arith, below, resumed_mark request id w events))
  none_late (call.note endpoint cluster attr) = tt
  none_late (call.report at) =
      λ _ free. let b = before (next_up at s) free in
      early (opened_in at s (next_up at s)) (omega (arith, b.0, opened_seen (next_up at s) w at.events at.now)) (same (opened_mark (next_up at s) w at.events at.now))
  none_late (call.complete id o) =
      λ _ free _. let b = before (open_with id s) free in
      early (closed (open_with id s) o)
      (omega (arith, closed_seen (open_with id s) o, either (eqb o 2) (open_with id s).seen (open_with id s).mark b.0 b.1))
      (omega (arith, below, closed_mark (open_with id s) o))
  none_late (call.remove choice reason) = tt
  none_late call.clear = tt
  none_late call.purge = tt
  none_late (call.attribute id endpoint cluster attr) = tt
  none_late (call.send_if_empty id kind) = tt
  none_late (call.next_instant events kind) = tt
  none_late (call.any_reportable now events kind) = tt
  none_late call.next_keep_alive = tt
  none_late (call.statistics fabric) = tt
  none_late (call.has_subscription fabric peer) = tt
  none_late (call.round at outcomes ids) = tt

  later : (x : Subscription) → late m x ≡ true → late n x ≡ true
  later x h =
      ⊎_elim
      (λ e. or_left (leb n x.mark) (le-leb n x.seen (omega (arith, leb-true m x.seen e))))
      (λ e. or_right (leb n x.seen) (le-leb n x.mark (omega (arith, leb-true m x.mark e))))
      (or_either (leb m x.seen) (leb m x.mark) h)

  still_early : (op : Op) → is_round op ≡ false → lives (late n) s ≡ 0 → lives (late m) (step op s).state ≡ 0
  still_early op plain h = spared (late n) (late m) later op s plain (λ _. none_late op) h

-- the next identity grows with a note and stays else, unless the table is a new one
abbrev Follows : State → Op → Outcome → Type 0
Follows s op r =
    ((s.log.next ≤ r.state.log.next) × (r.state.log.next ≤ s.log.next + one (is_note op))) ⊎ ((capacity : ℕ) × (r.state ≡ fresh capacity))

module _ (s : State) (well : well_kept s ≡ true) where
  purged_next : (a b : Bool) →
      let g = cond a s.log (cond b (purged s.log (least_seen s.stored)).log (cleared s.log).log) in
      (s.log.next ≤ g.next) × (g.next ≤ s.log.next + 0)
  purged_next true b = (omega arith, omega arith)
  purged_next false true = let e = purge_next s.log (least_seen s.stored) in (omega arith, omega arith)
  purged_next false false = let e = clear_next s.log in (omega arith, omega arith)

  follows : (op : Op) → is_round op ≡ false → s.log.next + one (is_note op) ≤ 18446744073709551615 → Follows s op (step op s)
  follows (call.new capacity) plain low =
      split (capacity_fits capacity)
      (λ u. rw (new_made capacity s u) (inr (capacity, refl)))
      (λ u. rw (new_refused capacity s u) (inl (omega arith, omega arith)))
  follows (call.add request events now) plain low = inl (let e = log_kept_lem (call.add request events now) s refl in (omega (arith, ap (λ g. g.next) e), omega (arith, ap (λ g. g.next) e)))
  follows (call.resume id request events) plain low = inl (let e = log_kept_lem (call.resume id request events) s refl in (omega (arith, ap (λ g. g.next) e), omega (arith, ap (λ g. g.next) e)))
  follows (call.note endpoint cluster attr) plain low =
      step_either (Follows s (call.note endpoint cluster attr)) (call.note endpoint cluster attr) s
      (λ _. rw (act_note s endpoint cluster attr) (inl (let g = note_grows s.log (kept_sound s well).log endpoint cluster attr (omega arith) in (omega arith, omega arith))))
      (λ why _. inl (omega arith, omega arith))
  follows (call.report at) plain low = inl (let e = log_kept_lem (call.report at) s refl in (omega (arith, ap (λ g. g.next) e), omega (arith, ap (λ g. g.next) e)))
  follows (call.complete id o) plain low = inl (let e = log_kept_lem (call.complete id o) s refl in (omega (arith, ap (λ g. g.next) e), omega (arith, ap (λ g. g.next) e)))
  follows (call.remove choice reason) plain low = inl (let e = log_kept_lem (call.remove choice reason) s refl in (omega (arith, ap (λ g. g.next) e), omega (arith, ap (λ g. g.next) e)))
  follows call.clear plain low = inl (let e = log_kept_lem call.clear s refl in (omega (arith, ap (λ g. g.next) e), omega (arith, ap (λ g. g.next) e)))
  follows call.purge plain low = step_either (Follows s call.purge) call.purge s (λ _. rw (act_purge s) (inl (purged_next (ltb 0 (length s.opens)) (ltb 0 (length s.stored))))) (λ why _. inl (omega arith, omega arith))
  follows (call.attribute id endpoint cluster attr) plain low = inl (let e = log_kept_lem (call.attribute id endpoint cluster attr) s refl in (omega (arith, ap (λ g. g.next) e), omega (arith, ap (λ g. g.next) e)))
  follows (call.send_if_empty id kind) plain low = inl (let e = log_kept_lem (call.send_if_empty id kind) s refl in (omega (arith, ap (λ g. g.next) e), omega (arith, ap (λ g. g.next) e)))
  follows (call.next_instant events kind) plain low = inl (let e = log_kept_lem (call.next_instant events kind) s refl in (omega (arith, ap (λ g. g.next) e), omega (arith, ap (λ g. g.next) e)))
  follows (call.any_reportable now events kind) plain low = inl (let e = log_kept_lem (call.any_reportable now events kind) s refl in (omega (arith, ap (λ g. g.next) e), omega (arith, ap (λ g. g.next) e)))
  follows call.next_keep_alive plain low = inl (let e = log_kept_lem call.next_keep_alive s refl in (omega (arith, ap (λ g. g.next) e), omega (arith, ap (λ g. g.next) e)))
  follows (call.statistics fabric) plain low = inl (let e = log_kept_lem (call.statistics fabric) s refl in (omega (arith, ap (λ g. g.next) e), omega (arith, ap (λ g. g.next) e)))
  follows (call.has_subscription fabric peer) plain low = inl (let e = log_kept_lem (call.has_subscription fabric peer) s refl in (omega (arith, ap (λ g. g.next) e), omega (arith, ap (λ g. g.next) e)))
  follows (call.round at outcomes ids) plain low = absurd (let z : ◌≡◌ {A = ℕ} 0 1 = cc in omega arith)

-- one plain call
pub sane_step : (n : ℕ) (op : Op) (s : State) → is_round op ≡ false → n + one (is_note op) < 18446744073709551615 → Sane n s
    → Sane (n + one (is_note op)) (step op s).state
sane_step n op s plain low h =
    let few = h.few in
    ⊎_elim
    (λ f. record {
      well = step_well_kept op s h.well;
      few = omega (arith, f.1);
      early = still_early s h.well (step op s).state.log.next f.0 op plain h.early;
    })
    (λ f. record {
      well = step_well_kept op s h.well;
      few = rw f.1 (omega (arith, came_next new-log (omega arith)));
      early = rw f.1 (omega (arith, count_nil (late (fresh f.0).log.next)));
    })
    (follows s h.well op plain (omega arith))
