-- Well kept, clause by clause: the test of `States` as facts about numbers, and back. Distinct ids and live fabrics are told by counts, which
-- `Lives` follows through every call.
-- Assumes nothing.
use mathlib.Core.Path.{◌≡◌, ap, ◌∙◌}
use mathlib.Core.Bool.{true, not, ◌||◌}
use Prim.Native.Nat.{ℕ, ◌≤◌}
use native.Mathlib.Omega.{arith}
use borrow.Author.Tests.{leb-true, le-leb, not-true}
use lib.Dec.{eqb, leb}
use Rattle.lists.specs.Search.{some, count, distinct}
use Rattle.lists.proofs.Bools.{and_both, and_true}
use Rattle.lists.proofs.Counts.{count_append, count_none, none_count}
use Rattle.lists.proofs.Numbers.{distinct_counts, counts_distinct}
use Rattle.changes.specs.Logs.{kept}
use Rattle.rules.specs.States.{State, counted, live_ones, is_report, report_open, has_id, capacity_fits, fabric_zero, well_kept}
use Rattle.rules.proofs.Lives.{lives, every, lives_counted}

pub record Sound (s : State) : Type 0 where
  pub capacity : capacity_fits s.capacity ≡ true
  pub room : lives every s ≤ s.capacity
  pub log : kept s.log ≡ true
  pub ids : (j : ℕ) → lives (has_id j) s ≤ 1
  pub fabrics : lives fabric_zero s ≡ 0
  pub single : count is_report s.opens ≤ 1
  pub reason : (eqb s.cancel 0 || report_open s) ≡ true

pub kept_sound : (s : State) → well_kept s ≡ true → Sound s
unfolding well_kept has_id
kept_sound s h =
    let a = and_both (capacity_fits s.capacity) _ h in
    let b = and_both (leb (counted s) s.capacity) _ a.1 in
    let c = and_both (kept s.log) _ b.1 in
    let d = and_both (distinct (λ x. x.id) (live_ones s)) _ c.1 in
    let e = and_both (not (some fabric_zero (live_ones s))) _ d.1 in
    let f = and_both (leb (count is_report s.opens) 1) _ e.1 in
    record {
      capacity = a.0;
      room = omega (arith, lives_counted s, leb-true (counted s) s.capacity b.0);
      log = c.0;
      ids = λ j. omega (arith, distinct_counts (λ x. x.id) (live_ones s) d.0 j, count_append (has_id j) s.stored s.opens);
      fabrics =
          omega (arith, count_none fabric_zero (live_ones s) (not-true _ e.0), count_append fabric_zero s.stored s.opens);
      single = leb-true (count is_report s.opens) 1 f.0;
      reason = f.1;
    }

pub sound_kept : (s : State) → Sound s → well_kept s ≡ true
unfolding well_kept has_id
sound_kept s h =
    and_true h.capacity
    (and_true (le-leb (counted s) s.capacity (omega (arith, lives_counted s, h.room)))
    (and_true h.log
    (and_true
    (counts_distinct (λ x. x.id) (live_ones s) (λ j. omega (arith, h.ids j, count_append (has_id j) s.stored s.opens)))
    (and_true
    (ap not (none_count fabric_zero (live_ones s) (count_append fabric_zero s.stored s.opens ∙ h.fabrics)))
    (and_true (le-leb (count is_report s.opens) 1 h.single) h.reason)))))
