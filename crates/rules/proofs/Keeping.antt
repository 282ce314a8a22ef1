-- Each call that acts keeps the state sound: the counts of `Lives` show who is live after it, and its objections gave room, a free id and a
-- fabric.
-- Assumes nothing.
use mathlib.Core.Path.{◌≡◌, refl, sym, ap, ◌∙◌}
use mathlib.Core.Bool.{Bool, true, false, cond}
use mathlib.Core.Logic.{⊎_elim}
use Prim.Native.Nat.{ℕ, ◌+◌, ◌≤◌}
use native.Mathlib.Omega.{arith}
use borrow.Author.Tests.{leb-false, eqb-true}
use lib.Dec.{eqb}
use Rattle.lists.specs.Search.{one, some}
use Rattle.lists.specs.Removal.{take_out_newest}
use Rattle.lists.proofs.Bools.{split, or_either, or_left, or_right}
use Rattle.lists.proofs.Counts.{count_cons, some_cons, one_no, one_most, count_append, count_some, some_count, count_none, count_taken_newest}
use Rattle.instants.specs.declared.Instant.{Instant}
use Rattle.changes.specs.Logs.{watermark_of}
use Rattle.subscription.specs.declared.Subscription.{Subscription}
use Rattle.subscription.specs.declared.Request.{Request}
use Rattle.subscription.specs.Life.{blank, priming, resumed, closed}
use Rattle.subscription.proofs.Laws.{priming_id, priming_fabric, priming_reporting, resumed_id, resumed_fabric, opened_id, opened_fabric, opened_reporting, closed_id, closed_fabric}
use Rattle.rules.specs.States.{State, counted, live_ones, is_report, report_open, has_id, id_live, fabric_zero}
use Rattle.rules.specs.Calls.{Settings}
use Rattle.rules.specs.Machine.{stays, next_up, full, added, resumed_to, ready, opened_in, reported, open_with, completed_in}
use Rattle.rules.proofs.Lives.{lives, every, after_hand_out, handed_state, lives_counted, added_lives, resumed_lives, reported_lives, completed_lives}
use Rattle.rules.proofs.Sound.{Sound}

-- ---- admission

-- with a free id still nobody is live twice
newcomer : (s : State) (x : Subscription) (id : ℕ) → Sound s → x.id ≡ id → id_live id s ≡ false → (j : ℕ)
    → lives (has_id j) s + one (has_id j x) ≤ 1
unfolding has_id
newcomer s x id h e free j =
    split (eqb x.id j)
    (λ t. let i : id ≡ j = sym e ∙ eqb-true x.id j t in
    let none = count_none (has_id id) (live_ones s) free in
    rw (t, ← i) (omega (arith, count_append (has_id id) s.stored s.opens)))
    (λ t. rw t (omega (arith, h.ids j)))

module _ (s : State) (h : Sound s) (request : Request) (events : ℕ) (given : eqb request.fabric 0 ≡ false) (room : full s ≡ false) where
  pub add_sound : (now : Instant) → id_live s.next s ≡ false → Sound (added request events now s).state
  unfolding added report_open
  add_sound now free =
      let x = priming request s.next (watermark_of s.log) events now in
      let fabric = one_no (ap (λ f. eqb f 0) (priming_fabric request s.next (watermark_of s.log) events now) ∙ given) in
      let id = priming_id request s.next (watermark_of s.log) events now in
      let prime = priming_reporting request s.next (watermark_of s.log) events now in
      record {
        capacity = h.capacity;
        room =
            omega (arith, added_lives every s request events now, leb-false s.capacity (counted s) room, lives_counted s);
        log = h.log;
        ids = λ j. omega (arith, added_lives (has_id j) s request events now, newcomer s x s.next h id free j);
        fabrics = omega (arith, added_lives fabric_zero s request events now, h.fabrics, fabric);
        single = omega (arith, count_cons is_report x s.opens, one_no prime, h.single);
        reason = rw (some_cons is_report x s.opens, prime) h.reason;
      }

  pub resume_sound : (id : ℕ) → id_live id s ≡ false → Sound (resumed_to id request events s).state
  unfolding resumed_to report_open
  resume_sound id free =
      let x = resumed request id (watermark_of s.log) events in
      let fabric = one_no (ap (λ f. eqb f 0) (resumed_fabric request id (watermark_of s.log) events) ∙ given) in
      record {
        capacity = h.capacity;
        room = omega (arith, resumed_lives every s id request events, leb-false s.capacity (counted s) room, lives_counted s);
        log = h.log;
        ids = λ j. omega (arith, resumed_lives (has_id j) s id request events, newcomer s x id h (resumed_id request id (watermark_of s.log) events) free j);
        fabrics = omega (arith, resumed_lives fabric_zero s id request events, h.fabrics, fabric);
        single = h.single;
        reason = h.reason;
      }

-- ---- hand-out

handed_sound : (s : State) (at : Settings) → Sound s → report_open s ≡ false → some (ready at s) s.stored ≡ true
    → Sound (after_hand_out at s)
unfolding report_open has_id
handed_sound s at h shut found =
    let x = next_up at s in
    let id = opened_id x (watermark_of s.log) at.events at.now in
    let fabric = ap (λ f. one (eqb f 0)) (opened_fabric x (watermark_of s.log) at.events at.now) in
    record {
      capacity = h.capacity;
      room = omega (arith, reported_lives every s at found, h.room);
      log = h.log;
      ids = λ j. omega (arith, reported_lives (has_id j) s at found, ap (λ i. one (eqb i j)) id, h.ids j);
      fabrics = omega (arith, reported_lives fabric_zero s at found, h.fabrics);
      single =
          omega (arith, count_cons is_report (opened_in at s x) s.opens, one_most (opened_in at s x).reporting, count_none is_report s.opens shut);
      reason =
          or_right (eqb s.cancel 0)
          (some_cons is_report (opened_in at s x) s.opens
          ∙ or_left (some is_report s.opens) (opened_reporting x (watermark_of s.log) at.events at.now));
    }

pub report_sound : (s : State) (at : Settings) → Sound s → report_open s ≡ false → Sound (reported at s).state
unfolding reported
report_sound s at h shut =
    split (some (ready at s) s.stored)
    (λ t. rw (handed_state at s t) (handed_sound s at h shut t))
    (λ t. rw (t, reported) h)

-- ---- completion

-- what is stored again counts no more than it did
as_most : (b : Bool) (n m : ℕ) → n ≡ m → cond b n 0 ≤ m
as_most true n m e = omega arith
as_most false n m e = omega arith

pub complete_sound : (s : State) (id o : ℕ) → Sound s → some (has_id id) s.opens ≡ true → Sound (completed_in id o s).state
unfolding completed_in report_open has_id
complete_sound s id o h found =
    let x = open_with id s in
    let reports = count_taken_newest is_report (has_id id) blank s.opens found in
    record {
      capacity = h.capacity;
      room = omega (arith, completed_lives every s id o found, as_most (stays x o s) 1 1 refl, h.room);
      log = h.log;
      ids = λ j. omega (
        arith,
        completed_lives (has_id j) s id o found,
        as_most (stays x o s) (one (has_id j (closed x o))) (one (has_id j x)) (ap (λ i. one (eqb i j)) (closed_id x o)),
        h.ids j,
      );
      fabrics =
          omega (
            arith,
            completed_lives fabric_zero s id o found,
            as_most (stays x o s) (one (fabric_zero (closed x o))) (one (fabric_zero x)) (ap (λ f. one (eqb f 0)) (closed_fabric x o)),
            h.fabrics,
          );
      single = omega (arith, h.single);
      reason =
          split (is_report x)
          (λ t. rw t)
          (λ t. rw t
          (⊎_elim
          (λ e. or_left (some is_report (take_out_newest (has_id id) s.opens)) e)
          (λ e. or_right (eqb s.cancel 0)
          (some_count is_report (take_out_newest (has_id id) s.opens) (omega (arith, one_no t, count_some is_report s.opens e))))
          (or_either (eqb s.cancel 0) (report_open s) h.reason)));
    }
