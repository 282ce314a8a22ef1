-- The rest of what keeps the state sound: removal, the log, the round; and so every call, acting or refused.
-- A round keeps it turn by turn, since each turn leaves the same ones open.
-- Assumes nothing.
use Rattle.std.specs.Prelude.{None}
use mathlib.Core.Path.{◌≡◌, refl}
use mathlib.Core.Bool.{Bool, true, false, cond, ◌&&◌, ◌||◌}
use mathlib.Core.List.{List, [], ◌∷◌}
use Prim.Native.Nat.{ℕ}
use native.Mathlib.Omega.{arith}
use lib.Dec.{eqb, ltb}
use lib.ListN.{length}
use Rattle.lists.specs.Search.{some}
use Rattle.lists.proofs.Bools.{split, and_both, or_right}
use Rattle.lists.proofs.Counts.{count_nil}
use Rattle.lists.proofs.Searches.{some_weaken}
use Rattle.changes.specs.declared.ChangedAttrs.{ChangedAttrs}
use Rattle.changes.specs.Logs.{kept}
use Rattle.changes.proofs.Promises.{note_kept, purge_kept, clear_kept}
use Rattle.choices.specs.declared.Choice.{Choice}
use Rattle.choices.specs.Choices.{chosen}
use Rattle.rules.specs.States.{State, fresh, capacity_fits, is_report, report_open, has_id, fabric_zero}
use Rattle.rules.specs.Calls.{Settings, Op}
use Rattle.rules.specs.Machine.{next_up, first_of, objections, round_in, act, step, noted_in, ready, reported, completed_in, cancels, removed, cleared_in, least_seen, purged_in, Turn, turned, round_from}
use Rattle.rules.proofs.Lives.{every, removed_lives, cleared_lives, turn_found, turn_opens}
use Rattle.rules.proofs.Sound.{Sound}
use borrow.Author.Tests.{not-false}
use Rattle.changes.proofs.Answering.{fresh_kept}
use Rattle.rules.specs.Calls as call
use Rattle.rules.proofs.Refusals.{step_either}
use Rattle.rules.proofs.Objections.{unobjected, no_objection}
use Rattle.rules.proofs.Keeping.{add_sound, resume_sound, report_sound, complete_sound}

-- ---- removal

pub remove_sound : (s : State) (choice : Choice) (reason : ℕ) → Sound s → Sound (removed choice reason s).state
unfolding removed report_open
remove_sound s choice reason h =
    record {
      capacity = h.capacity;
      room = omega (arith, removed_lives every s choice reason, h.room);
      log = h.log;
      ids = λ j. omega (arith, removed_lives (has_id j) s choice reason, h.ids j);
      fabrics = omega (arith, removed_lives fabric_zero s choice reason, h.fabrics);
      single = h.single;
      reason =
          split (cancels choice s)
          (λ t. or_right (eqb (cond (cancels choice s) reason s.cancel) 0)
          (some_weaken (λ x. is_report x && chosen choice x) is_report s.opens
          (λ x e. (and_both (is_report x) (chosen choice x) e).0) (and_both (eqb s.cancel 0) _ t).1))
          (λ t. rw t h.reason);
    }

-- the reason 255 comes only with a report
with_report_lem : (b : Bool) (n : ℕ) → (eqb n 0 || b) ≡ true → (eqb (cond b 255 n) 0 || b) ≡ true
with_report_lem true n h = refl
with_report_lem false n h = h

pub clear_sound : (s : State) → Sound s → Sound (cleared_in s).state
unfolding cleared_in report_open
clear_sound s h =
    record {
      capacity = h.capacity;
      room = omega (arith, cleared_lives every s, h.room);
      log = h.log;
      ids = λ j. omega (arith, cleared_lives (has_id j) s, h.ids j);
      fabrics = omega (arith, cleared_lives fabric_zero s, h.fabrics);
      single = h.single;
      reason = with_report_lem (report_open s) s.cancel h.reason;
    }

-- ---- the log

-- the log may be another, well kept as well
relogged : (s : State) (g : ChangedAttrs) → Sound s → kept g ≡ true
    → Sound (record { capacity = s.capacity; next = s.next; cancel = s.cancel; stored = s.stored; opens = s.opens; log = g })
unfolding report_open
relogged s g h k =
    record {
      capacity = h.capacity;
      room = h.room;
      log = k;
      ids = h.ids;
      fabrics = h.fabrics;
      single = h.single;
      reason = h.reason;
    }

pub note_sound : (s : State) (endpoint cluster attr : ℕ) → Sound s → Sound (noted_in endpoint cluster attr s).state
unfolding noted_in
note_sound s endpoint cluster attr h = relogged s _ h (note_kept s.log h.log endpoint cluster attr)

pub purge_sound : (s : State) → Sound s → Sound (purged_in s).state
unfolding purged_in
purge_sound s h =
    relogged s _ h
    (either (ltb 0 (length s.opens)) _ _ h.log
    (either (ltb 0 (length s.stored)) _ _ (purge_kept s.log (least_seen s.stored) h.log) (clear_kept s.log h.log)))
  where
    either : (b : Bool) (f g : ChangedAttrs) → kept f ≡ true → kept g ≡ true → kept (cond b f g) ≡ true
    either true f g k l = k
    either false f g k l = l

-- ---- the round

-- every turn of a round starts and ends with no report open
pub turn_sound : (s : State) (at : Settings) (o : ℕ) → Sound s → report_open s ≡ false → some (ready at s) s.stored ≡ true
    → Sound (completed_in (next_up at s).id o (reported at s).state).state
turn_sound s at o h shut found =
    complete_sound (reported at s).state (next_up at s).id o (report_sound s at h shut) (turn_found at s found)

pub turn_shut : (s : State) (at : Settings) (o : ℕ) → report_open s ≡ false → some (ready at s) s.stored ≡ true
    → report_open (completed_in (next_up at s).id o (reported at s).state).state ≡ false
unfolding report_open
turn_shut s at o shut found = rw (turn_opens at s found o) shut

pub round_sound : (at : Settings) (os : List ℕ) (t : Turn) → Sound t.state → report_open t.state ≡ false
    → Sound (round_from at os t).state
unfolding round_from
round_sound at [] t h shut = h
round_sound at (o ∷ os) t h shut =
    split (some (ready at t.state) t.state.stored)
    (λ e. rw (e, round_from)
    (round_sound at os (turned at o t) (turn_sound t.state at o h shut e) (turn_shut t.state at o shut e)))
    (λ e. rw (e, round_from) h)

-- ---- every call

pub fresh_sound : (c : ℕ) → capacity_fits c ≡ true → Sound (fresh c)
fresh_sound c h =
    record {
      capacity = h;
      room = omega (arith, count_nil every);
      log = fresh_kept;
      ids = λ j. omega (arith, count_nil (has_id j));
      fabrics = omega (arith, count_nil fabric_zero);
      single = omega (arith, count_nil is_report);
      reason = refl;
    }

-- what a call does where nothing is objected to
act_sound : (op : Op) (s : State) → first_of (objections op s) ≡ None → Sound s → Sound (act op s).state
unfolding act objections round_in
act_sound (call.new capacity) s e h = fresh_sound capacity (not-false _ (unobjected _ _ _ e).0)
act_sound (call.add request events now) s e h =
    let a = unobjected _ _ _ e in
    let b = unobjected _ _ _ a.1 in
    add_sound s h request events a.0 b.0 now (unobjected _ _ _ b.1).0
act_sound (call.resume id request events) s e h =
    let a = unobjected _ _ _ e in
    let b = unobjected _ _ _ a.1 in
    resume_sound s h request events a.0 b.0 id (unobjected _ _ _ b.1).0
act_sound (call.note endpoint cluster attr) s e h = note_sound s endpoint cluster attr h
act_sound (call.report at) s e h = report_sound s at h (unobjected _ _ _ e).0
act_sound (call.complete id o) s e h = complete_sound s id o h (not-false _ (unobjected _ _ _ (unobjected _ _ _ e).1).0)
act_sound (call.remove choice reason) s e h = remove_sound s choice reason h
act_sound call.clear s e h = clear_sound s h
act_sound call.purge s e h = purge_sound s h
act_sound (call.attribute id endpoint cluster attr) s e h = h
act_sound (call.send_if_empty id kind) s e h = h
act_sound (call.next_instant events kind) s e h = h
act_sound (call.any_reportable now events kind) s e h = h
act_sound call.next_keep_alive s e h = h
act_sound (call.statistics fabric) s e h = h
act_sound (call.has_subscription fabric peer) s e h = h
act_sound (call.round at outcomes ids) s e h = round_sound at outcomes _ h (unobjected _ _ _ (unobjected _ _ _ e).1).0

pub step_sound : (op : Op) (s : State) → Sound s → Sound (step op s).state
step_sound op s h = step_either (λ r. Sound r.state) op s (λ e. act_sound op s (no_objection op s e) h) (λ why e. h)
