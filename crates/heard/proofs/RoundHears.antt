-- While a subscription waits with a note that it has not heard of, it stays reportable; so a round that falls silent has handed it out.
-- Assumes nothing.
use mathlib.Core.Path.{◌≡◌, refl, sym, ap, ◌∙◌}
use mathlib.Core.Bool.{Bool, true, false, and-false, or-false, ◌&&◌, ◌||◌}
use mathlib.Core.List.{List, [], ◌∷◌, map}
use Prim.Native.Nat.{ℕ, ◌+◌, ◌≤◌, ◌<◌}
use native.Mathlib.Omega.{arith}
use native.Mathlib.Nat.{add-zero, add_assoc}
use borrow.Author.Tests.{leb-false, eq-eqb, ne_eqb}
use lib.Dec.{eqb, leb}
use Rattle.entries.specs.declared.ChangedAttr.{ChangedAttr}
use Rattle.instants.specs.declared.Instant.{Instant}
use Rattle.instants.specs.Instants.{last_instant}
use Rattle.subscription.specs.declared.Settings.{Settings}
use Rattle.subscription.specs.declared.Subscription.{Subscription}
use Rattle.lists.specs.Search.{one, some, count}
use Rattle.subscription.specs.Life.{blank}
use Rattle.rules.specs.States.{State, has_id, id_live}
use Rattle.rules.specs.Calls.{Op}
use Rattle.rules.specs.Machine.{refusal, changed_for, ready, next_up, reported, outcome, step}
use Rattle.rules.specs.Rounds.{is_round, handed_id}
use Rattle.heard.specs.Hearing.{is_note, notes_in, hands_out, ends_heard, acts}
use Rattle.heard.specs.Playing.{Between, noting, purging, as_call, between, Turn, with_events, turned, play, plain_outcome, odd, notes_during, allowed_by}
use Rattle.rules.specs.Calls as call
use Rattle.lists.proofs.Bools.{split, clash, and_both, or_left, or_right}
use Rattle.lists.proofs.Searches.{some_append, some_weaken}
use Rattle.lists.proofs.Counts.{some_rest, some_nil, some_cons, count_nil, count_cons, some_count, count_some, one_no, count_taken}
use Rattle.changes.proofs.Promises.{reached_any}
use Rattle.subscription.proofs.Spacing.{changed_reportable}
use Rattle.rules.proofs.Clauses.{has_id_is}
use Rattle.rules.proofs.Acts.{ready_is, act_note, act_purge, act_complete, run_none, run_more}
use Rattle.rules.proofs.Refusals.{step_either}
use Rattle.rules.proofs.Sound.{kept_sound}
use Rattle.rules.proofs.Lives.{lives}
use Rattle.rules.proofs.Turns.{report_step}
use Rattle.heard.proofs.Sane.{Sane, sane_step}
use Rattle.heard.proofs.Standing.{stands_step}
use Rattle.heard.proofs.Tracked.{told, told_less, untold_step}
use Rattle.heard.proofs.Histories.{Tracked}
use Rattle.heard.proofs.Turning.{one_between, same_between, first_stored, ended}
use Rattle.heard.proofs.Waiting.{Begun, waiting, turn_begun, others_wait, counts, fine, plain_good}
use Rattle.heard.proofs.Playing.{first_plain, play_goes_on, play_cut}

stored_lives : (i : ℕ) (s : State) → some (has_id i) s.stored ≡ true → id_live i s ≡ true
stored_lives i s h = some_append (has_id i) s.stored s.opens ∙ or_left _ h

module _ (i k : ℕ) (q : ChangedAttr) (pos : 0 < k) (since : Bool) where
  -- whoever waits, and has not heard of the note, is reportable
  waiting_ready : (at : Settings) (s : State) → Tracked i k q since s → some (waiting at.now i) s.stored ≡ true → some (ready at s) s.stored ≡ true
  waiting_ready at s t h =
      let none = t.untold in
      some_rest (waiting at.now i) (told i k since) (ready at s) s.stored
      (λ x w free. let m = and_both (has_id i x) (allowed_by at.now x) w in
      let less = leb-false k x.seen (told_less i k since x m.0 free).0 in
      ready_is at s x
      ∙ changed_reportable x at.now (changed_for s x) at.events at.kind at.all m.1
      (reached_any s.log q k x.seen less t.stands.still))
      h (omega arith)

  -- a call that hands i out to nobody and leaves it live
  tracked_quiet : (n : ℕ) (op : Op) (s : State) → is_round op ≡ false → n + one (is_note op) < 18446744073709551615 → Sane n s
      → id_live i s ≡ true → id_live i (step op s).state ≡ true → hands_out i op s ≡ false → ends_heard i op ≡ false → Tracked i k q since s → Tracked i k q since (step op s).state
  tracked_quiet n op s plain low h live after none other t =
      let few = h.few in
      let quiet : (since && (acts (refusal op s) && ends_heard i op)) ≡ false =
      rw other (ap (λ b. since && b) (and-false (acts (refusal op s))) ∙ and-false since) in
      record {
        stands = stands_step i k q pos since s h.well live t.untold t.stands op plain after (omega arith);
        untold = ap (λ b. lives (told i k b) (step op s).state) (sym (ap (λ b. since || b) none ∙ or-false since))
            ∙ untold_step i k pos since op s plain live quiet t.untold;
      }

  -- what happens in between hands nobody out
  quiet_between : (b : Between) (s : State) → hands_out i (as_call b) s ≡ false
  quiet_between (noting e c a) s =
      step_either (λ r. some (eqb i) (handed_id r.answer) ≡ false) (call.note e c a) s (λ _. rw (act_note s e c a) (some_nil (eqb i)))
      (λ why _. some_nil (eqb i))
  quiet_between purging s =
      step_either (λ r. some (eqb i) (handed_id r.answer) ≡ false) call.purge s (λ _. rw (act_purge s) (some_nil (eqb i))) (λ why _. some_nil (eqb i))

  never_ends : (b : Between) → ends_heard i (as_call b) ≡ false
  never_ends (noting e c a) = refl
  never_ends purging = refl

  plain_between : (b : Between) → is_round (as_call b) ≡ false
  plain_between (noting e c a) = refl
  plain_between purging = refl

  -- tracked, and sane, with i stored
  record Going (n : ℕ) (s : State) : Type 0 where
    sane : Sane n s
    tracked : Tracked i k q since s
    there : some (has_id i) s.stored ≡ true

  going_between : (n : ℕ) (bs : List Between) (s : State) → n + notes_in (map as_call bs) < 18446744073709551615 → Going n s
      → Going (n + notes_in (map as_call bs)) (between bs s)
  going_between n [] s low g = rw (run_none s, count_nil is_note) (rw (add-zero n) g)
  going_between n (b ∷ bs) s low g =
      let all = count_cons is_note (as_call b) (map as_call bs) in
      let there = ap (some (has_id i)) (one_between b s).stored ∙ g.there in
      rw (run_more (as_call b) (map as_call bs) s, all, ← add_assoc n (one (is_note (as_call b))) (notes_in (map as_call bs)))
      (going_between (n + one (is_note (as_call b))) bs (step (as_call b) s).state (omega arith)
      (record {
        sane = sane_step n (as_call b) s (plain_between b) (omega arith) g.sane;
        tracked = tracked_quiet n (as_call b) s (plain_between b) (omega arith) g.sane (stored_lives i s g.there)
            (stored_lives i (step (as_call b) s).state there) (quiet_between b s) (never_ends b) g.tracked;
        there = there;
      }))

  -- ---- a turn that hands out somebody else

  module _ (at : Settings) (time : at.now.ms + 65535000 ≤ last_instant.ms) (s : State) (b : Begun s) (u : Turn) (h : plain_outcome u.outcome ≡ true)
      (found : some (ready (with_events at u.events) s) s.stored ≡ true)
      (other : eqb (next_up (with_events at u.events) s).id i ≡ false) where
    abbrev at' : Settings
    at' = with_events at u.events

    abbrev x : Subscription
    x = next_up at' s

    abbrev s1 : State
    s1 = (reported at' s).state

    abbrev s2 : State
    s2 = between u.during s1

    abbrev s3 : State
    s3 = (step (call.complete x.id u.outcome) s2).state

    not_this : has_id i x ≡ false
    not_this = has_id_is i x ∙ other

    reported_is : step (call.report at') s ≡ outcome (call.handed x.id x.rx) s1
    reported_is = report_step at' 0 s (kept_sound s b.well) b.shut found

    first_there : some (has_id i) s.stored ≡ true → some (has_id i) s1.stored ≡ true
    first_there there =
        let m = count_some (has_id i) s.stored there in
        ap (some (has_id i)) (first_stored at' s b.well found u (plain_good u h) (fine at time s b u h found))
        ∙ some_count (has_id i) _ (omega (arith, count_taken (has_id i) (ready at' s) blank s.stored found, one_no not_this))

    last_there : some (has_id i) s.stored ≡ true → some (has_id i) s3.stored ≡ true
    last_there there =
        let m = count_some (has_id i) s.stored there in
        let same = ap (count (has_id i)) (same_between u.after s3).stored in
        some_count (has_id i) s3.stored (omega (arith, counts at time s b u h found (has_id i), one_no not_this))

    ended_quiet : hands_out i (call.complete x.id u.outcome) s2 ≡ false
    ended_quiet =
        ap (λ r. some (eqb i) (handed_id r.answer))
        (ended at' s b.well found u (plain_good u h) (fine at time s b u h found) ∙ act_complete s2 x.id u.outcome)
        ∙ some_nil (eqb i)

    report_quiet : hands_out i (call.report at') s ≡ false
    report_quiet =
        ap (λ r. some (eqb i) (handed_id r.answer)) reported_is
        ∙ some_cons (eqb i) x.id []
        ∙ rw (some_nil (eqb i), ne_eqb i x.id (λ e. clash (eq-eqb x.id i (sym e)) other))

    turn_going : (n : ℕ) → n + (notes_in (map as_call u.during) + notes_in (map as_call u.after)) < 18446744073709551615 → Going n s
        → Going (n + (notes_in (map as_call u.during) + notes_in (map as_call u.after))) (turned x.id u s1)
    turn_going n low g =
        let d = notes_in (map as_call u.during) in
        let op = call.complete x.id u.outcome in
        let there = first_there g.there in
        let state = ap (λ r. r.state) reported_is in
        let first : Going n s1 =
        record {
          sane = rw (← state, ← add-zero n) (sane_step n (call.report at') s refl (omega arith) g.sane);
          tracked = rw (← state)
              (tracked_quiet n (call.report at') s refl (omega arith) g.sane (stored_lives i s g.there)
              (ap (id_live i) state ∙ stored_lives i s1 there) report_quiet refl g.tracked);
          there = there;
        } in
        let second = going_between n u.during s1 (omega arith) first in
        let third : Going (n + d) s3 =
        record {
          sane = rw (← add-zero (n + d)) (sane_step (n + d) op s2 refl (omega arith) second.sane);
          tracked = tracked_quiet (n + d) op s2 refl (omega arith) second.sane (stored_lives i s2 second.there)
              (stored_lives i s3 (last_there g.there)) ended_quiet (ap (λ c. c && leb u.outcome 1) other) second.tracked;
          there = last_there g.there;
        } in
        rw (← add_assoc n d (notes_in (map as_call u.after))) (going_between (n + d) u.after s3 (omega arith) third)

  -- ---- the round

  waiting_there : (now : Instant) (l : List Subscription) → 1 ≤ count (waiting now i) l → some (has_id i) l ≡ true
  waiting_there now l h = some_weaken (waiting now i) (has_id i) l (λ x t. (and_both (has_id i x) (allowed_by now x) t).0) (some_count (waiting now i) l h)

  pub silent_heard : (at : Settings) → at.now.ms + 65535000 ≤ last_instant.ms → (n : ℕ) (us : List Turn) (s : State) → Begun s → some odd us ≡ false
      → n + notes_during us < 18446744073709551615 → Sane n s → Tracked i k q since s → 1 ≤ count (waiting at.now i) s.stored
      → (play at us s).silent ≡ true → some (λ y. eqb y i) (play at us s).out ≡ true
  silent_heard at time n [] s b plain low sane t waits silent =
      absurd (clash silent (play_cut at s b.well b.shut (waiting_ready at s t (some_count (waiting at.now i) s.stored waits))))
  silent_heard at time n (u ∷ us) s b plain low sane t waits silent =
      let w = first_plain at time u us plain in
      let at' = with_events at u.events in
      let id = (next_up at' s).id in
      let next = turned id u (reported at' s).state in
      let found = waiting_ready at' s t (some_count (waiting at.now i) s.stored waits) in
      let more = play_goes_on at s b.well b.shut us u found in
      rw more
      (some_cons (λ y. eqb y i) id (play at us next).out
      ∙ split (eqb id i)
      (λ e. or_left _ e)
      (λ e. let g = turn_going at time s b u w.0 found e n (omega arith) (record { sane = sane; tracked = t; there = waiting_there at.now s.stored waits }) in
      let still = others_wait at time s b u w.0 found i e in
      or_right (eqb id i)
      (silent_heard at time (n + (notes_in (map as_call u.during) + notes_in (map as_call u.after))) us next (turn_begun at time s b u w.0 found) w.1
      (omega arith) g.sane g.tracked (omega arith) (sym (ap (λ p. p.silent) more) ∙ silent))))
