-- A round, turn after turn: nobody is handed out twice, there are no more hand-outs than there are stored ones who may speak, and with as many
-- turns it falls silent.
-- Assumes nothing.
use mathlib.Core.Path.{◌≡◌, refl, sym, ap, ◌∙◌}
use mathlib.Core.Bool.{true, false}
use mathlib.Core.List.{List, [], ◌∷◌}
use Prim.Native.Nat.{ℕ, ◌+◌, ◌≤◌}
use native.Mathlib.Omega.{arith}
use borrow.Author.Tests.{eqb-true, not-false}
use lib.Dec.{eqb}
use lib.ListN.{length}
use Rattle.instants.specs.Instants.{last_instant}
use Rattle.subscription.specs.declared.Settings.{Settings}
use Rattle.subscription.specs.declared.Subscription.{Subscription}
use Rattle.lists.specs.Search.{some, count, distinct}
use Rattle.rules.specs.States.{State, report_open, has_id, well_kept}
use Rattle.rules.specs.Machine.{changed_for, ready, next_up, reported, step}
use Rattle.rules.specs.Rounds.{handed_id}
use Rattle.heard.specs.Playing.{Turn, with_events, turned, says_nothing, nobody, whom, also, play, plain_outcome, odd, allowed_by}
use Rattle.rules.specs.Calls as call
use Rattle.lists.proofs.Bools.{split, or_neither}
use Rattle.lists.proofs.Counts.{both_fewer, some_cons, count_nil, none_count, one_yes, one_no, count_cons}
use Rattle.lists.proofs.Numbers.{none_counted, counts_distinct}
use Rattle.subscription.proofs.Spacing.{reportable_allowed}
use Rattle.rules.proofs.Acts.{ready_is}
use Rattle.rules.proofs.Sound.{kept_sound}
use Rattle.rules.proofs.Turns.{report_step, report_silent}
use Rattle.heard.proofs.Waiting.{Begun, waiting, one_fewer, turn_begun, this_one_spoke, others_wait, waiting_first}

-- ---- a round, by whom its report hands out

pub play_nil : (at : Settings) (s : State) → play at [] s ≡ record { out = []; state = s; silent = says_nothing (step (call.report at) s).answer }
unfolding play
play_nil at s = refl

module _ (at : Settings) (u : Turn) (us : List Turn) (s : State) where
  pub play_nobody : nobody (handed_id (step (call.report (with_events at u.events)) s).answer) ≡ true
      → play at (u ∷ us) s ≡ record { out = []; state = s; silent = says_nothing (step (call.report (with_events at u.events)) s).answer }
  unfolding play
  play_nobody e = rw (e, play)

  pub play_somebody : nobody (handed_id (step (call.report (with_events at u.events)) s).answer) ≡ false
      → play at (u ∷ us) s
      ≡ also (whom (handed_id (step (call.report (with_events at u.events)) s).answer))
      (play at us
      (turned (whom (handed_id (step (call.report (with_events at u.events)) s).answer)) u
      (step (call.report (with_events at u.events)) s).state))
  unfolding play
  play_somebody e = rw (e, play)

-- ---- a round, by whether somebody is reportable

module _ (at : Settings) (s : State) (well : well_kept s ≡ true) (shut : report_open s ≡ false) where
  module _ (us : List Turn) (u : Turn) where
    pub play_stops : some (ready (with_events at u.events) s) s.stored ≡ false
        → play at (u ∷ us) s ≡ record { out = []; state = s; silent = true }
    unfolding play
    play_stops idle =
        let e = report_silent (with_events at u.events) s (kept_sound s well) shut idle in
        rw (e, play) (rw e)

    pub play_goes_on : some (ready (with_events at u.events) s) s.stored ≡ true
        → play at (u ∷ us) s
        ≡ also (next_up (with_events at u.events) s).id
        (play at us (turned (next_up (with_events at u.events) s).id u (reported (with_events at u.events) s).state))
    unfolding play
    play_goes_on found =
        let e = report_step (with_events at u.events) 0 s (kept_sound s well) shut found in
        rw (e, play) (rw e)

  pub play_ends : some (ready at s) s.stored ≡ false → (play at [] s).silent ≡ true
  unfolding play
  play_ends idle = rw (report_silent at s (kept_sound s well) shut idle)

  pub play_cut : some (ready at s) s.stored ≡ true → (play at [] s).silent ≡ false
  unfolding play
  play_cut found = rw (report_step at 0 s (kept_sound s well) shut found)

play_nothing : (at : Settings) (s : State) → (play at [] s).out ≡ []
unfolding play
play_nothing at s = refl

-- whoever is reportable may speak
ready_allowed : (at : Settings) (s : State) (x : Subscription) → ready at s x ≡ true → allowed_by at.now x ≡ true
ready_allowed at s x r = reportable_allowed x at.now (changed_for s x) at.events at.kind at.all (sym (ready_is at s x) ∙ r)

-- with nobody who may speak, nobody is reportable
none_ready : (at : Settings) (s : State) → count (allowed_by at.now) s.stored ≡ 0 → some (ready at s) s.stored ≡ false
none_ready at s none =
    none_count (ready at s) s.stored
    (none_counted (allowed_by at.now) (ready at s) s.stored (ready_allowed at s) (none_count (allowed_by at.now) s.stored none))

module _ (at : Settings) (time : at.now.ms + 65535000 ≤ last_instant.ms) where
  pub first_plain : (u : Turn) (us : List Turn) → some odd (u ∷ us) ≡ false → (plain_outcome u.outcome ≡ true) × (some odd us ≡ false)
  first_plain u us h =
      let w = or_neither (odd u) (some odd us) (sym (some_cons odd u us) ∙ h) in
      (not-false (plain_outcome u.outcome) w.0, w.1)

  -- no more hand-outs than may speak
  pub out_fewer : (us : List Turn) (s : State) → Begun s → some odd us ≡ false → length (play at us s).out ≤ count (allowed_by at.now) s.stored
  out_fewer [] s b h = rw (play_nothing at s) (omega arith)
  out_fewer (u ∷ us) s b h =
      let w = first_plain u us h in
      split (some (ready (with_events at u.events) s) s.stored)
      (λ e. rw (play_goes_on at s b.well b.shut us u e)
      (omega (arith, one_fewer at time s b u w.0 e, out_fewer us _ (turn_begun at time s b u w.0 e) w.1)))
      (λ e. rw (play_stops at s b.well b.shut us u e) (omega arith))

  -- nobody is handed out more often than it waits
  out_once : (j : ℕ) (us : List Turn) (s : State) → Begun s → some odd us ≡ false
      → count (λ y. eqb y j) (play at us s).out ≤ count (waiting at.now j) s.stored
  out_once j [] s b h = rw (play_nothing at s) (omega (arith, count_nil (λ (y : ℕ). eqb y j)))
  out_once j (u ∷ us) s b h =
      let w = first_plain u us h in
      let at' = with_events at u.events in
      split (some (ready at' s) s.stored)
      (λ e. let id = (next_up at' s).id in
      let t = turned id u (reported at' s).state in
      let more = out_once j us t (turn_begun at time s b u w.0 e) w.1 in
      let all = count_cons (λ y. eqb y j) id (play at us t).out in
      rw (play_goes_on at s b.well b.shut us u e)
      (split (eqb id j)
      (λ same. let k = eqb-true id j same in
      let first = ap (λ n. count (waiting at.now n) s.stored) k in
      let then = ap (λ n. count (waiting at.now n) t.stored) k in
      omega (arith, waiting_first at time s b u w.0 e, this_one_spoke at time s b u w.0 e, one_yes same))
      (λ other. omega (arith, others_wait at time s b u w.0 e j other, one_no other))))
      (λ e. rw (play_stops at s b.well b.shut us u e) (omega (arith, count_nil (λ (y : ℕ). eqb y j))))

  -- and it waits at most once
  pub nobody_twice : (us : List Turn) (s : State) → Begun s → some odd us ≡ false → distinct (λ n. n) (play at us s).out ≡ true
  nobody_twice us s b h =
      counts_distinct (λ n. n) (play at us s).out
      (λ j. omega (arith, out_once j us s b h, both_fewer (has_id j) (allowed_by at.now) s.stored, (kept_sound s b.well).ids j))

  -- with as many turns as may speak it falls silent
  pub falls_silent : (us : List Turn) (s : State) → Begun s → some odd us ≡ false → count (allowed_by at.now) s.stored ≤ length us
      → (play at us s).silent ≡ true
  falls_silent [] s b h few = play_ends at s b.well b.shut (none_ready at s (omega arith))
  falls_silent (u ∷ us) s b h few =
      let w = first_plain u us h in
      split (some (ready (with_events at u.events) s) s.stored)
      (λ e. rw (play_goes_on at s b.well b.shut us u e)
      (falls_silent us _ (turn_begun at time s b u w.0 e) w.1 (omega (arith, one_fewer at time s b u w.0 e))))
      (λ e. rw (play_stops at s b.well b.shut us u e))
