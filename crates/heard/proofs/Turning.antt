-- One turn of a round: somebody is handed out, notes and purges come and go, and the report ends. What it leaves stored is told by counts.
-- Assumes nothing.
use mathlib.Core.Path.{◌≡◌, refl, ap, ◌∙◌}
use mathlib.Core.Bool.{Bool, true, false, not, cond}
use mathlib.Core.List.{List, [], ◌∷◌, ◌++◌, map}
use Prim.Native.Nat.{◌+◌}
use native.Mathlib.Omega.{arith}
use borrow.Author.Tests.{eq-eqb}
use Rattle.refusal.specs.declared.Refusal.TheVariants.{BadArgument, NotOpen}
use Rattle.subscription.specs.declared.Settings.{Settings}
use Rattle.subscription.specs.declared.Subscription.{Subscription}
use Rattle.lists.specs.Search.{one, some, count, first_by}
use Rattle.lists.specs.Removal.{take_out, take_out_newest}
use Rattle.changes.specs.Logs.{watermark_of}
use Rattle.subscription.specs.Life.{blank, closed, keeps}
use Rattle.rules.specs.States.{State, has_id, well_kept}
use Rattle.rules.specs.Machine.{first_of, bad_outcome, ready, next_up, opened_in, reported, open_with, stays, cancelled, stored_after, act, step}
use Rattle.heard.specs.Playing.{Between, noting, purging, as_call, between, Turn, turned}
use Rattle.rules.specs.Calls as call
use Rattle.lists.proofs.Bools.{and_right, or_left}
use Rattle.lists.proofs.Counts.{some_cons, in_front, newest_out, count_taken, count_end}
use Rattle.subscription.proofs.Laws.{opened_id}
use Rattle.rules.proofs.Clauses.{has_id_is, complete_objects, refusal_kept, first_passed, first_none}
use Rattle.rules.proofs.Acts.{act_note, act_purge, act_complete, reported_one, run_none, run_more}
use Rattle.rules.proofs.Refusals.{step_either, unrefused_acts}
use Rattle.rules.proofs.Kept.{step_well_kept, run_well_kept}

-- ---- notes and purges leave everybody where he is

pub record SameOnes (s t : State) : Type 0 where
  pub stored : t.stored ≡ s.stored
  pub opens : t.opens ≡ s.opens

pub one_between : (b : Between) (s : State) → SameOnes s (step (as_call b) s).state
one_between (noting e c a) s =
    step_either (λ r. SameOnes s r.state) (call.note e c a) s (λ _. rw (act_note s e c a) (record { stored = refl; opens = refl }))
    (λ why _. record { stored = refl; opens = refl })
one_between purging s =
    step_either (λ r. SameOnes s r.state) call.purge s (λ _. rw (act_purge s) (record { stored = refl; opens = refl }))
    (λ why _. record { stored = refl; opens = refl })

pub same_between : (bs : List Between) (s : State) → SameOnes s (between bs s)
same_between [] s = rw (run_none s) (record { stored = refl; opens = refl })
same_between (b ∷ bs) s =
    let a = one_between b s in
    let r = same_between bs (step (as_call b) s).state in
    rw (run_more (as_call b) (map as_call bs) s) (record { stored = r.stored ∙ a.stored; opens = r.opens ∙ a.opens })

-- ---- a turn that hands somebody out

module _ (at : Settings) (s : State) (well : well_kept s ≡ true) (found : some (ready at s) s.stored ≡ true) (u : Turn)
    (good : bad_outcome u.outcome ≡ false) (fine : well_kept (reported at s).state ≡ true) where
  abbrev pub x : Subscription
  x = next_up at s

  abbrev pub y : Subscription
  y = opened_in at s x

  abbrev pub s1 : State
  s1 = (reported at s).state

  abbrev pub s2 : State
  s2 = between u.during s1

  abbrev pub s3 : State
  s3 = (step (call.complete x.id u.outcome) s2).state

  pub first_stored : s1.stored ≡ take_out (ready at s) s.stored
  first_stored = ap (λ r. r.state.stored) (reported_one at s found)

  first_opens : s1.opens ≡ (y ∷ s.opens)
  first_opens = ap (λ r. r.state.opens) (reported_one at s found)

  same_id : has_id x.id y ≡ true
  same_id = has_id_is x.id y ∙ eq-eqb y.id x.id (opened_id x (watermark_of s.log) at.events at.now)

  pub open_there : s2.opens ≡ (y ∷ s.opens)
  open_there = (same_between u.during s1).opens ∙ first_opens

  found_open : some (has_id x.id) s2.opens ≡ true
  found_open = ap (some (has_id x.id)) open_there ∙ some_cons (has_id x.id) y s.opens ∙ or_left _ same_id

  this_one : open_with x.id s2 ≡ y
  this_one = ap (λ l. first_by (has_id x.id) blank l) open_there ∙ in_front (has_id x.id) blank y s.opens same_id

  pub s2_well : well_kept s2 ≡ true
  s2_well = run_well_kept (map as_call u.during) s1 fine

  pub ended : step (call.complete x.id u.outcome) s2 ≡ act (call.complete x.id u.outcome) s2
  ended =
      unrefused_acts (call.complete x.id u.outcome) s2
      (refusal_kept (call.complete x.id u.outcome) s2 s2_well
      ∙ ap first_of (complete_objects s2 x.id u.outcome)
      ∙ first_passed BadArgument _ good
      ∙ first_passed NotOpen [] (ap not found_open)
      ∙ first_none)

  -- it is stored again, or not
  abbrev pub again : Bool
  again = stays y u.outcome s2

  pub again_kept : again ≡ true → keeps y u.outcome ≡ true
  again_kept e = and_right (not (cancelled y s2)) (keeps y u.outcome) e

  pub last_stored : s3.stored ≡ cond again (take_out (ready at s) s.stored ++ (closed y u.outcome ∷ [])) (take_out (ready at s) s.stored)
  last_stored =
      ap (λ r. r.state.stored) (ended ∙ act_complete s2 x.id u.outcome)
      ∙ ap (λ z. stored_after z u.outcome s2) this_one
      ∙ ap (λ l. cond again (l ++ (closed y u.outcome ∷ [])) l) ((same_between u.during s1).stored ∙ first_stored)

  pub last_opens : s3.opens ≡ s.opens
  last_opens =
      ap (λ r. r.state.opens) (ended ∙ act_complete s2 x.id u.outcome)
      ∙ ap (take_out_newest (has_id x.id)) open_there
      ∙ newest_out (has_id x.id) y s.opens same_id

  -- the state after the turn
  abbrev pub after : State
  after = turned x.id u s1

  pub turn_opens : after.opens ≡ s.opens
  turn_opens = (same_between u.after s3).opens ∙ last_opens

  pub turn_well : well_kept after ≡ true
  turn_well = run_well_kept (map as_call u.after) s3 (step_well_kept (call.complete x.id u.outcome) s2 s2_well)

  -- of the stored ones: the one handed out is gone, and if it stays is what it is stored as
  pub turn_counts : (p : Subscription → Bool)
      → count p after.stored + one (p x) ≡ count p s.stored + cond again (one (p (closed y u.outcome))) 0
  turn_counts p =
      let taken = count_taken p (ready at s) blank s.stored found in
      let all = ap (count p) ((same_between u.after s3).stored ∙ last_stored) in
      let put = ends again in
      omega arith
    where
      ends : (b : Bool) → count p (cond b (take_out (ready at s) s.stored ++ (closed y u.outcome ∷ [])) (take_out (ready at s) s.stored))
          ≡ count p (take_out (ready at s) s.stored) + cond b (one (p (closed y u.outcome))) 0
      ends true = count_end p (take_out (ready at s) s.stored) (closed y u.outcome)
      ends false = omega arith
