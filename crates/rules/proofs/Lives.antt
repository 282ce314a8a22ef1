-- What each call does to the live ones: of how many of them a test holds before and after, for every test. With the test that always holds
-- this counts places; with the test for an id it says who is live.
-- Assumes nothing.
use mathlib.Core.Path.{◌≡◌}
use mathlib.Core.Bool.{Bool, true, cond, ◌&&◌}
use mathlib.Core.List.{◌∷◌}
use Prim.Native.Nat.{ℕ, ◌+◌}
use native.Mathlib.Omega.{arith}
use borrow.Author.Tests.{eq-eqb}
use Rattle.lists.specs.Search.{one, some, count}
use Rattle.lists.specs.Removal.{take_out}
use Rattle.lists.proofs.Bools.{split, or_left}
use Rattle.lists.proofs.Counts.{count_nil, count_cons, some_cons, in_front, newest_out, count_every, count_end, count_taken, count_taken_newest, count_swept}
use Rattle.instants.specs.declared.Instant.{Instant}
use Rattle.changes.specs.Logs.{watermark_of}
use Rattle.subscription.specs.declared.Subscription.{Subscription}
use Rattle.choices.specs.declared.Choice.{Choice}
use Rattle.subscription.specs.declared.Request.{Request}
use Rattle.subscription.specs.Life.{blank, priming, resumed, closed}
use Rattle.choices.specs.Choices.{chosen}
use Rattle.subscription.proofs.Laws.{opened_id}
use Rattle.rules.specs.States.{State, counted, has_id}
use Rattle.rules.specs.Calls.{Settings}
use Rattle.rules.specs.Machine.{stays, next_up, with_ones, added, resumed_to, ready, opened_in, reported, open_with, stored_after, completed_in, removed, cleared_in}

-- of how many live ones the test holds
abbrev pub lives : (Subscription → Bool) → State → ℕ
lives p s = count p s.stored + count p s.opens

-- the test that always holds
abbrev pub every : Subscription → Bool
every x = true

-- the state after a hand-out
abbrev pub after_hand_out : Settings → State → State
after_hand_out at s = with_ones s (take_out (ready at s) s.stored) (opened_in at s (next_up at s) ∷ s.opens)

pub handed_state : (at : Settings) (s : State) → some (ready at s) s.stored ≡ true → (reported at s).state ≡ after_hand_out at s
unfolding reported
handed_state at s h = rw (h, reported)

pub lives_counted : (s : State) → lives every s ≡ counted s
unfolding counted
lives_counted s = omega (arith, count_every s.stored, count_every s.opens)

module _ (p : Subscription → Bool) (s : State) where
  pub added_lives : (request : Request) (events : ℕ) (now : Instant)
      → lives p (added request events now s).state ≡ lives p s + one (p (priming request s.next (watermark_of s.log) events now))
  unfolding added
  added_lives request events now =
      omega (arith, count_cons p (priming request s.next (watermark_of s.log) events now) s.opens)

  pub resumed_lives : (id : ℕ) (request : Request) (events : ℕ)
      → lives p (resumed_to id request events s).state ≡ lives p s + one (p (resumed request id (watermark_of s.log) events))
  unfolding resumed_to
  resumed_lives id request events = omega (arith, count_end p s.stored (resumed request id (watermark_of s.log) events))

  -- the one handed out is no longer what it was stored as, and is what it is as an open one
  pub reported_lives : (at : Settings) → some (ready at s) s.stored ≡ true
      → lives p (after_hand_out at s) + one (p (next_up at s)) ≡ lives p s + one (p (opened_in at s (next_up at s)))
  reported_lives at h =
      omega (arith, count_taken p (ready at s) blank s.stored h, count_cons p (opened_in at s (next_up at s)) s.opens)

  stored_after_lem : (x : Subscription) (o : ℕ) → count p (stored_after x o s) ≡ count p s.stored + cond (stays x o s) (one (p (closed x o))) 0
  stored_after_lem x o =
      split (stays x o s) (λ t. rw t (count_end p s.stored (closed x o))) (λ t. rw t (omega arith))

  -- the one completed is no longer what it was as an open one, and if it stays is what it is stored as
  pub completed_lives : (id o : ℕ) → some (has_id id) s.opens ≡ true
      → lives p (completed_in id o s).state + one (p (open_with id s))
      ≡ lives p s + cond (stays (open_with id s) o s) (one (p (closed (open_with id s) o))) 0
  unfolding completed_in
  completed_lives id o h =
      let gone = count_taken_newest p (has_id id) blank s.opens h in
      let put = stored_after_lem (open_with id s) o in
      omega arith

  pub removed_lives : (choice : Choice) (reason : ℕ)
      → lives p (removed choice reason s).state + count (λ x. p x && chosen choice x) s.stored ≡ lives p s
  unfolding removed
  removed_lives choice reason = omega (arith, count_swept p (chosen choice) s.stored)

  pub cleared_lives : lives p (cleared_in s).state + count p s.stored ≡ lives p s
  unfolding cleared_in
  cleared_lives = omega (arith, count_nil p)

-- ---- a turn of a round: what is handed out is completed at once

module _ (at : Settings) (s : State) (h : some (ready at s) s.stored ≡ true) where
  handed_id_lem : has_id (next_up at s).id (opened_in at s (next_up at s)) ≡ true
  unfolding has_id
  handed_id_lem = eq-eqb _ _ (opened_id (next_up at s) (watermark_of s.log) at.events at.now)

  -- the id finds the one that was just handed out
  pub turn_open : open_with (next_up at s).id (reported at s).state ≡ opened_in at s (next_up at s)
  turn_open = rw (handed_state at s h) (in_front (has_id (next_up at s).id) blank (opened_in at s (next_up at s)) s.opens handed_id_lem)

  pub turn_found : some (has_id (next_up at s).id) (reported at s).state.opens ≡ true
  turn_found =
      rw (handed_state at s h, some_cons (has_id (next_up at s).id) (opened_in at s (next_up at s)) s.opens)
      (or_left (some (has_id (next_up at s).id) s.opens) handed_id_lem)

  -- and after it the same ones are open as before
  pub turn_opens : (o : ℕ) → (completed_in (next_up at s).id o (reported at s).state).state.opens ≡ s.opens
  unfolding completed_in
  turn_opens o = rw (handed_state at s h) (newest_out (has_id (next_up at s).id) (opened_in at s (next_up at s)) s.opens handed_id_lem)
