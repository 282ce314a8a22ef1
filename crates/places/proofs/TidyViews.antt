-- A whole table is well kept exactly where the state that it stands for is, and tidy tables that stand for the same state are the same.
-- Assumes nothing.
use mathlib.Core.Path.{◌≡◌, sym, ap, ◌∙◌}
use mathlib.Core.List.{List}
use Prim.Native.Nat.{ℕ, ◌+◌, ◌-◌, ◌≤◌, ◌<◌}
use native.Mathlib.Omega.{arith}
use borrow.Author.Tests.{ltb-true, ltb-false}
use lib.Dec.{leb, ltb}
use lib.ListN.{length, get_or, length-drop}
use lib.Seq.{length-take-le, get_or-take, get_or-drop, ext_get_or}
use Rattle.subscription.specs.declared.Subscription.{Subscription}
use Rattle.places.specs.declared.Table.{Table}
use Rattle.subscription.specs.Life.{blank}
use Rattle.rules.specs.States.{State, capacity_fits, well_kept}
use Rattle.places.specs.Views.{stored_of, opens_of, view, kept}
use Rattle.places.specs.Tidiness.{Whole, Tidy}
use Rattle.lists.proofs.Bools.{split}
use Rattle.rules.proofs.Clauses.{well_kept_is}

module _ (t : Table) (h : Whole t) where
  -- the machine's lists are as long as the counts say
  stored_long : length (stored_of t) ≡ t.stored
  stored_long = let f = h.fits in length-take-le t.stored t.places (omega (arith, h.long))

  opens_long : length (opens_of t) ≡ t.opens
  opens_long = let f = h.fits in length-drop (80 - t.opens) t.places ∙ (omega (arith, h.long))

  pub whole_kept : kept t ≡ well_kept (view t)
  unfolding kept
  whole_kept =
      split (leb (t.stored + t.opens) t.capacity)
      (λ u. rw (u, kept))
      (λ u. split (capacity_fits t.capacity)
      (λ v. rw (u, kept) (sym (well_kept_is (view t) ∙ rw (stored_long, opens_long, u, v))))
      (λ v. rw (u, kept) (sym (well_kept_is (view t) ∙ rw v))))

module _ (t : Table) where
  -- what stands at a place, by the state
  stored_at : (i : ℕ) → i < t.stored → get_or t.places i blank ≡ get_or (stored_of t) i blank
  stored_at i w = sym (get_or-take t.stored t.places i blank w)

  open_at : (i : ℕ) → 80 - t.opens ≤ i → get_or t.places i blank ≡ get_or (opens_of t) (i - (80 - t.opens)) blank
  open_at i w =
      let n = 80 - t.opens in
      let back : i ≡ n + (i - n) = omega arith in
      ap (λ j. get_or t.places j blank) back ∙ sym (get_or-drop n t.places (i - n) blank)

-- a table of these places and counts that stands for this state
abbrev remade : List Subscription → ℕ → ℕ → State → Table
remade places stored opens s = record {
  places = places;
  log = s.log;
  stored = stored;
  opens = opens;
  next = s.next;
  capacity = s.capacity;
  cancel = s.cancel;
}

module _ (t u : Table) (h : Tidy t) (k : Tidy u) (e : view t ≡ view u) where
  same_stored : t.stored ≡ u.stored
  same_stored = sym (stored_long t h.whole) ∙ ap (λ s. length s.stored) e ∙ stored_long u k.whole

  same_opens : t.opens ≡ u.opens
  same_opens = sym (opens_long t h.whole) ∙ ap (λ s. length s.opens) e ∙ opens_long u k.whole

  same_place : (i : ℕ) → get_or t.places i blank ≡ get_or u.places i blank
  same_place i =
      let s = same_stored in
      let o = same_opens in
      split (ltb i t.stored)
      (λ a. let w = ltb-true i t.stored a in
      stored_at t i w ∙ ap (λ z. get_or z.stored i blank) e ∙ sym (stored_at u i (omega arith)))
      (λ a. let w = ltb-false i t.stored a in
      split (ltb i (80 - t.opens))
      (λ b. let v = ltb-true i (80 - t.opens) b in
      h.between i w v ∙ sym (k.between i (omega arith) (omega arith)))
      (λ b. let v = ltb-false i (80 - t.opens) b in
      open_at t i v
      ∙ ap (λ z. get_or z.opens (i - (80 - t.opens)) blank) e
      ∙ ap (λ n. get_or (opens_of u) (i - (80 - n)) blank) o
      ∙ sym (open_at u i (omega arith))))

  -- "From a fresh table equal views are equal tables": every table that comes from a fresh one is tidy
  pub equal_views : t ≡ u
  equal_views =
      ap (λ l. remade l t.stored t.opens (view t)) (ext_get_or blank t.places u.places (h.whole.long ∙ sym k.whole.long) (λ i _. same_place i))
      ∙ ap (λ n. remade u.places n t.opens (view t)) same_stored
      ∙ ap (λ n. remade u.places u.stored n (view t)) same_opens
      ∙ ap (remade u.places u.stored u.opens) e
