-- A group that wins covers as many entries as it says, so that a fold makes room.
-- Assumes nothing.
use mathlib.Core.Path.{◌≡◌, refl}
use mathlib.Core.List.{List, [], ◌∷◌}
use mathlib.Core.Logic.{◌⊎◌, inl, inr, ⊎_elim}
use Prim.Native.Nat.{◌+◌, ◌≤◌, ◌<◌}
use native.Mathlib.Omega.{arith}
use native.Mathlib.Nat.{le_refl}
use lib.Dec.{ltb}
use lib.ListN.{length, length-append}
use Rattle.entries.specs.declared.ChangedAttr.{ChangedAttr}
use Rattle.entries.specs.declared.Level.{Level}
use Rattle.std.specs.Prelude.{Option, Some, None}
use Rattle.notes.specs.declared.Group.{Group}
use Rattle.lists.specs.Search.{count}
use Rattle.lists.specs.Removal.{sweep}
use Rattle.entries.specs.Paths.{blank, under, with_identity, candidate}
use Rattle.notes.specs.Notes.{sized, group_of, larger, largest_from, largest, newest, folded}
use Rattle.lists.proofs.Bools.{split}
use Rattle.lists.proofs.Removals.{length_swept}

-- a group's size is how many entries it covers, or it is no group
abbrev Counted : List ChangedAttr → Group → Type 0
Counted l g = (g.size ≡ count (under g.by) l) ⊎ (g.size ≤ 1)

module _ (l : List ChangedAttr) where
  sized_counted : (k : Option ChangedAttr) → Counted l (sized l k)
  sized_counted (Some by) = inl refl
  sized_counted None = inr (omega arith)

  larger_counted : (a b : Group) → Counted l a → Counted l b → Counted l (larger a b)
  unfolding larger
  larger_counted a b f g = split (ltb a.size b.size) (λ t. rw (t, larger) g) (λ t. rw (t, larger) f)

  from_counted : (level : Level) (best : Group) (m : List ChangedAttr) → Counted l best → Counted l (largest_from level l best m)
  unfolding largest_from group_of
  from_counted level best [] g = g
  from_counted level best (x ∷ xs) g =
      from_counted level (larger best (group_of level l x)) xs
      (larger_counted best (group_of level l x) g (sized_counted (candidate level x)))

  -- the winner covers as many entries as it says
  pub largest_covers : (level : Level) {g : Group} → g ≡ largest level l → 1 < g.size → 1 < count (under g.by) l
  unfolding largest
  largest_covers level {g} e h =
      let w : Counted l g = rw e (from_counted level (record { by = blank; size = 1 }) l (inr (le_refl 1))) in
      ⊎_elim (λ f. omega arith) (λ f. absurd (omega arith)) w

  -- without what it covers there is room for it
  pub swept_room : (by : ChangedAttr) → length l ≤ 16 → 1 < count (under by) l → length (sweep (under by) l) + 2 ≤ 16
  swept_room by h k = omega (arith, length_swept (under by) l)

  -- and with it for the note
  pub folded_room : (by : ChangedAttr) → length l ≤ 16 → 1 < count (under by) l → length (folded by l) < 16
  unfolding folded
  folded_room by h k =
      omega (arith, swept_room by h k, length-append (sweep (under by) l) (with_identity (newest (under by) l) by ∷ []))
