-- The cases of the definitions of `specs/`, each as an equation under the test that leads to it.
-- Assumes nothing.
use mathlib.Core.Path.{◌≡◌, refl}
use mathlib.Core.Bool.{Bool, true, false, cond}
use mathlib.Core.List.{List, [], ◌∷◌, ◌++◌}
use Prim.Native.Nat.{◌≤◌, ◌<◌, max}
use borrow.Author.Tests.{lt-ltb, le-ltb}
use lib.Dec.{ltb}
use lib.ListN.{length}
use Rattle.entries.specs.declared.ChangedAttr.{ChangedAttr}
use Rattle.entries.specs.declared.Level.{Level}
use Rattle.entries.specs.declared.Level.TheVariants.{Cluster, Endpoint}
use Rattle.notes.specs.declared.Group.{Group}
use Rattle.lists.specs.Search.{some, change_first}
use Rattle.lists.specs.Removal.{sweep}
use Rattle.entries.specs.Paths.{with_identity, all_wild, blank, over, under, candidate}
use Rattle.notes.specs.Notes.{refreshed, placed, sized, group_of, larger, largest_from, largest, newest, folded, crowded, inserted, entered}

module _ (n : ChangedAttr) (l : List ChangedAttr) where
  pub placed_found : some (over n) l ≡ true → refreshed n l ≡ placed n l
  unfolding placed
  placed_found h = rw (h, placed)

  pub placed_new : some (over n) l ≡ false → l ++ (n ∷ []) ≡ placed n l
  unfolding placed
  placed_new h = rw (h, placed)

  pub entered_found : some (over n) l ≡ true → refreshed n l ≡ entered n l
  unfolding entered
  entered_found h = rw (h, entered)

  pub entered_new : some (over n) l ≡ false → inserted n (sweep (under n) l) ≡ entered n l
  unfolding entered
  entered_new h = rw (h, entered)

  pub inserted_room : length l < 16 → l ++ (n ∷ []) ≡ inserted n l
  unfolding inserted
  inserted_room h = rw (lt-ltb _ _ h, inserted)

  pub inserted_full : 16 ≤ length l → crowded n l ≡ inserted n l
  unfolding inserted
  inserted_full h = rw (le-ltb _ _ h, inserted)

  pub crowded_fine : {a : Group} → a ≡ largest Cluster l → 1 < a.size → placed n (folded a.by l) ≡ crowded n l
  unfolding crowded
  crowded_fine e h = rw (lt-ltb _ _ (rw e at h), crowded) (rw e)

  pub crowded_coarse : {a b : Group} → a ≡ largest Cluster l → b ≡ largest Endpoint l → a.size ≤ 1 → 1 < b.size
      → placed n (folded b.by l) ≡ crowded n l
  unfolding crowded
  crowded_coarse e f h k = rw (le-ltb _ _ (rw e at h), lt-ltb _ _ (rw f at k), crowded) (rw f)

  pub crowded_wild : {a b : Group} → a ≡ largest Cluster l → b ≡ largest Endpoint l → a.size ≤ 1 → b.size ≤ 1
      → all_wild n.identity ∷ [] ≡ crowded n l
  unfolding crowded
  crowded_wild e f h k = rw (le-ltb _ _ (rw e at h), le-ltb _ _ (rw f at k), crowded)

  -- ---- the pieces of a fold

  pub refreshed_is : refreshed n l ≡ change_first (over n) (with_identity n.identity) l
  unfolding refreshed
  refreshed_is = refl

  pub folded_is : folded n l ≡ sweep (under n) l ++ (with_identity (newest (under n) l) n ∷ [])
  unfolding folded
  folded_is = refl

pub newest_nil : (p : ChangedAttr → Bool) → newest p [] ≡ 0
unfolding newest
newest_nil p = refl

pub newest_cons : (p : ChangedAttr → Bool) (x : ChangedAttr) (l : List ChangedAttr)
    → newest p (x ∷ l) ≡ max (cond (p x) x.identity 0) (newest p l)
unfolding newest
newest_cons p x l = refl

module _ (level : Level) (l : List ChangedAttr) where
  pub largest_is : largest level l ≡ largest_from level l (record { by = blank; size = 1 }) l
  unfolding largest
  largest_is = refl

  pub largest_over : (best : Group) → largest_from level l best [] ≡ best
  unfolding largest_from
  largest_over best = refl

  pub largest_more : (best : Group) (x : ChangedAttr) (xs : List ChangedAttr)
      → largest_from level l best (x ∷ xs)
      ≡ largest_from level l
      (cond (ltb best.size (sized l (candidate level x)).size) (sized l (candidate level x)) best) xs
  unfolding largest_from larger group_of
  largest_more best x xs = refl
