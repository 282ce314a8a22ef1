-- What floors above may use of the array, and of the words of `specs/Reach`.
-- Assumes nothing.
use mathlib.Core.Path.{◌≡◌, refl}
use mathlib.Core.Bool.{true}
use mathlib.Core.List.{List, []}
use Prim.Native.Nat.{ℕ, ◌≤◌}
use borrow.Author.Tests.{le-leb, leb-true, eq-eqb}
use lib.Dec.{leb}
use lib.ListN.{length, replicate}
use lib.Seq.{take-append_seam}
use Rattle.lists.proofs.Bools.{and_both, and_true}
use Rattle.entries.specs.declared.ChangedAttr.{ChangedAttr}
use Rattle.entries.specs.Paths.{blank, covers}
use Rattle.notes.specs.Places.{listed, held_as}
use Rattle.notes.specs.Reach.{carries, reaches}

-- the entries of an array that holds l are l
pub list_held : (l : List ChangedAttr) → listed (held_as l) ≡ l
unfolding held_as
list_held l = take-append_seam l _

pub length_held : (l : List ChangedAttr) → (held_as l).len ≡ length l
unfolding held_as
length_held l = refl

-- without entries every place is blank
pub none_held : held_as [] ≡ record { entries = replicate 16 blank; len = 0 }
unfolding held_as
none_held = refl

-- an entry carries or reaches a change by covering it with its identity, or with one that is no earlier
module _ (q x : ChangedAttr) (k : ℕ) (over : covers x q ≡ true) where
  pub carries_by : x.identity ≡ k → carries q k x ≡ true
  unfolding carries
  carries_by e = and_true over (eq-eqb x.identity k e)

  pub reaches_by : k ≤ x.identity → reaches q k x ≡ true
  unfolding reaches
  reaches_by late = and_true over (le-leb k x.identity late)

module _ (q x : ChangedAttr) (k : ℕ) (r : reaches q k x ≡ true) where
  pub reaches_covers : covers x q ≡ true
  unfolding reaches
  reaches_covers = (and_both (covers x q) (leb k x.identity) r).0

  pub reaches_late : k ≤ x.identity
  unfolding reaches
  reaches_late = leb-true k x.identity (and_both (covers x q) (leb k x.identity) r).1
