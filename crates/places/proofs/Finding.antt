-- Where the place that a scan finds is one of those it looked at: exactly where there is one.
-- Assumes nothing.
use mathlib.Core.Path.{◌≡◌, sym, ap, ◌∙◌}
use mathlib.Core.Bool.{Bool}
use Prim.Native.Nat.{ℕ, ◌≤◌}
use native.Mathlib.Omega.{arith}
use lib.Dec.{ltb}
use lib.ListN.{length}
use lib.Seq.{length-take-le}
use Rattle.subscription.specs.declared.Subscription.{Subscription}
use Rattle.places.specs.declared.Table.{Table}
use Rattle.lists.specs.Search.{first, some}
use Rattle.places.specs.Views.{stored_of}
use Rattle.lists.proofs.Searches.{first_some}

-- the place that a scan of the stored ones finds is one of theirs exactly where there is one
pub stored_there : (t : Table) → length t.places ≡ 80 → t.stored ≤ 80 → (p : Subscription → Bool) {i : ℕ}
    → i ≡ first p (stored_of t) → ltb i t.stored ≡ some p (stored_of t)
stored_there t long fits p e =
    ap (λ n. ltb n t.stored) e
    ∙ ap (λ n. ltb (first p (stored_of t)) n) (sym (length-take-le t.stored t.places (omega arith)))
    ∙ first_some p (stored_of t)
