-- A new table is the machine's: fresh, or refused for its capacity alone, and then the one that was there stays.
-- Assumes nothing.
use mathlib.Core.Path.{◌≡◌, sym, ap, ◌∙◌}
use mathlib.Core.Bool.{true, false}
use mathlib.Core.List.{[]}
use Prim.Native.Nat.{ℕ, ◌-◌}
use native.Mathlib.Omega.{arith}
use lib.ListN.{replicate, length-replicate, drop_of_length-le}
use Rattle.places.specs.declared.Table.{Table}
use Rattle.subscription.specs.Life.{blank}
use Rattle.rules.specs.States.{capacity_fits, fresh}
use Rattle.rules.specs.Machine.{outcome, with_ones, step}
use Rattle.places.specs.Views.{fresh_table, view, kept}
use Rattle.places.specs.Calls.{new_table}
use Rattle.places.specs.Agreement.{new_says, new_leaves}
use Rattle.rules.specs.Calls as call
use Rattle.lists.proofs.Bools.{split}
use Rattle.rules.proofs.Clauses.{well_kept_is}
use Rattle.rules.proofs.Acts.{new_made, new_refused}

-- a fresh table stands for a fresh state
pub fresh_view : (capacity : ℕ) → view (fresh_table capacity) ≡ fresh capacity
fresh_view capacity =
    ap (λ l. with_ones (fresh capacity) [] l) (drop_of_length-le (replicate 80 blank) {i = 80 - 0} (omega (arith, length-replicate 80 blank)))

-- a capacity that is one makes a fresh table
pub new_makes : (capacity : ℕ) → capacity_fits capacity ≡ true → (new_table capacity).table ≡ fresh_table capacity
unfolding new_table
new_makes capacity h = rw (h, new_table)

-- and any other makes one that every call refuses with 7
no_capacity : kept (fresh_table 0) ≡ false
unfolding kept
no_capacity = well_kept_is (view (fresh_table 0))

pub refused_unkept : (capacity : ℕ) → capacity_fits capacity ≡ false → kept (new_table capacity).table ≡ false
unfolding new_table
refused_unkept capacity h = rw (h, new_table) no_capacity

pub new_agrees : (t : Table) (capacity : ℕ) → new_says t (new_table capacity) ≡ step (call.new capacity) (view t)
unfolding new_table
new_agrees t capacity =
    split (capacity_fits capacity)
    (λ u. rw (u, new_table) (ap (outcome (call.number capacity)) (fresh_view capacity) ∙ sym (new_made capacity (view t) u)))
    (λ u. rw (u, new_table) (sym (new_refused capacity (view t) u)))

-- what holds of a fresh table and of the one that was there holds of the one that is there then
pub new_lasts : (P : Table → Type 0) → ((c : ℕ) → P (fresh_table c)) → (t : Table) (capacity : ℕ) → P t
    → P (new_leaves (new_table capacity).answer t (new_table capacity).table)
unfolding new_table
new_lasts P begins t capacity h = split (capacity_fits capacity) (λ u. rw (u, new_table) (begins capacity)) (λ u. rw (u, new_table) h)
