-- "Counted places .. also equal admissions and resumptions less endings in the history."
-- Call by call `Counting` has it; the history adds up. It holds from every state, well kept or not, since what is refused alters nothing.
-- Assumes nothing.
use mathlib.Core.Path.{◌≡◌}
use mathlib.Core.Bool.{false}
use mathlib.Core.List.{List}
use Prim.Native.Nat.{ℕ, ◌+◌, ◌-◌, ◌≤◌}
use native.Mathlib.Omega.{arith}
use Rattle.lists.specs.Search.{some}
use Rattle.rules.specs.States.{State, fresh, counted}
use Rattle.rules.specs.Calls.{Op}
use Rattle.rules.specs.Histories.{is_new}
use Rattle.rules.specs.Machine.{run}
use Rattle.rules.specs.Counts.{admissions, resumptions, endings}
use Rattle.rules.proofs.Lives.{lives_counted}
use Rattle.rules.proofs.Counting.{run_counts}

-- Counted places and endings together are the counted places there were, the admissions and the resumptions.
pub places_add_up : (ops : List Op) (s : State) → some is_new ops ≡ false
    → counted (run ops s) + endings ops s ≡ counted s + (admissions ops s + resumptions ops s)
places_add_up ops s h = omega (arith, run_counts ops s h, lives_counted s, lives_counted (run ops s))

-- From a fresh table counted places equal admissions and resumptions less endings.
pub places_from_fresh : (c : ℕ) (ops : List Op) → some is_new ops ≡ false
    → counted (run ops (fresh c)) ≡ admissions ops (fresh c) + resumptions ops (fresh c) - endings ops (fresh c)
unfolding counted
places_from_fresh c ops h = omega (arith, places_add_up ops (fresh c) h)

-- There are never more endings than that.
pub endings_most : (c : ℕ) (ops : List Op) → some is_new ops ≡ false
    → endings ops (fresh c) ≤ admissions ops (fresh c) + resumptions ops (fresh c)
unfolding counted
endings_most c ops h = omega (arith, places_add_up ops (fresh c) h)
