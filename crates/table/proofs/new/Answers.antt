-- `new` meets its contract: with no counts, the test is whether the capacity is one.
-- Assumes nothing.
use Rattle.std.proofs.Common.{◌≡◌, ℕ, ◌+◌, ◌&&◌, leb, sym, ◌∙◌, arith, le-leb}
use mathlib.Core.Bool.{and-true}
use Rattle.rules.specs.States.{capacity_fits}
use Rattle.places.specs.Calls.{new_table}
use Rattle.table.proofs.new.Goals as goal

alone : (capacity : ℕ) → (capacity_fits capacity && leb (0 + 0) capacity) ≡ capacity_fits capacity
alone capacity = rw (le-leb (0 + 0) capacity (omega arith)) (and-true (capacity_fits capacity))

pub returns-then-within : goal.returns-then-within
unfolding new_table
returns-then-within c =
    rw (sym (alone c.args.capacity) ∙ sym c.within.ensures ∙ c.if-within.true, ← c.fresh.ensures, new_table)

pub returns-else-within : goal.returns-else-within
unfolding new_table
returns-else-within c =
    rw (sym (alone c.args.capacity) ∙ sym c.within.ensures ∙ c.if-within.false, ← c.fresh-else-within.ensures, new_table)
