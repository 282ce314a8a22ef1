-- Demand 2: "On every history in 01's domain each answer and the state after it equal the Rust's, proved against rules written from it".
-- The rules are Std to Calls of this folder, the machine is crate rules, and the map between their states is Likeness.
-- Assumes nothing.
use Rattle.std.specs.Prelude.{◌≡◌, Bool, true, false, List, ℕ, ltb}
use Rattle.lists.specs.Search.{some}
use Rattle.rules.specs.States.{fresh, capacity_fits}
use Rattle.rules.specs.Calls.{Op, Answer}
use Rattle.rules.specs.Numbers.{code_of}
use Rattle.rules.specs.Machine.{run, answers}
use Rattle.original.specs.Table.{new_table}
use Rattle.original.specs.Calls.{after, answered}
use Rattle.original.specs.Likeness.{original_of, state_of}

-- the call was refused by another number than 1
abbrev pub strays : Answer → Bool
strays a = ltb 1 (code_of a)

-- "histories from a fresh table in which no call was refused by another number than 1"
abbrev pub InDomain : ℕ → List Op → Type 0
InDomain capacity ops = some strays (answers ops (fresh capacity)) ≡ false

-- "each answer and the state after it": what begins a history of the domain is one, so that this is the state after each call
abbrev pub SameAsOriginal : ℕ → List Op → Type 0
SameAsOriginal capacity ops =
    (answered ops (new_table capacity) ≡ answers ops (fresh capacity))
    × (after ops (new_table capacity) ≡ original_of (run ops (fresh capacity)))

-- "On every history", "a capacity from 1 to 80"
abbrev pub Demand2 : Type 0
Demand2 = (capacity : ℕ) → capacity_fits capacity ≡ true → (ops : List Op) → InDomain capacity ops → SameAsOriginal capacity ops

-- the map between the states leaves nothing out, on every history from a fresh table
abbrev pub NothingLeftOut : Type 0
NothingLeftOut =
    (capacity : ℕ) → capacity_fits capacity ≡ true → (ops : List Op)
    → state_of (original_of (run ops (fresh capacity))) ≡ run ops (fresh capacity)
