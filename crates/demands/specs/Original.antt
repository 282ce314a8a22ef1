-- Demand 2 for the code: "On every history in 01's domain each answer and the state after it equal the Rust's". The code's history goes by
-- the definitions that the contracts of table and round name; the Rust is crate original, and its table for the code's is `original_of` of
-- the state that the code's table stands for.
-- Assumes nothing.
use Rattle.std.specs.Prelude.{◌≡◌, true, false, List, ℕ}
use Rattle.lists.specs.Search.{some}
use Rattle.rules.specs.States.{capacity_fits}
use Rattle.rules.specs.Calls.{Op}
use Rattle.original.specs.Table.{new_table}
use Rattle.original.specs.Calls.{after, answered}
use Rattle.original.specs.Likeness.{original_of}
use Rattle.original.specs.Demand.{strays}
use Rattle.places.specs.Views.{view, fresh_table}
use Rattle.demands.specs.Histories.{table_after, replies}

-- "histories from a fresh table in which no call was refused by another number than 1"
abbrev pub CodeInDomain : ℕ → List Op → Type 0
CodeInDomain capacity ops = some strays (replies ops (fresh_table capacity)) ≡ false

-- "each answer and the state after it": what begins a history of the domain is one, so that this is the state after each call
abbrev pub CodeSameAsOriginal : ℕ → List Op → Type 0
CodeSameAsOriginal capacity ops =
    (replies ops (fresh_table capacity) ≡ answered ops (new_table capacity))
    × (original_of (view (table_after ops (fresh_table capacity))) ≡ after ops (new_table capacity))

-- "On every history", "a capacity from 1 to 80"
abbrev pub CodeDemand2 : Type 0
CodeDemand2 = (capacity : ℕ) → capacity_fits capacity ≡ true → (ops : List Op) → CodeInDomain capacity ops → CodeSameAsOriginal capacity ops

-- the code keeps nothing that the Rust does not: from fresh tables, what is the same in the Rust's table is the same in the code's
abbrev pub OriginalTellsTable : Type 0
OriginalTellsTable =
    (c d : ℕ) → capacity_fits c ≡ true → capacity_fits d ≡ true → (ops others : List Op)
    → original_of (view (table_after ops (fresh_table c))) ≡ original_of (view (table_after others (fresh_table d)))
    → table_after ops (fresh_table c) ≡ table_after others (fresh_table d)
