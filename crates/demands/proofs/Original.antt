-- Demand 2 for the code: its histories go as the machine's, and the machine's as the original's; and its table is told by the original's.
-- Assumes nothing.
use mathlib.Core.Path.{◌≡◌, sym, ap, ◌∙◌}
use mathlib.Core.Bool.{true}
use mathlib.Core.List.{List}
use Prim.Native.Nat.{ℕ}
use Rattle.lists.specs.Search.{some}
use Rattle.original.specs.Demand.{strays}
use Rattle.rules.specs.States.{capacity_fits}
use Rattle.rules.specs.Calls.{Op}
use Rattle.places.specs.Views.{view, fresh_table}
use Rattle.original.specs.Likeness.{original_of, state_of}
use Rattle.original.proofs.SameHistories.{demand_2}
use Rattle.original.proofs.Back.{nothing_left_out}
use Rattle.demands.specs.Histories.{table_after}
use Rattle.demands.specs.Original.{CodeDemand2, OriginalTellsTable}
use Rattle.demands.proofs.Histories.{code_answers, code_states, state_tells_table}

pub code_demand_2 : CodeDemand2
code_demand_2 capacity able ops h =
    let same = demand_2 capacity able ops (ap (some strays) (sym (code_answers capacity able ops)) ∙ h) in
    (code_answers capacity able ops ∙ sym same.0, ap original_of (code_states capacity able ops) ∙ sym same.1)

-- the state that the table stands for, told by the original's table
told_back : (c : ℕ) → capacity_fits c ≡ true → (ops : List Op)
    → state_of (original_of (view (table_after ops (fresh_table c)))) ≡ view (table_after ops (fresh_table c))
told_back c able ops =
    let same = code_states c able ops in ap (λ s. state_of (original_of s)) same ∙ nothing_left_out c able ops ∙ sym same

pub original_tells_table : OriginalTellsTable
original_tells_table c d able also ops others e =
    state_tells_table c d ops others (sym (told_back c able ops) ∙ ap state_of e ∙ told_back d also others)
