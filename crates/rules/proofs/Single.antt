-- Why a contract that is an equation leaves no choice: no second answer satisfies it.
-- Assumes nothing.
use mathlib.Core.Path.{◌≡◌, sym, ◌∙◌}

-- two answers that both equal the definition are one
pub no_second_answer : {A : Type 0} (definition answer other : A) → answer ≡ definition → other ≡ definition → answer ≡ other
no_second_answer definition answer other e f = e ∙ sym f
