-- A fresh table is well kept and every call keeps it so: number 7 never comes from a fresh table.
-- A step refuses, and then nothing changes, or acts, and then `Keeping` and `Steps` have the case.
-- Assumes nothing.
use mathlib.Core.Path.{◌≡◌, ◌∙◌}
use mathlib.Core.Bool.{true, false, and-false}
use mathlib.Core.List.{List, [], ◌∷◌}
use Prim.Native.Nat.{ℕ}
use Rattle.lists.specs.Search.{some}
use Rattle.lists.proofs.Counts.{some_nil, some_cons}
use Rattle.rules.specs.States.{State, fresh, capacity_fits, well_kept}
use Rattle.rules.specs.Calls.{Op}
use Rattle.rules.specs.Histories.{refused_by}
use Rattle.rules.specs.Machine.{takes_state, step, run, answers}
use Rattle.rules.proofs.Refusals.{seven_exactly, same_refusal}
use Rattle.rules.proofs.Sound.{kept_sound, sound_kept}
use Rattle.rules.proofs.Steps.{fresh_sound, step_sound}

-- A fresh table is well kept.
pub fresh_well_kept : (c : ℕ) → capacity_fits c ≡ true → well_kept (fresh c) ≡ true
fresh_well_kept c h = sound_kept (fresh c) (fresh_sound c h)

-- Every call keeps a well-kept state so.
pub step_well_kept : (op : Op) (s : State) → well_kept s ≡ true → well_kept (step op s).state ≡ true
step_well_kept op s h = sound_kept (step op s).state (step_sound op s (kept_sound s h))

-- So does every history.
pub run_well_kept : (ops : List Op) (s : State) → well_kept s ≡ true → well_kept (run ops s) ≡ true
unfolding run
run_well_kept [] s h = h
run_well_kept (op ∷ ops) s h = run_well_kept ops (step op s).state (step_well_kept op s h)

-- No answer of it is number 7.
pub run_never_seven : (ops : List Op) (s : State) → well_kept s ≡ true → some (refused_by 7) (answers ops s) ≡ false
unfolding answers
run_never_seven [] s h = some_nil (refused_by 7)
run_never_seven (op ∷ ops) s h =
    some_cons (refused_by 7) (step op s).answer (answers ops (step op s).state)
    ∙ rw (same_refusal op s, seven_exactly op s, h, and-false (takes_state op))
    (run_never_seven ops (step op s).state (step_well_kept op s h))

-- Over every history from a fresh table the state is well kept.
pub always_well_kept : (c : ℕ) (ops : List Op) → capacity_fits c ≡ true → well_kept (run ops (fresh c)) ≡ true
always_well_kept c ops h = run_well_kept ops (fresh c) (fresh_well_kept c h)

-- And no answer is number 7.
pub never_seven : (c : ℕ) (ops : List Op) → capacity_fits c ≡ true → some (refused_by 7) (answers ops (fresh c)) ≡ false
never_seven c ops h = run_never_seven ops (fresh c) (fresh_well_kept c h)
