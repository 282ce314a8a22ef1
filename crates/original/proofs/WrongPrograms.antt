-- Demand 2 shuts out the wrong programs that document 01 names: on a history of the domain each answers otherwise than the original. The
-- machine meets it.
-- Assumes nothing.
use mathlib.Core.Path.{◌≡◌, refl, sym, ap, ◌∙◌}
use mathlib.Core.Bool.{true, false}
use mathlib.Core.List.{List, [], ◌∷◌}
use Prim.Native.Nat.{ℕ}
use native.Mathlib.Omega.{arith}
use Rattle.refusal.specs.declared.Refusal.{Refusal}
use Rattle.rules.specs.States.{State, fresh}
use Rattle.rules.specs.Calls as call
use Rattle.rules.specs.Calls.{Op, Answer}
use Rattle.rules.specs.Machine.{answers}
use Rattle.rules.proofs.Acts.{answers_none, answers_more}
use Rattle.rules.proofs.Computing.{all_rules}
use Rattle.instants.specs.Instants.{instant}
use Rattle.original.specs.Programs.{told, Meets, the_machine, refuses_everything, one_answer, made_up_count, does_nothing, first_round_only, yes_to_every_attribute}
use Rattle.original.proofs.Computing.{original_rules}
use Rattle.original.proofs.Outside.{request, at}
use Rattle.original.proofs.SameHistories.{demand_2}

-- ---- the right one

machine_told : (ops : List Op) (s : State) → told the_machine ops s ≡ answers ops s
unfolding told
machine_told [] s = sym (answers_none s)
machine_told (op ∷ ops) s = ap (λ l. (the_machine op s).0 ∷ l) (machine_told ops (the_machine op s).1) ∙ sym (answers_more op ops s)

pub machine_meets : Meets fresh the_machine
machine_meets capacity able ops h = machine_told ops (fresh capacity) ∙ sym (demand_2 capacity able ops h).0

-- ---- the wrong ones

-- a note is heard, and a purge is done
abbrev note_and_purge : List Op
note_and_purge = call.note 3 6 0 ∷ call.purge ∷ []

pub refusing_everything_shut_out : (why : Refusal) → Meets fresh (refuses_everything why) → ⊥
unfolding told original_rules all_rules
refusing_everything_shut_out why m =
    let e : call.refused why ∷ call.refused why ∷ [] ≡ call.heard 1 true ∷ call.done ∷ [] = m 80 refl note_and_purge refl in
    let z : ◌≡◌ {A = ℕ} 0 1 = cc in
    omega arith

pub constant_answer_shut_out : (a : Answer) → Meets fresh (one_answer a) → ⊥
unfolding told original_rules all_rules
constant_answer_shut_out a m =
    let e : a ∷ a ∷ [] ≡ call.heard 1 true ∷ call.done ∷ [] = m 80 refl note_and_purge refl in
    let z : ◌≡◌ {A = ℕ} 0 1 = cc in
    omega arith

-- a round with nobody stored, and one with somebody who waits for the first report
abbrev two_rounds : List Op
two_rounds = call.round (at 1000) (0 ∷ []) (9 ∷ []) ∷ call.resume 1 request 0 ∷ call.round (at 1000) (0 ∷ []) (9 ∷ []) ∷ []

pub made_up_count_shut_out : (n : ℕ) → Meets fresh (made_up_count n) → ⊥
unfolding told original_rules all_rules
made_up_count_shut_out n m =
    let e : call.rounded n true (9 ∷ []) ∷ call.number 1 ∷ call.rounded n true (1 ∷ []) ∷ []
    ≡ call.rounded 0 true (9 ∷ []) ∷ call.number 1 ∷ call.rounded 1 true (1 ∷ []) ∷ [] = m 80 refl two_rounds refl in
    let z : ◌≡◌ {A = ℕ} 0 1 = cc in
    omega arith

-- somebody is added, and the first report is sent
abbrev add_and_complete : List Op
add_and_complete = call.add request 0 (instant 1000) ∷ call.complete 1 0 ∷ []

pub doing_nothing_shut_out : Meets fresh does_nothing → ⊥
unfolding told original_rules all_rules
doing_nothing_shut_out m =
    let e : told does_nothing add_and_complete (fresh 80) ≡ call.number 1 ∷ call.completed true false ∷ [] = m 80 refl add_and_complete refl in
    let z : ◌≡◌ {A = ℕ} 0 1 = cc in
    omega arith

pub first_round_only_shut_out : Meets (λ capacity. (fresh capacity, false)) first_round_only → ⊥
unfolding told original_rules all_rules
first_round_only_shut_out m =
    let e : told first_round_only two_rounds (fresh 80, false)
    ≡ call.rounded 0 true (9 ∷ []) ∷ call.number 1 ∷ call.rounded 1 true (1 ∷ []) ∷ [] = m 80 refl two_rounds refl in
    let z : ◌≡◌ {A = ℕ} 0 1 = cc in
    omega arith

-- somebody who has reported once is asked about an attribute that has not changed
abbrev unchanged : List Op
unchanged =
    call.add request 0 (instant 1000)
    ∷ call.complete 1 0
    ∷ call.note 3 6 0
    ∷ call.report (at 2000)
    ∷ call.attribute 1 3 6 1
    ∷ []

pub yes_to_every_attribute_shut_out : Meets fresh yes_to_every_attribute → ⊥
unfolding told original_rules all_rules
yes_to_every_attribute_shut_out m =
    let e : told yes_to_every_attribute unchanged (fresh 80)
    ≡ call.number 1 ∷ call.completed true false ∷ call.heard 1 true ∷ call.handed 1 5 ∷ call.yes_no false ∷ [] = m 80 refl unchanged refl in
    let z : ◌≡◌ {A = ℕ} 0 1 = cc in
    omega arith
