-- What demand 3 says of the wrong programs that document 01 names: it shuts out doing nothing, and working in the first round only; yes to
-- every attribute meets its first half. The machine meets both halves.
-- Assumes nothing.
use Rattle.std.specs.Prelude.{None}
use mathlib.Core.Path.{◌≡◌, refl, sym, ap, ◌∙◌}
use mathlib.Core.Bool.{true, false}
use mathlib.Core.List.{List, [], ◌∷◌, map}
use Prim.Native.Nat.{ℕ, ◌+◌, ◌≤◌}
use native.Mathlib.Omega.{arith}
use borrow.Author.Tests.{eqb-true, not-false}
use lib.ListN.{length, take, drop}
use lib.Seq.{sets, sets-eq, take-append_seam}
use Rattle.subscription.specs.declared.Settings.{Settings}
use Rattle.instants.specs.Instants.{instant}
use Rattle.lists.specs.Search.{some}
use Rattle.lists.proofs.Bools.{clash, or_neither}
use Rattle.lists.proofs.Counts.{count_nil}
use Rattle.rules.specs.States.{State, fresh}
use Rattle.rules.specs.Calls as call
use Rattle.rules.specs.Calls.{Op}
use Rattle.rules.specs.Rounds.{calls_of, calls_for, plainly}
use Rattle.rules.specs.Machine.{bad_outcome, first_of, refusal, step, run, round_from}
use Rattle.rules.proofs.Acts.{run_none, run_more, round_ends, act_round}
use Rattle.rules.proofs.Clauses.{round_objects}
use Rattle.rules.proofs.Computing.{all_rules}
use Rattle.rules.proofs.Objections.{unobjected, no_objection}
use Rattle.rules.proofs.Refusals.{unrefused_acts}
use Rattle.rules.proofs.Rounds.{round_most}
use Rattle.original.specs.Programs.{reached, the_machine, does_nothing, first_round_only, yes_to_every_attribute}
use Rattle.heard.specs.Hearing.{is_note, unheard_by}
use Rattle.heard.specs.Playing.{bare, notes_during, play}
use Rattle.heard.specs.Demand.{noted}
use Rattle.heard.proofs.Unheard.{unheard_stays_yes}
use Rattle.heard.proofs.Rounds.{round_hears, round_call_plays}
use Rattle.heard.proofs.Witness.{request, at}
use Rattle.demands.specs.Programs.{TellsOfNotes, RoundsReach}

-- ---- the machine

machine_reached : (ops : List Op) (s : State) → reached the_machine ops s ≡ run ops s
unfolding reached
machine_reached [] s = sym (run_none s)
machine_reached (op ∷ ops) s = machine_reached ops (step op s).state ∙ sym (run_more op ops s)

since_reached : (capacity : ℕ) (before since : List Op) (endpoint cluster attr : ℕ)
    → reached the_machine since (the_machine (call.note endpoint cluster attr) (reached the_machine before (fresh capacity))).1
    ≡ run since (noted capacity before endpoint cluster attr)
since_reached capacity before since endpoint cluster attr =
    machine_reached since _
    ∙ ap (λ s. run since (step (call.note endpoint cluster attr) s).state) (machine_reached before (fresh capacity))

pub machine_tells : TellsOfNotes fresh the_machine
machine_tells capacity before since endpoint cluster attr i e c a able few live quiet under there =
    ap (λ s. (step (call.attribute i e c a) s).answer) (since_reached capacity before since endpoint cluster attr)
    ∙ unheard_stays_yes capacity before since endpoint cluster attr i e c a able few live quiet under there

-- a round call has no notes in between
no_notes : (events : ℕ) (os : List ℕ) → notes_during (map (bare events) os) ≡ 0
no_notes events [] = refl
no_notes events (o ∷ os) = omega (arith, count_nil is_note, no_notes events os)

-- what is written at the front is what was handed out, since there is a place for each
written_front : (ids out : List ℕ) → length out ≤ length ids → take (length out) (sets ids 0 out) ≡ out
written_front ids out h =
    ap (take (length out)) (sets-eq out ids 0 (omega arith)) ∙ take-append_seam out (drop (0 + length out) ids)

-- a round that is not refused makes no more hand-outs than there are ids
room : (at : Settings) (os ids : List ℕ) (s : State) → refusal (call.round at os ids) s ≡ None
    → length (play at (map (bare at.events) os) s).out ≤ length ids
room at os ids s unrefused =
    let a = unobjected _ _ _ (ap first_of (sym (round_objects s at os ids)) ∙ no_objection (call.round at os ids) s unrefused) in
    let same = eqb-true (length os) (length ids) (not-false _ (or_neither (some bad_outcome os) _ a.0).1) in
    let e : call.rounded (length (play at (map (bare at.events) os) s).out) (play at (map (bare at.events) os) s).silent
    (sets ids 0 (play at (map (bare at.events) os) s).out)
    ≡ (round_ends at (round_from at os (record { hand_outs = 0; ids = ids; state = s }))).answer =
    sym (ap (λ r. r.answer) (round_call_plays at os ids s unrefused))
    ∙ ap (λ r. r.answer) (unrefused_acts (call.round at os ids) s unrefused ∙ act_round s at os ids) in
    let counts : length (play at (map (bare at.events) os) s).out
    ≡ (round_from at os (record { hand_outs = 0; ids = ids; state = s })).hand_outs = cc in
    omega (arith, round_most at os (record { hand_outs = 0; ids = ids; state = s }))

pub machine_reaches : RoundsReach fresh the_machine
machine_reaches capacity before since endpoint cluster attr i at os ids n written able few live quiet begins plain waits unrefused told =
    let s = run since (noted capacity before endpoint cluster attr) in
    let out = (play at (map (bare at.events) os) s).out in
    let e : call.rounded (length out) (play at (map (bare at.events) os) s).silent (sets ids 0 out) ≡ call.rounded n true written =
    sym (ap (λ r. r.answer) (round_call_plays at os ids s unrefused))
    ∙ ap (λ u. (step (call.round at os ids) u).answer) (sym (since_reached capacity before since endpoint cluster attr))
    ∙ told in
    let counts : n ≡ length out = cc in
    let silent : (play at (map (bare at.events) os) s).silent ≡ true = cc in
    let writes : written ≡ sets ids 0 out = cc in
    rw (counts, writes, written_front ids out (room at os ids s unrefused))
    (round_hears capacity before since endpoint cluster attr i at (map (bare at.events) os) able
    (omega (arith, few, no_notes at.events os)) live quiet begins plain waits silent)

-- ---- the wrong ones

-- Yes to every attribute meets the first half: it asks for no other answer.
pub yes_to_every_attribute_tells : TellsOfNotes fresh yes_to_every_attribute
yes_to_every_attribute_tells capacity before since endpoint cluster attr i e c a able few live quiet under there = refl

-- Doing nothing, it is not so: somebody is stored, a note is made, and the report is asked.
pub doing_nothing_tells_nobody : TellsOfNotes fresh does_nothing → ⊥
unfolding all_rules calls_of calls_for plainly unheard_by reached
doing_nothing_tells_nobody m =
    let e : (does_nothing (call.attribute 1 3 6 0) (fresh 80)).0 ≡ call.yes_no true =
    m 80 (call.add request 0 (instant 1000) ∷ call.complete 1 0 ∷ []) (call.report (at 2000) ∷ []) 3 6 0 1 3 6 0 refl (omega arith) refl
    refl refl refl in
    let z : ◌≡◌ {A = ℕ} 0 1 = cc in
    omega arith

-- Working in the first round only, a program does not reach in the second whom it reached in the first.
pub first_round_only_reaches_nobody : RoundsReach (λ capacity. (fresh capacity, false)) first_round_only → ⊥
unfolding all_rules calls_of calls_for plainly unheard_by reached
first_round_only_reaches_nobody m =
    clash
    (m 80 (call.resume 1 request 0 ∷ call.round (at 1000) (0 ∷ []) (9 ∷ []) ∷ []) [] 3 6 0 1 (at 3000) (0 ∷ []) (9 ∷ []) 0 (1 ∷ []) refl
    (omega arith) refl refl (record { early = omega arith; shut = refl; apart = refl }) refl refl refl refl)
    refl
