-- Demand 2: on every history of the domain the original and the machine go alike. A call acts in both, or both refuse it for a full table.
-- Assumes nothing.
use Rattle.std.specs.Prelude.{Option, Some, None}
use mathlib.Core.Path.{◌≡◌, refl, sym, ap, ◌∙◌}
use mathlib.Core.Bool.{Bool, true, false}
use mathlib.Core.List.{List, [], ◌∷◌}
use Prim.Native.Nat.{ℕ}
use native.Mathlib.Omega.{arith}
use Rattle.refusal.specs.declared.Refusal.{Refusal}
use Rattle.refusal.specs.declared.Refusal.TheVariants.{Full, NotOpen, ReportOpen, IdLive, BadArgument, PrimingOpen, NotWellKept, BadLine}
use Rattle.lists.specs.Search.{some}
use Rattle.lists.proofs.Bools.{clash, or_neither}
use Rattle.lists.proofs.Counts.{count_nil, some_cons}
use Rattle.rules.specs.States.{State, fresh}
use Rattle.rules.specs.Calls as call
use Rattle.rules.specs.Calls.{Op}
use Rattle.rules.specs.Histories.{numbered, late_retry}
use Rattle.rules.specs.Machine.{Objection, first_of, objections, refusal, act, step, run, answers}
use Rattle.rules.proofs.Acts.{run_none, run_more, answers_none, answers_more}
use Rattle.rules.proofs.Clauses.{first_holds, first_passed, first_none, refusal_kept, new_objects, add_objects, resume_objects, note_objects, report_objects, complete_objects, remove_objects, clear_objects, purge_objects, attribute_objects, send_objects, instant_objects, any_objects, alive_objects, statistics_objects, has_objects, round_objects}
use Rattle.rules.proofs.Instants.{retries_last}
use Rattle.rules.proofs.Lives.{lives}
use Rattle.rules.proofs.Objections.{of_number, no_number}
use Rattle.rules.proofs.Refusals.{refused_alters_nothing, unrefused_acts}
use Rattle.rules.proofs.Sound.{sound_kept}
use Rattle.rules.proofs.Steps.{fresh_sound, step_sound}
use Rattle.original.specs.Calls.{reply, call_on, after, answered}
use Rattle.original.specs.Likeness.{original_of}
use Rattle.original.specs.Demand.{strays, Demand2}
use Rattle.original.proofs.Alike.{reply_of, Fit}
use Rattle.original.proofs.LogLasts.{Narrow, narrow_lasts, log_lasts}
use Rattle.original.proofs.SameAdmission.{fresh_same, new_same, add_same, add_full, resume_same, resume_full, note_same}
use Rattle.original.proofs.SameReports.{report_same}
use Rattle.original.proofs.SameCompletion.{complete_same}
use Rattle.original.proofs.SameClearing.{remove_same, clear_same, purge_same}
use Rattle.original.proofs.SameQuestions.{attribute_same, send_same, any_reportable_same, alive_same, statistics_same, has_same, next_instant_same}
use Rattle.original.proofs.SameRounds.{round_same}

-- ---- a call that is not refused

act_same : (op : Op) (s : State) → Fit s → lives late_retry s ≡ 0 → first_of (objections op s) ≡ None
    → call_on op (original_of s) ≡ reply_of (act op s)
act_same (call.new capacity) s fit early e = new_same s fit capacity
act_same (call.add request events now) s fit early e = add_same s fit request events now e
act_same (call.resume id request events) s fit early e = resume_same s fit request events id e
act_same (call.note endpoint cluster attr) s fit early e = note_same s fit endpoint cluster attr
act_same (call.report at) s fit early e = report_same at s fit
act_same (call.complete id o) s fit early e = complete_same s fit.sound id o e
act_same (call.remove choice reason) s fit early e = remove_same s fit.sound choice reason e
act_same call.clear s fit early e = clear_same s fit.sound e
act_same call.purge s fit early e = purge_same s fit.sound
act_same (call.attribute id endpoint cluster attr) s fit early e = attribute_same s id endpoint cluster attr e
act_same (call.send_if_empty id kind) s fit early e = send_same s id kind e
act_same (call.next_instant events kind) s fit early e = next_instant_same s early events kind
act_same (call.any_reportable now events kind) s fit early e = any_reportable_same s now events kind
act_same call.next_keep_alive s fit early e = alive_same s
act_same (call.statistics fabric) s fit early e = statistics_same s fabric
act_same (call.has_subscription fabric peer) s fit early e = has_same s fabric peer
act_same (call.round at os ids) s fit early e = round_same s fit at os ids e

-- ---- a call that is refused with 1

-- where no objection of a call has the number 1, it is not refused so
never_full : {l : List Objection} (k : List Objection) → l ≡ k → of_number 1 k ≡ false → first_of l ≡ Some Full → ⊥
never_full k e h f = clash (ap (λ l. numbered 1 (first_of l)) (sym e) ∙ ap (numbered 1) f) (no_number 1 k h)

-- of an admission the first objection is the fabric, the second the full table
full_second : (a b c : Bool) → first_of ((a, BadArgument) ∷ (b, Full) ∷ (c, IdLive) ∷ []) ≡ Some Full → b ≡ true
full_second a true c e = refl
full_second true false c e =
    let f = first_holds {b = true} BadArgument ((false, Full) ∷ (c, IdLive) ∷ []) refl in
    let z : ◌≡◌ {A = ℕ} 0 1 = cc in
    absurd (omega arith)
full_second false false true e =
    let f = first_passed {b = false} BadArgument ((false, Full) ∷ (true, IdLive) ∷ []) refl
    ∙ first_passed {b = false} Full ((true, IdLive) ∷ []) refl
    ∙ first_holds {b = true} IdLive [] refl in
    let z : ◌≡◌ {A = ℕ} 0 1 = cc in absurd (omega arith)
full_second false false false e =
    let f = first_passed {b = false} BadArgument ((false, Full) ∷ (false, IdLive) ∷ []) refl
    ∙ first_passed {b = false} Full ((false, IdLive) ∷ []) refl
    ∙ first_passed {b = false} IdLive [] refl
    ∙ first_none in
    let z : ◌≡◌ {A = ℕ} 0 1 = cc in absurd (omega arith)

full_same : (op : Op) (s : State) → Fit s → first_of (objections op s) ≡ Some Full
    → call_on op (original_of s) ≡ reply (call.refused Full) (original_of s)
full_same (call.add request events now) s fit e =
    add_full s fit request events now (full_second _ _ _ (ap first_of (sym (add_objects s request events now)) ∙ e))
full_same (call.resume id request events) s fit e =
    resume_full s fit request events id (full_second _ _ _ (ap first_of (sym (resume_objects s id request events)) ∙ e))
full_same (call.new capacity) s fit e = absurd (never_full _ (new_objects s capacity) refl e)
full_same (call.note endpoint cluster attr) s fit e = absurd (never_full _ (note_objects s endpoint cluster attr) refl e)
full_same (call.report at) s fit e = absurd (never_full _ (report_objects s at) refl e)
full_same (call.complete id o) s fit e = absurd (never_full _ (complete_objects s id o) refl e)
full_same (call.remove choice reason) s fit e = absurd (never_full _ (remove_objects s choice reason) refl e)
full_same call.clear s fit e = absurd (never_full _ (clear_objects s) refl e)
full_same call.purge s fit e = absurd (never_full _ (purge_objects s) refl e)
full_same (call.attribute id endpoint cluster attr) s fit e = absurd (never_full _ (attribute_objects s id endpoint cluster attr) refl e)
full_same (call.send_if_empty id kind) s fit e = absurd (never_full _ (send_objects s id kind) refl e)
full_same (call.next_instant events kind) s fit e = absurd (never_full _ (instant_objects s events kind) refl e)
full_same (call.any_reportable now events kind) s fit e = absurd (never_full _ (any_objects s now events kind) refl e)
full_same call.next_keep_alive s fit e = absurd (never_full _ (alive_objects s) refl e)
full_same (call.statistics fabric) s fit e = absurd (never_full _ (statistics_objects s fabric) refl e)
full_same (call.has_subscription fabric peer) s fit e = absurd (never_full _ (has_objects s fabric peer) refl e)
full_same (call.round at os ids) s fit e = absurd (never_full _ (round_objects s at os ids) refl e)

-- ---- a call of the domain

pub step_same : (op : Op) (s : State) → Fit s → lives late_retry s ≡ 0 → strays (step op s).answer ≡ false
    → call_on op (original_of s) ≡ reply_of (step op s)
step_same op s fit early h = go (refusal op s) refl
  where
    -- a refusal is the first objection
    objected : {r : Option Refusal} → refusal op s ≡ r → first_of (objections op s) ≡ r
    objected e = sym (refusal_kept op s (sound_kept s fit.sound)) ∙ e

    stray : (why : Refusal) → refusal op s ≡ Some why → strays (call.refused why) ≡ false
    stray why e = ap (λ r. strays r.answer) (sym (refused_alters_nothing op s why e)) ∙ h

    go : (r : Option Refusal) → refusal op s ≡ r → call_on op (original_of s) ≡ reply_of (step op s)
    go None e = act_same op s fit early (objected e) ∙ ap reply_of (sym (unrefused_acts op s e))
    go (Some Full) e = full_same op s fit (objected e) ∙ ap reply_of (sym (refused_alters_nothing op s Full e))
    go (Some NotOpen) e = absurd (clash refl (stray NotOpen e))
    go (Some ReportOpen) e = absurd (clash refl (stray ReportOpen e))
    go (Some IdLive) e = absurd (clash refl (stray IdLive e))
    go (Some BadArgument) e = absurd (clash refl (stray BadArgument e))
    go (Some PrimingOpen) e = absurd (clash refl (stray PrimingOpen e))
    go (Some NotWellKept) e = absurd (clash refl (stray NotWellKept e))
    go (Some BadLine) e = absurd (clash refl (stray BadLine e))

-- ---- a history of the domain

step_fit : (op : Op) (s : State) → Fit s → Fit (step op s).state
step_fit op s fit =
    record { sound = step_sound op s fit.sound; identities = log_lasts Narrow narrow_lasts op s fit.sound.log fit.identities }

step_early : (op : Op) (s : State) → lives late_retry s ≡ 0 → lives late_retry (step op s).state ≡ 0
step_early op s early =
    ap (lives late_retry) (sym (run_more op [] s ∙ run_none (step op s).state)) ∙ retries_last (op ∷ []) s early

history_same : (ops : List Op) (s : State) → Fit s → lives late_retry s ≡ 0 → some strays (answers ops s) ≡ false
    → (answered ops (original_of s) ≡ answers ops s) × (after ops (original_of s) ≡ original_of (run ops s))
unfolding answered after
history_same [] s fit early h = (sym (answers_none s), ap original_of (sym (run_none s)))
history_same (op ∷ ops) s fit early h =
    let w = or_neither (strays (step op s).answer) (some strays (answers ops (step op s).state))
    (sym (ap (some strays) (answers_more op ops s) ∙ some_cons strays (step op s).answer (answers ops (step op s).state)) ∙ h) in
    let here = step_same op s fit early w.0 in
    let rest = history_same ops (step op s).state (step_fit op s fit) (step_early op s early) w.1 in (
      ap (λ r. r.answer ∷ answered ops r.table) here ∙ ap (λ l. (step op s).answer ∷ l) rest.0 ∙ sym (answers_more op ops s),
      ap (λ r. after ops r.table) here ∙ rest.1 ∙ ap original_of (sym (run_more op ops s)),
    )

pub demand_2 : Demand2
demand_2 capacity able ops h =
    let r = history_same ops (fresh capacity)
    (record { sound = fresh_sound capacity able; identities = omega arith }) (omega (arith, count_nil late_retry)) h in
    (ap (answered ops) (fresh_same capacity) ∙ r.0, ap (after ops) (fresh_same capacity) ∙ r.1)
