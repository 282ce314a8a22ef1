-- `note` meets its contract: refused with 7, or the log's own note, which a well-kept log does not refuse.
-- Assumes nothing.
use Rattle.std.proofs.Common.{◌≡◌, ℕ, arith, sym, ap, ◌∙◌, rules}
use Rattle.places.specs.Calls.{note_in}
use Rattle.places.specs.Views.{view}
use Rattle.rules.specs.Calls as call
use Rattle.rules.proofs.Clauses.{note_objects}
use Rattle.answers.specs.Numbers.{note_value}
use Rattle.places.proofs.Refusing.{kept_log}
use Rattle.changes.proofs.Answering.{note_answer}
use Rattle.table.proofs.Standing.{well, unwell, unrefused}
use Rattle.table.proofs.note.Goals as goal

pub returns-in_err-well_kept : goal.returns-in_err-well_kept
unfolding note_in
returns-in_err-well_kept c =
    let a = c.args in
    rw (unwell a.table.now (sym c.well_kept.ensures.answer ∙ c.in_err-well_kept.was) (call.note a.endpoint a.cluster a.attr), note_in) (search rules)

pub returns-in_err-identity : goal.returns-in_err-identity
returns-in_err-identity c =
    let a = c.args in
    let t = a.table.now in
    let e = sym c.well_kept.ensures.answer ∙ c.in_ok-well_kept.was in
    let answered = ap (λ r. r.answer) (c.note.ensures ∙ note_answer t.log (kept_log t (well t e)) a.endpoint a.cluster a.attr) in
    absurd (let q = sym answered ∙ c.in_err-identity.was in let z : ◌≡◌ {A = ℕ} 0 1 = cc in omega arith)

pub returns : goal.returns
unfolding note_in
returns c =
    let a = c.args in
    let t = a.table.now in
    let e = sym c.well_kept.ensures.answer ∙ c.in_ok-well_kept.was in
    let answered = ap (λ r. r.answer) (c.note.ensures ∙ note_answer t.log (kept_log t (well t e)) a.endpoint a.cluster a.attr) in
    let told = ap note_value (sym c.in_ok-identity.was ∙ answered) in
    rw (unrefused t e (call.note a.endpoint a.cluster a.attr) (note_objects (view t) a.endpoint a.cluster a.attr), ← ap (λ r. r.log) c.note.ensures, ← told, note_in)
