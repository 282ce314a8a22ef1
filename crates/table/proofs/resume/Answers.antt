-- `resume` meets its contract: refused with 7, refused as `admits` says, or stored; where nothing objects there is room.
-- Assumes nothing.
use Rattle.std.proofs.Common.{◌≡◌, sym, ap, ◌∙◌, arith, rules}
use Rattle.places.specs.Calls.{admit_objections, resume_in}
use Rattle.places.specs.Moves.{stored_last}
use Rattle.rules.specs.Machine.{first_of}
use Rattle.answers.specs.Numbers.{mark_value}
use Rattle.changes.specs.Logs.{watermark_of}
use Rattle.rules.specs.Calls as call
use Rattle.places.proofs.Refusing.{kept_counts, kept_log, past_kept, resume_same, room_left}
use Rattle.table.proofs.Standing.{well, unwell, clear, stands}
use Rattle.changes.proofs.Answering.{mark_answer}
use Rattle.table.proofs.resume.Goals as goal

pub returns-in_err-well_kept : goal.returns-in_err-well_kept
unfolding resume_in
returns-in_err-well_kept c =
    let a = c.args in
    rw (unwell a.table.now (sym c.well_kept.ensures.answer ∙ c.in_err-well_kept.was) (call.resume a.id a.request a.events), resume_in) (search rules)

pub admits-requires : goal.admits-requires
admits-requires c = kept_counts c.args.table.now (well c.args.table.now (sym c.well_kept.ensures.answer ∙ c.in_ok-well_kept.was))

pub returns-in_err-admits : goal.returns-in_err-admits
unfolding resume_in
returns-in_err-admits c =
    let a = c.args in
    let t = a.table.now in
    let k = well t (sym c.well_kept.ensures.answer ∙ c.in_ok-well_kept.was) in
    let why = stands (first_of (admit_objections t a.request a.id)) (sym c.admits.ensures ∙ c.in_err-admits.was) in
    rw (past_kept t k (call.resume a.id a.request a.events) ∙ ap first_of (resume_same t c.well_kept.ensures.long k a.id a.request a.events) ∙ why, resume_in) (search rules)

pub stored_last-requires : goal.stored_last-requires
stored_last-requires c =
    let a = c.args in
    let t = a.table.now in
    let k = well t (sym c.well_kept.ensures.answer ∙ c.in_ok-well_kept.was) in
    let r = room_left t a.request a.id k (clear (first_of (admit_objections t a.request a.id)) (sym c.admits.ensures ∙ c.in_ok-admits.was)) in
    omega arith

pub returns : goal.returns
unfolding resume_in stored_last
returns c =
    let a = c.args in
    let t = a.table.now in
    let k = well t (sym c.well_kept.ensures.answer ∙ c.in_ok-well_kept.was) in
    let none = clear (first_of (admit_objections t a.request a.id)) (sym c.admits.ensures ∙ c.in_ok-admits.was) in
    let m : c.value-mark.result ≡ watermark_of t.log = c.value-mark.ensures ∙ ap mark_value (c.watermark.ensures ∙ mark_answer t.log (kept_log t k)) in
    rw (past_kept t k (call.resume a.id a.request a.events) ∙ ap first_of (resume_same t c.well_kept.ensures.long k a.id a.request a.events) ∙ none, resume_in)
    (rw (c.next_id-table.ensures, c.stored_last.ensures, c.resumed.ensures, m))
