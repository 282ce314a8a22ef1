-- `hand_out` meets its contract by what the scan and `handed` ensure; of a well-kept log the watermark and the greatest identity are answered.
-- Assumes nothing.
use Rattle.std.proofs.Common.{◌≡◌, ltb, length, sym, ap, ◌∙◌, arith, lt-ltb, length-take-le}
use Rattle.std.specs.Prelude.{is_some}
use Rattle.places.specs.Calls.{first_ready, hand_out_in}
use Rattle.places.specs.Tests.{ready_by}
use Rattle.places.specs.Views.{stored_of}
use Rattle.answers.specs.Numbers.{mark_value}
use Rattle.changes.specs.Logs.{watermark_of, newest_of}
use Rattle.changes.proofs.Answering.{mark_answer, newest_answer}
use Rattle.table.proofs.Asked.{placed, is_placed}
use Rattle.table.proofs.hand_out.Goals as goal

pub returns-in_err-i : goal.returns-in_err-i
unfolding hand_out_in first_ready
returns-in_err-i c =
    let t = c.args.table.now in
    let n : c.value-newest.result ≡ newest_of t.log = c.value-newest.ensures ∙ ap mark_value (c.newest.ensures ∙ newest_answer t.log c.requires.log) in
    let size : length (stored_of t) ≡ t.stored = length-take-le t.stored t.places (let k = c.requires.counts in let l = c.requires.long in omega arith) in
    let none = ap (ltb _) (sym size) ∙ sym (is_placed (ready_by c.args.at c.value-newest.result) c.stored.ensures.are c.first_ready.ensures) ∙ ap is_some c.in_err-i.was in
    rw (← n, none, c.from_residual.ensures, hand_out_in)

pub handed-requires : goal.handed-requires
handed-requires c =
    let t = c.args.table.now in
    let m : c.value-mark.result ≡ watermark_of t.log = c.value-mark.ensures ∙ ap mark_value (c.watermark.ensures ∙ mark_answer t.log c.requires.log) in
    let size : length (stored_of t) ≡ t.stored = length-take-le t.stored t.places (let k = c.requires.counts in let l = c.requires.long in omega arith) in
    let at = placed (ready_by c.args.at c.value-newest.result) c.stored.ensures.are c.first_ready.ensures c.in_ok-i.was in
    (c.requires.counts, (omega (arith, at), m))

pub returns : goal.returns
unfolding hand_out_in first_ready
returns c =
    let t = c.args.table.now in
    let n : c.value-newest.result ≡ newest_of t.log = c.value-newest.ensures ∙ ap mark_value (c.newest.ensures ∙ newest_answer t.log c.requires.log) in
    let size : length (stored_of t) ≡ t.stored = length-take-le t.stored t.places (let k = c.requires.counts in let l = c.requires.long in omega arith) in
    let at = placed (ready_by c.args.at c.value-newest.result) c.stored.ensures.are c.first_ready.ensures c.in_ok-i.was in
    rw (← n, ← at.1, lt-ltb c.in_ok-i.i t.stored (omega arith), hand_out_in) c.handed.ensures
