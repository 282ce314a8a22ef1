-- "No change goes unheard.": the first half of demand 3, by following the note from where it was made.
-- Assumes nothing.
use mathlib.Core.Path.{refl}
use Prim.Native.Nat.{◌+◌}
use native.Mathlib.Omega.{arith}
use Rattle.entries.specs.Paths.{entry}
use Rattle.rules.specs.States.{fresh}
use Rattle.rules.specs.Machine.{run}
use Rattle.heard.specs.Demand.{noted, UnheardStaysYes}
use Rattle.heard.specs.Hearing.{notes_in}
use Rattle.rules.specs.Calls as call
use Rattle.heard.proofs.Sane.{sane_step}
use Rattle.heard.proofs.Histories.{fresh_sane, sane_run, note_tracked, tracked_run, tracked_yes}
use Rattle.rules.proofs.Sound.{kept_sound}
use Rattle.changes.proofs.Answering.{watermark_below}

pub unheard_stays_yes : UnheardStaysYes
unheard_stays_yes capacity before since endpoint cluster attr i e c a able few live unheard under there =
    let s = run before (fresh capacity) in
    let u = noted capacity before endpoint cluster attr in
    let k = s.log.next in
    let h = sane_run 0 before (fresh capacity) (omega arith) (fresh_sane capacity able) in
    let low = h.few in
    let pos = watermark_below s.log (kept_sound s h.well).log in
    let next = sane_step (0 + notes_in before) (call.note endpoint cluster attr) s refl (omega arith) h in
    let start = note_tracked i (0 + notes_in before) s endpoint cluster attr (omega arith) h in
    let end = tracked_run i k (entry endpoint cluster attr k) (omega arith) (0 + notes_in before + 1) since u (omega arith) next unheard start in
    let well = (sane_run (0 + notes_in before + 1) since u (omega arith) next).well in
    tracked_yes i k end.0 (run since u) endpoint cluster attr e c a well under there end.1
