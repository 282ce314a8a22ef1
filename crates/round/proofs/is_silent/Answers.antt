-- `is_silent` meets its contract: the report that was tried finds nobody.
-- Assumes nothing.
use Rattle.std.proofs.Common.{Bool, true, false, not, Option, Some, None, ◌≡◌, Ok, refl}
use Rattle.std.specs.Prelude.{is_some}
use Rattle.places.specs.declared.Handed.{Handed}
use Rattle.round.specs.Rounds.{says_nothing, is_silent}
use Rattle.round.proofs.is_silent.Goals as goal

says : (a : Option Handed) {b : Bool} → is_some a ≡ not b → b ≡ says_nothing (Ok a)
says (Some x) {b = true} e = e
says (Some x) {b = false} e = refl
says None {b = true} e = refl
says None {b = false} e = e

pub returns-in-Ok : goal.returns-in-Ok
unfolding is_silent
returns-in-Ok c = rw (← c.report.ensures, c.in-Ok.is) (says c.in-Ok.handed c.is_none.ensures)

pub returns-in-Err : goal.returns-in-Err
unfolding is_silent
returns-in-Err c = rw (← c.report.ensures, c.in-Err.is)
