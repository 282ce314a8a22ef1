-- `insert` meets its contract: the two arms are the two cases of `placed`.
-- Assumes nothing.
use mathlib.Core.Path.{◌≡◌, sym, ◌∙◌}
use Rattle.std.specs.Prelude.{Some, None}
use Rattle.std.specs.List.{position}
use Rattle.lists.proofs.Library.{found_at, found_nowhere}
use Rattle.entries.specs.Paths.{over}
use Rattle.notes.proofs.Cases.{placed_found, placed_new}
use Rattle.notes.proofs.Steps.{refreshed_at}
use Rattle.notes.proofs.Entries.insert.Goals as goal

pub returns-in-Some : goal.returns-in-Some
returns-in-Some c =
    let new = c.args.new in
    let l = c.args.self.now in
    let at : position (over new) l ≡ Some c.in-Some.at = rw c.live.ensures.all at (sym c.find.ensures ∙ c.in-Some.is) in
    c.refresh.ensures ∙ refreshed_at new l at ∙ placed_found new l (found_at (over new) l at).0

pub returns-in-None : goal.returns-in-None
returns-in-None c =
    let new = c.args.new in
    let l = c.args.self.now in
    let none : position (over new) l ≡ None = rw c.live.ensures.all at (sym c.find.ensures ∙ c.in-None.is) in
    c.push.ensures ∙ placed_new new l (found_nowhere (over new) l none)
