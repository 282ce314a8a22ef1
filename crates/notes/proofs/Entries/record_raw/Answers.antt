-- `record_raw` meets its contract: the three returns are the cases of `entered`.
-- Assumes nothing.
use mathlib.Core.Path.{◌≡◌, sym, ◌∙◌}
use Rattle.std.specs.Prelude.{Some, None}
use Rattle.std.specs.List.{position}
use Rattle.lists.specs.Removal.{sweep}
use Rattle.lists.proofs.Library.{found_at, found_nowhere}
use Rattle.entries.specs.Paths.{over, under}
use Rattle.notes.proofs.Cases.{entered_found, entered_new, inserted_room, inserted_full}
use Rattle.notes.proofs.Steps.{refreshed_at}
use Rattle.notes.proofs.Entries.record_raw.Goals as goal

pub returns-in-Some : goal.returns-in-Some
returns-in-Some c =
    let new = c.args.new in
    let l = c.args.self.now in
    let at : position (over new) l ≡ Some c.in-Some.at = rw c.live.ensures.all at (sym c.find.ensures ∙ c.in-Some.is) in
    c.refresh.ensures ∙ refreshed_at new l at ∙ entered_found new l (found_at (over new) l at).0

pub returns-then-live-lt16 : goal.returns-then-live-lt16
returns-then-live-lt16 c =
    let new = c.args.new in
    let l = c.args.self.now in
    let none : position (over new) l ≡ None = rw c.live.ensures.all at (sym c.find.ensures ∙ c.in_default.is) in
    let room = rw (c.live-2.ensures.all, c.sweep.ensures) at c.if-live-lt16.true in
    c.push.ensures ∙ rw c.sweep.ensures (inserted_room new (sweep (under new) l) room ∙ entered_new new l (found_nowhere (over new) l none))

pub returns : goal.returns
returns c =
    let new = c.args.new in
    let l = c.args.self.now in
    let none : position (over new) l ≡ None = rw c.live.ensures.all at (sym c.find.ensures ∙ c.in_default.is) in
    let full = rw (c.live-2.ensures.all, c.sweep.ensures) at c.if-live-lt16.false in
    c.promote_and_insert.ensures
    ∙ rw c.sweep.ensures (inserted_full new (sweep (under new) l) full ∙ entered_new new l (found_nowhere (over new) l none))
