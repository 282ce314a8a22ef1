-- `same` meets its contract: the derived equality compares each place, each entry and each number.
-- Assumes nothing.
use Rattle.std.proofs.Common.{rules, ◌≡◌, ◌∙◌, sym}
use Rattle.lists.proofs.Bools.{and_both, and_left}
use Rattle.unkept.proofs.Alike.{alike, same_entry, same_place}
use Rattle.unkept.proofs.same.Goals as goal

pub returns : goal.returns
returns c = λ yes.
    let all = and_both _ _ (sym c.eq.ensures ∙ yes) in
    let places : c.args.a.now.places ≡ c.args.b.now.places = alike same_place _ _ all.0 in
    let entries : c.args.a.now.log.held.entries ≡ c.args.b.now.log.held.entries =
    alike same_entry _ _ (and_left _ _ (and_left _ _ (and_left _ _ all.1))) in
    search rules
