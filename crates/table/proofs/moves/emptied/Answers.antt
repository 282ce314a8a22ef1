-- `emptied` meets its contract: the first places are filled.
-- Assumes nothing.
use Rattle.std.proofs.Common.{◌≡◌, length, take, arith, length-take-le}
use Rattle.places.specs.Moves.{emptied}
use Rattle.table.proofs.moves.emptied.Goals as goal

pub returns : goal.returns
unfolding emptied
returns c =
    let t = c.args.table.now in
    let n : length (take t.stored t.places) ≡ t.stored = length-take-le t.stored t.places (omega arith) in
    rw (c.fill.ensures.after (λ y e. e), n)
