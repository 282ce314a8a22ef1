-- `opened_up` meets its contract: a store at the far end, and one open one more.
-- Assumes nothing.
use Rattle.std.proofs.Common.{◌≡◌, ◌+◌, ◌-◌, arith}
use Rattle.places.specs.Moves.{opened_up}
use Rattle.table.proofs.moves.opened_up.Goals as goal

pub returns : goal.returns
unfolding opened_up
returns c =
    let o = c.args.table.now.opens in
    let e : 80 - (o + 1) ≡ 79 - o = omega arith in
    rw e
