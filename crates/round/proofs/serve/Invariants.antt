-- `serve` meets its contract: what is left of the round is the round of the outcomes that are left.
-- Assumes nothing.
use Rattle.std.proofs.Common.{◌≡◌, length, drop}
use Rattle.round.specs.Rounds.{served}
use Rattle.round.proofs.serve.Given as goal

abbrev pub invariant-loop-n : goal.invariant-loop-n
invariant-loop-n l =
    (served l.at l.outcomes 0 l.initial.ids l.initial.table ≡ served l.at (drop l.n l.outcomes) l.n l.ids l.table) × (length l.outcomes ≡ length l.ids)
