-- `narrow` meets its contract: its number comes from what `try_from` answered.
-- Assumes nothing.
use Rattle.replay.proofs.words.narrow.Goals as goal

pub returns : goal.returns
returns g c = (c.try_from.result, (c.try_from.ensures, c.unwrap_or_default.ensures))
