-- The words in which the laws of notes are told: which changes an entry still stands for.
-- Assumes nothing.
use Rattle.std.specs.Prelude.{Bool, ◌&&◌, ℕ, eqb, leb}
use Rattle.entries.specs.declared.ChangedAttr.{ChangedAttr}
use Rattle.entries.specs.Paths.{covers}

-- the entry covers q with the identity k
unfoldable pub carries : ChangedAttr → ℕ → ChangedAttr → Bool
carries q k x = covers x q && eqb x.identity k

-- the entry covers q with the identity k or a later one
unfoldable pub reaches : ChangedAttr → ℕ → ChangedAttr → Bool
reaches q k x = covers x q && leb k x.identity
