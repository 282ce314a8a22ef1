-- The words in which the log's laws are told to the floors above: which changes a log still stands for.
-- Assumes nothing.
use Rattle.std.specs.Prelude.{◌≡◌, ℕ, zero, suc, Bool, false}
use Rattle.entries.specs.declared.ChangedAttr.{ChangedAttr}
use Rattle.changes.specs.declared.ChangedAttrs.{ChangedAttrs}
use Rattle.lists.specs.Search.{some}
use Rattle.entries.specs.Paths.{covers, above}
use Rattle.notes.specs.Reach.{reaches}
use Rattle.changes.specs.Logs.{entries_of, holding, fresh_log, watermark_of, noted, purged, cleared}

-- some entry of the log covers q with the identity k or a later one
abbrev pub reached : ChangedAttrs → ChangedAttr → ℕ → Bool
reached g q k = some (reaches q k) (entries_of g)

-- some entry of the log covers q, whatever its identity
abbrev pub covered : ChangedAttrs → ChangedAttr → Bool
covered g q = some (λ x. covers x q) (entries_of g)

-- no entry is newer than the watermark
abbrev pub Bounded : ChangedAttrs → Type 0
Bounded g = some (above (watermark_of g)) (entries_of g) ≡ false

-- every place beyond the entries is blank, so that the entries and the next identity settle the log
abbrev pub Tidy : ChangedAttrs → Type 0
Tidy g = g ≡ holding (entries_of g) g.next

-- a log that comes from a fresh one by calls among which are so many notes
pub data Came : ℕ → ChangedAttrs → Type 0 where
  fresh : Came zero fresh_log
  note : {n : ℕ} {g : ChangedAttrs} (endpoint cluster attr : ℕ) → Came n g → Came (suc n) (noted g endpoint cluster attr).log
  purge : {n : ℕ} {g : ChangedAttrs} (threshold : ℕ) → Came n g → Came n (purged g threshold).log
  clear : {n : ℕ} {g : ChangedAttrs} → Came n g → Came n (cleared g).log
