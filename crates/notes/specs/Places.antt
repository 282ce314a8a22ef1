-- The entries in their array of sixteen places. What a note does to them is said by `Notes`, on the list.
-- Assumes nothing.
use Rattle.std.specs.Prelude.{Bool, List, ◌++◌, ℕ, ◌-◌, length, take, replicate}
use Rattle.entries.specs.declared.ChangedAttr.{ChangedAttr}
use Rattle.entries.specs.declared.Rule.{Rule}
use Rattle.lists.specs.Search.{some}
use Rattle.lists.specs.Removal.{sweep}
use Rattle.entries.specs.Paths.{blank, holds}
use Rattle.notes.specs.declared.Held.{Held}
use Rattle.notes.specs.Notes.{capacity, newest, entered}

-- the entries that are held, in order
abbrev pub listed : Held → List ChangedAttr
listed h = take h.len h.entries

-- the array that holds the entries, with blank places beyond them
unfoldable pub held_as : List ChangedAttr → Held
held_as l = record { entries = l ++ replicate (capacity - length l) blank; len = length l }

-- whether some entry meets the rule
abbrev pub any_held : Rule → Held → Bool
any_held rule h = some (holds rule) (listed h)

-- the greatest identity of the entries that meet the rule
abbrev pub newest_held : Rule → Held → ℕ
newest_held rule h = newest (holds rule) (listed h)

-- what is left without the entries that meet the rule
abbrev pub held_without : Rule → Held → Held
held_without rule h = held_as (sweep (holds rule) (listed h))

-- what is held after a note
abbrev pub held_after : ChangedAttr → Held → Held
held_after n h = held_as (entered n (listed h))
