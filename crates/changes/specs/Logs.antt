-- The change log as the code holds it, and every public call's answer, as document 01 has it, "Change log" and "Refusal numbers".
-- Assumes nothing.
use Rattle.std.specs.Prelude.{ℕ, ◌+◌, ◌-◌, Bool, cond, not, ◌&&◌, List, replicate, ◌==◌, nat_le, Result, Ok, Err, ⊤}
use Rattle.refusal.specs.declared.Refusal.{Refusal}
use Rattle.refusal.specs.declared.Refusal.TheVariants.{NotWellKept}
use Rattle.answers.specs.declared.Entered.{Entered}
use Rattle.entries.specs.declared.ChangedAttr.{ChangedAttr}
use Rattle.changes.specs.declared.ChangedAttrs.{ChangedAttrs}
use Rattle.lists.specs.Search.{some}
use Rattle.lists.specs.Removal.{sweep}
use Rattle.entries.specs.Paths.{entry, blank, up_to, above, since}
use Rattle.notes.specs.Notes.{capacity, newest, entered}
use Rattle.notes.specs.Places.{listed, held_as}

-- the entries that a log holds, in order
abbrev pub entries_of : ChangedAttrs → List ChangedAttr
entries_of g = listed g.held

-- the log that holds the entries, with blank places beyond them
unfoldable pub holding : List ChangedAttr → ℕ → ChangedAttrs
holding l next = record { held = held_as l; next = next }

-- the log that holds none
abbrev pub empty_log : ℕ → ChangedAttrs
empty_log next = record { held = record { entries = replicate capacity blank; len = 0 }; next = next }

-- "at most 16 entries; next identity not 0"
unfoldable pub kept : ChangedAttrs → Bool
kept g = nat_le g.held.len capacity && not (g.next == 0)

-- "Identities start at 1"
abbrev pub fresh_log : ChangedAttrs
fresh_log = empty_log 1

-- "the identity after 2^64 − 1 is 1."
unfoldable pub identity_after : ℕ → ℕ
identity_after k = cond (k == 18446744073709551615) 1 (k + 1)

-- "The watermark is next − 1."
abbrev pub watermark_of : ChangedAttrs → ℕ
watermark_of g = g.next - 1

-- "A note takes the next identity."
abbrev pub note_of : ChangedAttrs → ℕ → ℕ → ℕ → ChangedAttr
note_of g endpoint cluster attr = entry endpoint cluster attr g.next

-- the log after a note
abbrev pub after_note : ChangedAttrs → ℕ → ℕ → ℕ → ChangedAttrs
after_note g endpoint cluster attr = holding (entered (note_of g endpoint cluster attr) (entries_of g)) (identity_after g.next)

-- what a call that changes the log comes to: its answer, or why it is refused, and the log after it
pub record Logged (A : Type 0) : Type 0 where
  pub answer : Result A Refusal
  pub log : ChangedAttrs

abbrev pub logged : {A : Type 0} → Result A Refusal → ChangedAttrs → Logged A
logged answer log = record { answer = answer; log = log }

-- the log that is not well kept is refused
unfoldable pub well_kept : ChangedAttrs → Result ⊤ Refusal
well_kept g = cond (kept g) (Ok tt) (Err NotWellKept)

-- the answer of a note
unfoldable pub noted : ChangedAttrs → ℕ → ℕ → ℕ → Logged Entered
noted g endpoint cluster attr =
    cond (kept g)
    (logged (Ok (record { identity = g.next })) (after_note g endpoint cluster attr))
    (logged (Err NotWellKept) g)

-- "Purge up to T removes entries with identity ≤ T by swap removal; T = 0 does nothing."
abbrev pub after_purge : ChangedAttrs → ℕ → ChangedAttrs
after_purge g t = cond (t == 0) g (holding (sweep (up_to t) (entries_of g)) g.next)

-- the answer of a call that changes the log to h and has nothing to tell
abbrev pub changed_to : ChangedAttrs → ChangedAttrs → Logged ⊤
changed_to g h = cond (kept g) (logged (Ok tt) h) (logged (Err NotWellKept) g)

-- the answer of a purge
unfoldable pub purged : ChangedAttrs → ℕ → Logged ⊤
purged g t = changed_to g (after_purge g t)

-- the answer of emptying: no entry is left, and identities go on
unfoldable pub cleared : ChangedAttrs → Logged ⊤
cleared g = changed_to g (empty_log g.next)

-- the answer to the watermark
unfoldable pub marked : ChangedAttrs → Result ℕ Refusal
marked g = cond (kept g) (Ok (watermark_of g)) (Err NotWellKept)

-- the greatest identity that an entry has
abbrev pub newest_of : ChangedAttrs → ℕ
newest_of g = newest (above 0) (entries_of g)

-- the answer to it
unfoldable pub newest_mark : ChangedAttrs → Result ℕ Refusal
newest_mark g = cond (kept g) (Ok (newest_of g)) (Err NotWellKept)

-- is there an "entry above its seen watermark"
abbrev pub any_since : ChangedAttrs → ℕ → Bool
any_since g s = some (above s) (entries_of g)

-- "A path is changed since S if some entry with an identity above S is wild or equal in each field."
abbrev pub changed_since : ChangedAttrs → ℕ → ℕ → ℕ → ℕ → Bool
changed_since g endpoint cluster attr s = some (since (entry endpoint cluster attr s)) (entries_of g)

-- the answer to a question
abbrev pub told_of : ChangedAttrs → Bool → Result Bool Refusal
told_of g b = cond (kept g) (Ok b) (Err NotWellKept)

-- the answer to "has anything changed since"
unfoldable pub any_told : ChangedAttrs → ℕ → Result Bool Refusal
any_told g s = told_of g (any_since g s)

-- the answer to "has this path changed since"
unfoldable pub path_told : ChangedAttrs → ℕ → ℕ → ℕ → ℕ → Result Bool Refusal
path_told g endpoint cluster attr s = told_of g (changed_since g endpoint cluster attr s)
