-- Instants, as document 01 has them, "Time": their ends, their sum with seconds, and the order of two of them.
-- What a sum past the last instant means is not the same for all: crate time says it for each.
-- Assumes nothing.
use Rattle.std.specs.Prelude.{Bool, cond, ℕ, ◌+◌, ◌*◌, max, leb, eqb, Option, Some, None, unwrap_or}
use Rattle.instants.specs.declared.Instant.{Instant}

-- "An instant is a u64 of milliseconds."
abbrev pub instant : ℕ → Instant
instant ms = record { ms = ms }

-- "they are 0, 2^64 − 1 and 3", the first
abbrev pub first_instant : Instant
first_instant = instant 0

-- "they are 0, 2^64 − 1 and 3", the second
abbrev pub last_instant : Instant
last_instant = instant 18446744073709551615

-- "A second is 1,000.": so many seconds after an instant, or none where that is past the last instant
unfoldable pub later : Instant → ℕ → Option Instant
later from secs =
    cond (leb (from.ms + secs * 1000) last_instant.ms) (Some (instant (from.ms + secs * 1000))) None

-- the instant, or another one where there is no such instant
abbrev pub or_else : Option Instant → Instant → Instant
or_else found other = unwrap_or found other

-- "the later of" two instants
abbrev pub later_of : Instant → Instant → Instant
later_of a b = instant (max a.ms b.ms)

-- "A reported_at of 2^64 − 1 means never reported"
abbrev pub never_reported : Instant → Bool
never_reported reported = eqb reported.ms last_instant.ms
