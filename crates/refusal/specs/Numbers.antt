-- The numbers of document 01's refusals. When each is given is said where the calls are.
-- Assumes nothing.
use Rattle.std.specs.Prelude.{ℕ}
use Rattle.refusal.specs.declared.Refusal.{Refusal}
use Rattle.refusal.specs.declared.Refusal.TheVariants.{Full, NotOpen, ReportOpen, IdLive, BadArgument, PrimingOpen, NotWellKept, BadLine}

-- "Refusal numbers", the column "no."
abbrev pub number_of : Refusal → ℕ
number_of Full = 1
number_of NotOpen = 2
number_of ReportOpen = 3
number_of IdLive = 4
number_of BadArgument = 5
number_of PrimingOpen = 6
number_of NotWellKept = 7
number_of BadLine = 8
