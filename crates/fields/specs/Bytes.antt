-- The bytes of trace lines by name: a text is a list of numbers below 256. RFC 4180's, in ASCII.
-- Assumes nothing.
use Rattle.std.specs.Prelude.{ℕ}

abbrev pub LF : ℕ
LF = 10

abbrev pub CR : ℕ
CR = 13

abbrev pub comma : ℕ
comma = 44

-- the digits' bytes go from that of 0 to that of 9
abbrev pub zero_digit : ℕ
zero_digit = 48

abbrev pub nine_digit : ℕ
nine_digit = 57
