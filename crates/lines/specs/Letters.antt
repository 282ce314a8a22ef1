-- The letters of which document 01's seven words are made, by name: their bytes in ASCII.
-- Assumes nothing.
use Rattle.std.specs.Prelude.{ℕ}

abbrev pub a : ℕ
a = 97

abbrev pub d : ℕ
d = 100

abbrev pub e : ℕ
e = 101

abbrev pub k : ℕ
k = 107

abbrev pub n : ℕ
n = 110

abbrev pub o : ℕ
o = 111

abbrev pub p : ℕ
p = 112

abbrev pub r : ℕ
r = 114

abbrev pub t : ℕ
t = 116

abbrev pub w : ℕ
w = 119
