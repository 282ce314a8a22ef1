-- The lines of a whole input, as document 01 has it, "Trace lines": cut and judged, each read by itself.
-- Assumes nothing.
use Rattle.std.specs.Prelude.{List, map, ℕ}
use Rattle.cutting.specs.Cuts.{Text, whole, bad, texts_of}
use Rattle.lines.specs.Lines.{line_of}
use Rattle.lines.specs.declared.Line.{Line}
use Rattle.lines.specs.declared.Line.TheVariants.{Bad}

-- what a text says: a bad one is a bad line
unfoldable pub line_in : Text → Line
line_in (whole l) = line_of l
line_in bad = Bad

-- the lines of document 01's input
unfoldable pub lines_of : List ℕ → List Line
lines_of s = map line_in (texts_of 96 1000000 s)
