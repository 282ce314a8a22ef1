-- How an input is cut into chunks changes nothing in its lines.
-- Assumes nothing.
use mathlib.Core.Path.{◌≡◌, refl, ap, ◌∙◌}
use mathlib.Core.List.{List, map, flatten}
use Prim.Native.Nat.{ℕ}
use lib.ListN.{length}
use Rattle.cutting.specs.Cuts.{whole, bad, texts_of}
use Rattle.cutting.specs.Steps.{fresh_of, found_in, found_over}
use Rattle.cutting.proofs.Finding.{cut_found}
use Rattle.cutting.proofs.Chunks.{chunks_found}
use Rattle.lines.specs.declared.Line.TheVariants.{Bad}
use Rattle.lines.specs.Lines.{line_of}
use Rattle.lines.specs.Inputs.{line_in, lines_of}

-- what a text says
pub whole_line : (l : List ℕ) → line_in (whole l) ≡ line_of l
unfolding line_in
whole_line l = refl

pub bad_line : line_in bad ≡ Bad
unfolding line_in
bad_line = refl

-- the byte steps find the lines of an input
pub input_lines : (held s : List ℕ) → length held ≡ 96 → map line_in (found_in (fresh_of 1000000 0) held s) ≡ lines_of s
unfolding lines_of
input_lines held s e = ap (map line_in) (cut_found 1000000 held s ∙ ap (λ (n : ℕ). texts_of n 1000000 s) e)

-- with document 01's 96 bytes and 1,000,000 lines
pub chunks_lines : (held : List ℕ) (ss : List (List ℕ)) → length held ≡ 96 → map line_in (found_over (fresh_of 1000000 0) held ss) ≡ lines_of (flatten ss)
unfolding lines_of
chunks_lines held ss e =
    ap (map line_in) (chunks_found 1000000 held ss ∙ ap (λ (n : ℕ). texts_of n 1000000 (flatten ss)) e)
