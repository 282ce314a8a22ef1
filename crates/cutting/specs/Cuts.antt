-- A whole input's lines, as document 01 has it, "Trace lines": cut at every CRLF, each judged by itself. How the code goes through the
-- bytes is said in Steps, and is proved to find the same lines.
-- Assumes nothing.
use Rattle.std.specs.Prelude.{Bool, true, false, cond, not, ◌&&◌, ◌||◌, List, [], ◌∷◌, map, ℕ, eqb, leb, length, take}
use Rattle.fields.specs.Bytes.{CR, LF}

-- a byte in front of the first line
abbrev pub onto : ℕ → List (List ℕ) → List (List ℕ)
onto b [] = (b ∷ []) ∷ []
onto b (l ∷ ls) = (b ∷ l) ∷ ls

-- the bytes of each line without its CRLF; "a last line may lack CRLF, and nothing after the last CRLF is no line"
unfoldable pub cut : List ℕ → List (List ℕ)
cut [] = []
cut (b ∷ []) = onto b []
cut (b ∷ c ∷ s) = elim (eqb b CR && eqb c LF) [ true ↦ [] ∷ cut s | false ↦ onto b (cut (c ∷ s)) ]

-- "holding a lone CR or LF": what is left of them behind the cut ends no line
unfoldable pub holds_lone : List ℕ → Bool
holds_lone [] = false
holds_lone (b ∷ l) = eqb b CR || eqb b LF || holds_lone l

-- a line's bytes, or that it is bad
pub data Text : Type 0 where
  whole : List ℕ → Text
  bad : Text

-- "An empty line, one above 96 bytes without its CRLF, and one holding a lone CR or LF are bad"; limit is that 96
unfoldable pub judge : ℕ → List ℕ → Text
judge limit [] = bad
judge limit (b ∷ l) = cond (leb (length (b ∷ l)) limit && not (holds_lone (b ∷ l))) (whole (b ∷ l)) bad

-- "Reading stops after 1,000,000 lines"; most is that 1,000,000
unfoldable pub texts_of : ℕ → ℕ → List ℕ → List Text
texts_of limit most s = take most (map (judge limit) (cut s))
