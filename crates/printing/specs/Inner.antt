-- What the contracts of private helpers cite. No reader has to believe it: the public contracts do not name it.
-- Assumes nothing.
use Rattle.std.specs.Prelude.{List, ◌≡◌, ℕ, ◌+◌, length}
use Rattle.std.proofs.lemmas.List.Edits.{sets}

-- all of a text was put into `out` at `at`: the place after it is `next`, and the buffer is `out'` then
pub record Put (out : List ℕ) (at : ℕ) (text : List ℕ) (next : ℕ) (out' : List ℕ) : Type 0 where
  pub ends : next ≡ at + length text
  pub holds : out' ≡ sets out at text
