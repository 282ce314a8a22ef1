-- A driver of `run` and `finish`: it hands over chunks, each with a buffer for the answers, and writes what was put there; what a run did not
-- take of a chunk it hands over again. At the input's end it has a last buffer. Assumes nothing.
use Rattle.std.specs.Prelude.{List, [], ◌∷◌, ◌++◌, ℕ, take}
use Rattle.tracing.specs.declared.Session.{Session}
use Rattle.tracing.specs.Runs.{Work, run_of, finish_of}

-- a chunk and a buffer
pub record Turn : Type 0 where
  pub chunk : List ℕ
  pub buffer : List ℕ

-- the run over them
abbrev pub turned : Session → List ℕ → Turn → Work
turned x held t = run_of x held t.chunk t.buffer

-- the bytes that were taken
unfoldable pub taken : Session → List ℕ → List Turn → List ℕ
taken x held [] = []
taken x held (t ∷ ts) = take (turned x held t).used t.chunk ++ taken (turned x held t).session (turned x held t).held ts

-- the bytes that were written
unfoldable pub written : Session → List ℕ → List ℕ → List Turn → List ℕ
written x held last [] = take (finish_of x held last).0 (finish_of x held last).1
written x held last (t ∷ ts) =
    take (turned x held t).wrote (turned x held t).out ++ written (turned x held t).session (turned x held t).held last ts
