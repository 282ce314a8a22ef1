-- A chunk, byte by byte: a byte that ends a line has it answered. No reader has to believe it: the laws of the proofs say that what is
-- written of a whole input is `trace_of` of its bytes, however it is cut into chunks.
-- Assumes nothing.
use Rattle.std.specs.Prelude.{true, false, List, [], ◌∷◌, ℕ, ◌+◌, leb, length, take}
use Rattle.cutting.specs.declared.Found.{Found}
use Rattle.cutting.specs.declared.Found.TheVariants as found
use Rattle.cutting.specs.declared.Reading.{Reading}
use Rattle.cutting.specs.Steps.{fresh_of, step_of, close_of}
use Rattle.lines.specs.declared.Line.{Line}
use Rattle.lines.specs.declared.Line.TheVariants.{Bad}
use Rattle.lines.specs.Lines.{line_of}
use Rattle.printing.specs.Answers.{answer_of, put_of, answer_room}
use Rattle.places.specs.declared.Table.{Table}
use Rattle.places.specs.Calls.{new_table}
use Rattle.answering.specs.Answers.{answer_in}
use Rattle.answering.specs.Replies.{coded}
use Rattle.tracing.specs.declared.Session.{Session}
use Rattle.tracing.specs.declared.Ran.{Ran}

-- what is carried from chunk to chunk
abbrev pub session_of : Table → Reading → Session
session_of t r = record { table = t; reading = r }

-- "It starts at capacity 80."; "Reading stops after 1,000,000 lines."
unfoldable pub start_of : Session
start_of = session_of (new_table 80).table (fresh_of 1000000 0)

-- where a run stands: the session, the bytes held of the line that has not ended, the output, how many bytes are taken, how many written
pub record Work : Type 0 where
  pub session : Session
  pub held : List ℕ
  pub out : List ℕ
  pub used : ℕ
  pub wrote : ℕ

-- a run's answer with the session and both buffers behind it
abbrev pub worked : Session → Ran → List ℕ → List ℕ → Work
worked x r held out = record { session = x; held = held; out = out; used = r.used; wrote = r.wrote }

-- a run before its first byte
abbrev pub begun : Session → List ℕ → List ℕ → Work
begun x held out = record { session = x; held = held; out = out; used = 0; wrote = 0 }

-- the line that was found; where none was, a bad one
abbrev pub line_found : List ℕ → Found → Line
line_found held found.Nothing = Bad
line_found held found.Bad = Bad
line_found held (found.Whole n) = line_of (take n held)

-- so many bytes more are taken, and the reading and the held bytes are these
abbrev pub moved : Work → Reading → List ℕ → ℕ → Work
moved x r held n =
    record { session = session_of x.session.table r; held = held; out = x.out; used = x.used + n; wrote = x.wrote }

-- the text of a line's answer
abbrev pub text_of : Table → ℕ → Line → List ℕ
text_of t number l = answer_of number (coded (answer_in t l).answer).code (coded (answer_in t l).answer).value

-- the line is answered: the table is touched, and the answer put behind what is written
unfoldable pub answered_to : Work → Line → Work
answered_to x l =
    let r : Reading = x.session.reading in
    let t : Table = x.session.table in
    let p : ℕ × List ℕ = put_of answer_room x.out x.wrote (text_of t r.number l) in
    record { session = session_of (answer_in t l).table r; held = x.held; out = p.1; used = x.used; wrote = p.0 }

-- what was found is answered, if a line was
abbrev pub told : Work → Found → Work
told x found.Nothing = x
told x found.Bad = answered_to x Bad
told x (found.Whole n) = answered_to x (line_of (take n x.held))

-- one byte: a step of the reading, and the answer of the line that it ends
unfoldable pub byte_in : Work → ℕ → Work
byte_in x b =
    told (moved x (step_of x.session.reading x.held b).0.reading (step_of x.session.reading x.held b).1 1)
    (step_of x.session.reading x.held b).0.found

-- bytes, as long as there is room for an answer
unfoldable pub run_from : Work → List ℕ → Work
run_from x [] = x
run_from x (b ∷ s) = elim (leb (x.wrote + answer_room) (length x.out)) [ true ↦ run_from (byte_in x b) s | false ↦ x ]

-- a chunk from its first byte on
abbrev pub run_of : Session → List ℕ → List ℕ → List ℕ → Work
run_of x held s out = run_from (begun x held out) s

-- the input's end: a last line without its CRLF is answered
abbrev pub closed : Work → Work
closed x =
    told (moved x (close_of x.session.reading).reading x.held 0) (close_of x.session.reading).found

-- how many bytes are written there, and the buffer behind them
unfoldable pub finish_of : Session → List ℕ → List ℕ → ℕ × List ℕ
finish_of x held out = ((closed (begun x held out)).wrote, (closed (begun x held out)).out)
