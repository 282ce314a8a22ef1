-- Whatever chunks and buffers a driver lends, what it writes is the trace of the bytes taken. And a run gets on: it takes all of a chunk or
-- fills the buffer, and takes a byte where there is one and room for an answer; what it writes is within the buffer.
-- Assumes nothing.
use mathlib.Core.Path.{◌≡◌, refl, sym, ap, ◌∙◌}
use mathlib.Core.Bool.{true}
use mathlib.Core.List.{List, [], ◌∷◌, ◌++◌, map, map-append}
use Prim.Native.Nat.{ℕ, ◌+◌, ◌-◌, ◌≤◌, ◌<◌}
use native.Mathlib.Nat.{zero-add}
use native.Mathlib.Omega.{arith}
use lib.Dec.{leb}
use lib.ListN.{length, length-map, take}
use borrow.Author.Tests.{le-leb}
use Rattle.cutting.specs.declared.Reading.{Reading}
use Rattle.cutting.specs.Steps.{fresh_of, text_in, close_of, found_in}
use Rattle.cutting.specs.Steps.{after as read_behind, found as texts_in}
use Rattle.cutting.proofs.Steps.{none_left}
use Rattle.cutting.proofs.Scans.{number_counts, close_counts}
use Rattle.cutting.proofs.Chunks.{found_behind}
use Rattle.lines.specs.declared.Line.{Line}
use Rattle.lines.specs.Inputs.{line_in, lines_of}
use Rattle.lines.proofs.Inputs.{input_lines}
use Rattle.printing.specs.Answers.{answer_room}
use Rattle.rules.specs.States.{well_kept}
use Rattle.rules.proofs.Kept.{fresh_well_kept}
use Rattle.places.specs.declared.Table.{Table}
use Rattle.places.specs.Views.{fresh_table, kept}
use Rattle.places.proofs.NewAgrees.{fresh_view, new_makes}
use Rattle.places.proofs.Tidying.{fresh_tidy}
use Rattle.places.proofs.TidyViews.{whole_kept}
use Rattle.tracing.specs.declared.Session.{Session}
use Rattle.tracing.specs.Trace.{trace_from, trace_of}
use Rattle.tracing.specs.Runs.{Work, session_of, start_of, begun, run_of, closed, finish_of}
use Rattle.tracing.specs.Drivers.{Turn, turned, taken, written}
use Rattle.tracing.proofs.Telling.{told_lines, told_append, told_traces}
use Rattle.tracing.proofs.Taking.{Answers, found_answered, Took, takes}

-- ---- one run, and the input's end

module _ (x : Session) (held s out : List ℕ) where
  abbrev y : Work
  y = run_of x held s out

  took : Took (begun x held out) s y
  took = takes (begun x held out) s (omega arith)

  -- what it writes is within the buffer, and what it takes within the chunk
  pub run_fits : y.wrote ≤ length out
  run_fits = omega (arith, took.answered.fits, took.answered.long)

  pub run_long : length y.out ≡ length out
  run_long = took.answered.long

  pub run_within : y.used ≤ length s
  run_within = omega (arith, took.within)

  abbrev part : List ℕ
  part = take y.used s

  part_same : take (y.used - 0) s ≡ part
  part_same = let e : y.used - 0 ≡ y.used = omega arith in ap (λ (n : ℕ). take n s) e

  abbrev lines : List Line
  lines = map line_in (texts_in x.reading held part)

  run_answers : Answers (begun x held out) y lines
  run_answers = rw part_same at took.answered

  run_reads : (y.session.reading, y.held) ≡ read_behind x.reading held part
  run_reads = rw part_same at took.read

  -- the lines of what follows are told from where the run stands
  run_then : (q : List ℕ)
      → told_lines x.reading.number x.table (map line_in (found_in x.reading held (part ++ q)))
      ≡ take y.wrote y.out ++ told_lines y.session.reading.number y.session.table (map line_in (found_in y.session.reading y.held q))
  run_then q =
      let n = x.reading.number in
      let rest = map line_in (found_in y.session.reading y.held q) in
      let e : y.session.reading.number ≡ n + length lines =
      ap (λ (p : Reading × List ℕ). p.0.number) run_reads
      ∙ number_counts x.reading held part
      ∙ ap (λ (k : ℕ). n + k) (sym (length-map (texts_in x.reading held part) line_in)) in
      ap (λ (l : List Line). told_lines n x.table l)
      (ap (map line_in) (found_behind x.reading held part q
      ∙ ap (λ (p : Reading × List ℕ). texts_in x.reading held part ++ found_in p.0 p.1 q) (sym run_reads))
      ∙ map-append line_in (texts_in x.reading held part) (found_in y.session.reading y.held q))
      ∙ told_append n x.table lines rest
      ∙ ap (λ (t : Table). told_lines n x.table lines ++ told_lines (n + length lines) t rest) (sym run_answers.table)
      ∙ ap (λ (k : ℕ). told_lines n x.table lines ++ told_lines k y.session.table rest) (sym e)
      ∙ ap (λ (l : List ℕ). l ++ told_lines y.session.reading.number y.session.table rest) (sym run_answers.text)

module _ (x : Session) (held last : List ℕ) (room : answer_room ≤ length last) where
  closing : Answers (begun x held last) (closed (begun x held last)) (map line_in (text_in held (close_of x.reading).found))
  closing =
      found_answered (begun x held last) (close_of x.reading).reading held 0 (omega arith) (close_of x.reading).found
      (le-leb (0 + answer_room) (length last) (omega arith))
      (close_counts x.reading held)

  -- the answer of a last line without its CRLF
  finish_told : take (finish_of x held last).0 (finish_of x held last).1
      ≡ told_lines x.reading.number x.table (map line_in (found_in x.reading held []))
  unfolding finish_of
  finish_told =
      closing.text ∙ ap (λ l. told_lines x.reading.number x.table (map line_in l)) (sym (none_left x.reading held))

  pub finish_fits : (finish_of x held last).0 ≤ length last
  unfolding finish_of
  finish_fits = omega (arith, closing.fits, closing.long)

  pub finish_long : length (finish_of x held last).1 ≡ length last
  unfolding finish_of
  finish_long = closing.long

-- ---- a whole input

-- from any session: what is written is what the lines of the bytes taken are told
driver_told : (x : Session) (held last : List ℕ) (ts : List Turn) → answer_room ≤ length last
    → written x held last ts ≡ told_lines x.reading.number x.table (map line_in (found_in x.reading held (taken x held ts)))
unfolding written taken
driver_told x held last [] room = finish_told x held last room
driver_told x held last (t ∷ ts) room =
    let z = turned x held t in
    ap (λ (l : List ℕ). take z.wrote z.out ++ l) (driver_told z.session z.held last ts room)
    ∙ sym (run_then x held t.chunk t.buffer (taken z.session z.held ts))

abbrev begin : Table
begin = fresh_table 80

begin_kept : kept begin ≡ true
begin_kept = whole_kept begin (fresh_tidy 80).whole ∙ ap well_kept (fresh_view 80) ∙ fresh_well_kept 80 refl

start_is : start_of ≡ session_of begin (fresh_of 1000000 0)
unfolding start_of
start_is = ap (λ (t : Table). session_of t (fresh_of 1000000 0)) (new_makes 80 refl)

-- What is written is the trace of the bytes taken, whatever chunks and buffers are lent: the held line has 96 places, and the last buffer room
-- for an answer.
pub driver_traces : (held last : List ℕ) (ts : List Turn) → length held ≡ 96 → answer_room ≤ length last
    → written start_of held last ts ≡ trace_of (taken start_of held ts)
unfolding trace_of
driver_traces held last ts long room =
    let input = taken start_of held ts in
    driver_told start_of held last ts room
    ∙ ap (λ (x : Session). told_lines x.reading.number x.table (map line_in (found_in x.reading held input))) start_is
    ∙ ap (told_lines 0 begin) (input_lines held input long)
    ∙ told_traces 0 begin (lines_of input) (fresh_tidy 80).whole begin_kept
    ∙ ap (trace_from 0 (lines_of input)) (fresh_view 80)

-- ---- a run gets on

module _ (x : Session) (held s out : List ℕ) where
  -- it takes all of the chunk, or leaves no room for an answer
  pub run_takes_all : leb ((run_of x held s out).wrote + answer_room) (length out) ≡ true → (run_of x held s out).used ≡ length s
  run_takes_all room =
      let p = took x held s out in
      p.all (ap (λ (n : ℕ). leb ((run_of x held s out).wrote + answer_room) n) p.answered.long ∙ room) ∙ zero-add (length s)

  -- and where there is room it takes a byte, if there is one
  pub run_moves : answer_room ≤ length out → 0 < length s → 0 < (run_of x held s out).used
  run_moves room some = (took x held s out).moves (le-leb (0 + answer_room) (length out) (omega arith)) some
