-- What a run takes and writes: the lines that were found in the bytes taken, each answered in turn. It stops behind the chunk or where there
-- is no room for another answer, and what it writes is within the buffer.
-- Assumes nothing.
use mathlib.Core.Path.{◌≡◌, refl, sym, ap, ◌∙◌}
use mathlib.Core.Bool.{true}
use mathlib.Core.List.{List, [], ◌∷◌, ◌++◌, map, map-append, append-nil, append_assoc}
use Prim.Native.Nat.{ℕ, suc, ◌+◌, ◌-◌, ◌≤◌, ◌<◌}
use native.Mathlib.Nat.{add-zero}
use native.Mathlib.Omega.{arith}
use lib.ListN.{length, length-map, take}
use borrow.Author.Tests.{leb-true}
use Rattle.lists.proofs.Bools.{split, clash}
use Rattle.cutting.specs.declared.Found.{Found}
use Rattle.cutting.specs.declared.Found.TheVariants as found
use Rattle.cutting.specs.declared.Reading.{Reading}
use Rattle.cutting.specs.declared.Stepped.{Stepped}
use Rattle.cutting.specs.Steps.{step_of, text_in}
use Rattle.cutting.specs.Steps.{after as read_behind, found as texts_in}
use Rattle.cutting.proofs.Steps.{after_none, after_next, none_found, next_found}
use Rattle.cutting.proofs.Scans.{step_counts}
use Rattle.lines.specs.declared.Line.{Line}
use Rattle.lines.specs.declared.Line.TheVariants.{Bad}
use Rattle.lines.specs.Lines.{line_of}
use Rattle.lines.specs.Inputs.{line_in}
use Rattle.lines.proofs.Inputs.{whole_line, bad_line}
use Rattle.printing.specs.Answers.{answer_room}
use Rattle.printing.proofs.Written.{answer_written}
use Rattle.places.specs.declared.Table.{Table}
use Rattle.answering.specs.Answers.{answer_in}
use Rattle.answering.specs.Replies.{coded}
use Rattle.tracing.specs.Runs.{Work, moved, text_of, answered_to, told, byte_in, run_from}
use Rattle.tracing.proofs.Scanning.{Room, run_full, run_done, run_next}
use Rattle.tracing.proofs.Telling.{told_lines, table_behind, behind_append, told_append, told_none, told_one, behind_none, behind_one}

-- from x to y the lines ls are answered: the table behind them, the text of their answers, a buffer as long as before
pub record Answers (x y : Work) (ls : List Line) : Type 0 where
  pub table : y.session.table ≡ table_behind x.session.table ls
  pub text : take y.wrote y.out ≡ take x.wrote x.out ++ told_lines x.session.reading.number x.session.table ls
  pub long : length y.out ≡ length x.out
  pub fits : y.wrote ≤ length y.out

-- k bytes more, and what they found
module _ (x : Work) (r : Reading) (held : List ℕ) (k : ℕ) (fits : x.wrote ≤ length x.out) where
  abbrev there : Work
  there = moved x r held k

  still : Answers x there []
  still = record {
    table = sym (behind_none x.session.table);
    text =
        sym (ap (λ (s : List ℕ). take x.wrote x.out ++ s) (told_none x.session.reading.number x.session.table)
        ∙ append-nil (take x.wrote x.out));
    long = refl;
    fits = fits;
  }

  answers_one : (l : Line) → Room x ≡ true → r.number ≡ x.session.reading.number + 1 → Answers x (answered_to there l) (l ∷ [])
  unfolding answered_to
  answers_one l room e =
      let t = x.session.table in
      let w = answer_written x.out x.wrote r.number (coded (answer_in t l).answer).code (coded (answer_in t l).answer).value (leb-true (x.wrote + answer_room) (length x.out) room) in
      record {
        table = sym (behind_one t l);
        text =
            w.stands
            ∙ ap (λ (n : ℕ). take x.wrote x.out ++ text_of t n l) e
            ∙ sym (ap (λ (s : List ℕ). take x.wrote x.out ++ s)
            (told_one x.session.reading.number t l ∙ append-nil (text_of t (x.session.reading.number + 1) l)));
        long = w.long;
        fits = rw w.long w.fits;
      }

  -- what was found is answered
  pub found_answered : (f : Found) → Room x ≡ true → r.number ≡ x.session.reading.number + length (text_in held f)
      → Answers x (told there f) (map line_in (text_in held f))
  found_answered found.Nothing room e = still
  found_answered found.Bad room e = rw bad_line (answers_one Bad room e)
  found_answered (found.Whole n) room e = rw whole_line (answers_one (line_of (take n held)) room e)

told_used : (x : Work) (f : Found) → (told x f).used ≡ x.used
unfolding answered_to
told_used x found.Nothing = refl
told_used x found.Bad = refl
told_used x (found.Whole n) = refl

told_reading : (x : Work) (f : Found) → (told x f).session.reading ≡ x.session.reading
unfolding answered_to
told_reading x found.Nothing = refl
told_reading x found.Bad = refl
told_reading x (found.Whole n) = refl

told_held : (x : Work) (f : Found) → (told x f).held ≡ x.held
unfolding answered_to
told_held x found.Nothing = refl
told_held x found.Bad = refl
told_held x (found.Whole n) = refl

-- the lines that end in bytes
abbrev pub lines_in : Work → List ℕ → List Line
lines_in x s = map line_in (texts_in x.session.reading x.held s)

-- from x to y the first bytes of s are taken
pub record Took (x : Work) (s : List ℕ) (y : Work) : Type 0 where
  pub from : x.used ≤ y.used
  pub within : y.used ≤ x.used + length s
  pub read : (y.session.reading, y.held) ≡ read_behind x.session.reading x.held (take (y.used - x.used) s)
  pub answered : Answers x y (lines_in x (take (y.used - x.used) s))
  pub all : Room y ≡ true → y.used ≡ x.used + length s
  pub moves : Room x ≡ true → 0 < length s → x.used < y.used

nothing : (x : Work) (s : List ℕ) → x.wrote ≤ length x.out → (Room x ≡ true → length s ≡ 0) → Took x s x
nothing x s fits end =
    let none : x.used - x.used ≡ 0 = omega arith in
    record {
      from = omega arith;
      within = omega arith;
      read = rw (none, after_none x.session.reading x.held);
      answered = rw (none, none_found x.session.reading x.held) (rw add-zero at (still x x.session.reading x.held 0 fits));
      all = λ room. omega (arith, end room);
      moves = λ room some. let o : ⊥ = omega (arith, end room) in absurd o;
    }

-- a byte, and the rest behind it
module _ (x : Work) (b : ℕ) (s : List ℕ) (y : Work) (fits : x.wrote ≤ length x.out) (room : Room x ≡ true) where
  abbrev r : Reading
  r = x.session.reading

  abbrev step : Stepped × List ℕ
  step = step_of r x.held b

  abbrev there_on : Work
  there_on = moved x step.0.reading step.1 1

  abbrev next : Work
  next = told there_on step.0.found

  abbrev ended : List Line
  ended = map line_in (text_in step.1 step.0.found)

  first : Answers x next ended
  first = found_answered x step.0.reading step.1 1 fits step.0.found room (step_counts r x.held b)

  -- the lines of the rest, from what stands behind the byte
  behind : List ℕ → List Line
  behind q = map line_in (texts_in step.0.reading step.1 q)

  two : (q : List ℕ) → Answers next y (behind q) → Answers x y (ended ++ behind q)
  unfolding behind
  two q p =
      let n = next.session.reading.number in
      let e : n ≡ r.number + length ended =
      ap (λ (z : Reading). z.number) (told_reading there_on step.0.found)
      ∙ step_counts r x.held b
      ∙ ap (λ (k : ℕ). r.number + k) (sym (length-map (text_in step.1 step.0.found) line_in)) in
      record {
        table = p.table ∙ ap (λ (t : Table). table_behind t (behind q)) first.table ∙ sym (behind_append x.session.table ended (behind q));
        text =
            p.text
            ∙ ap (λ (k : List ℕ). k ++ told_lines n next.session.table (behind q)) first.text
            ∙ append_assoc (take x.wrote x.out) (told_lines r.number x.session.table ended) (told_lines n next.session.table (behind q))
            ∙ ap (λ (k : List ℕ). take x.wrote x.out ++ k)
            (ap (λ (k : ℕ). told_lines r.number x.session.table ended ++ told_lines k next.session.table (behind q)) e
            ∙ ap (λ (t : Table). told_lines r.number x.session.table ended ++ told_lines (r.number + length ended) t (behind q)) first.table
            ∙ sym (told_append r.number x.session.table ended (behind q)));
        long = p.long ∙ first.long;
        fits = p.fits;
      }

  more : Took next s y → Took x (b ∷ s) y
  unfolding behind
  more p =
      let u = told_used there_on step.0.found in
      let g = told_reading there_on step.0.found in
      let h = told_held there_on step.0.found in
      let m : y.used - x.used ≡ suc (y.used - next.used) = omega (arith, p.from) in
      let q = take (y.used - next.used) s in
      record {
        from = omega (arith, p.from);
        within = omega (arith, p.within);
        read =
            rw (m, after_next r x.held b q)
            (p.read ∙ ap (λ (z : Reading). read_behind z next.held q) g ∙ ap (λ (l : List ℕ). read_behind step.0.reading l q) h);
        answered =
            rw (m, next_found r x.held b q, map-append)
            (two q (rw (g, h) at p.answered));
        all = λ full. omega (arith, p.all full);
        moves = λ room some. omega (arith, p.from);
      }

pub takes : (x : Work) (s : List ℕ) → x.wrote ≤ length x.out → Took x s (run_from x s)
unfolding byte_in
takes x [] fits = rw (run_done x) (nothing x [] fits (λ room. refl))
takes x (b ∷ s) fits =
    split (Room x)
    (λ room. rw (run_next x b s room)
    (more x b s (run_from (byte_in x b) s) fits room (takes (byte_in x b) s (first x b s x fits room).fits)))
    (λ full. rw (run_full x (b ∷ s) full) (nothing x (b ∷ s) fits (λ room. absurd (clash room full))))
