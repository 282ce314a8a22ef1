-- Lines answered one after another by a table: cut in two they are answered as the parts are; and at a whole, well-kept table what is told is
-- what the rules trace.
-- Assumes nothing.
use mathlib.Core.Path.{◌≡◌, refl, sym, ap, ◌∙◌}
use mathlib.Core.Bool.{true}
use mathlib.Core.List.{List, [], ◌∷◌, ◌++◌, append_assoc}
use Prim.Native.Nat.{ℕ, ◌+◌}
use native.Mathlib.Nat.{add-zero}
use native.Mathlib.Omega.{arith}
use lib.ListN.{length}
use Rattle.printing.specs.Answers.{answer_of}
use Rattle.lines.specs.declared.Line.{Line}
use Rattle.places.specs.declared.Table.{Table}
use Rattle.places.specs.Views.{view, kept}
use Rattle.places.specs.Tidiness.{Whole}
use Rattle.answering.specs.Answers.{answer_in}
use Rattle.answering.specs.Rules.{Said}
use Rattle.answering.proofs.Agrees.{answer_agrees, answer_whole, answer_kept}
use Rattle.tracing.specs.Trace.{trace_from}
use Rattle.tracing.specs.Runs.{text_of}

-- the answers of lines, where n lines have gone before, and the table behind them
unfoldable pub told_lines : ℕ → Table → List Line → List ℕ
told_lines n t [] = []
told_lines n t (l ∷ ls) = text_of t (n + 1) l ++ told_lines (n + 1) (answer_in t l).table ls

unfoldable pub table_behind : Table → List Line → Table
table_behind t [] = t
table_behind t (l ∷ ls) = table_behind (answer_in t l).table ls

pub behind_append : (t : Table) (ls ms : List Line) → table_behind t (ls ++ ms) ≡ table_behind (table_behind t ls) ms
unfolding table_behind
behind_append t [] ms = refl
behind_append t (l ∷ ls) ms = behind_append (answer_in t l).table ls ms

pub told_append : (n : ℕ) (t : Table) (ls ms : List Line)
    → told_lines n t (ls ++ ms) ≡ told_lines n t ls ++ told_lines (n + length ls) (table_behind t ls) ms
unfolding told_lines table_behind
told_append n t [] ms = rw add-zero
told_append n t (l ∷ ls) ms =
    let u = (answer_in t l).table in
    let e : n + 1 + length ls ≡ n + length (l ∷ ls) = omega arith in
    ap (λ (s : List ℕ). text_of t (n + 1) l ++ s)
    (told_append (n + 1) u ls ms ∙ ap (λ (k : ℕ). told_lines (n + 1) u ls ++ told_lines k (table_behind u ls) ms) e)
    ∙ sym (append_assoc (text_of t (n + 1) l) (told_lines (n + 1) u ls) (told_lines (n + length (l ∷ ls)) (table_behind u ls) ms))

-- no line, and one
pub told_none : (n : ℕ) (t : Table) → told_lines n t [] ≡ []
unfolding told_lines
told_none n t = refl

pub told_one : (n : ℕ) (t : Table) (l : Line) → told_lines n t (l ∷ []) ≡ text_of t (n + 1) l ++ []
unfolding told_lines
told_one n t l = refl

pub behind_none : (t : Table) → table_behind t [] ≡ t
unfolding table_behind
behind_none t = refl

pub behind_one : (t : Table) (l : Line) → table_behind t (l ∷ []) ≡ (answer_in t l).table
unfolding table_behind
behind_one t l = refl

-- by the rules
pub told_traces : (n : ℕ) (t : Table) (ls : List Line) → Whole t → kept t ≡ true → told_lines n t ls ≡ trace_from n ls (view t)
unfolding told_lines trace_from
told_traces n t [] w h = refl
told_traces n t (l ∷ ls) w h =
    ap (λ (s : List ℕ). text_of t (n + 1) l ++ s) (told_traces (n + 1) (answer_in t l).table ls (answer_whole t w l) (answer_kept t w h l))
    ∙ ap (λ (s : Said). answer_of (n + 1) s.reply.code s.reply.value ++ trace_from (n + 1) ls s.state) (answer_agrees t w h l)
