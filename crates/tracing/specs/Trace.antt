-- What is written of a whole input, as document 01 has it, "Trace lines": the input's lines, each a call of the rules, and each answer printed
-- with its line's number. Nothing is said here of chunks, buffers or tables. Assumes nothing.
use Rattle.std.specs.Prelude.{List, [], ◌∷◌, ◌++◌, ℕ, ◌+◌}
use Rattle.rules.specs.States.{State, fresh}
use Rattle.lines.specs.declared.Line.{Line}
use Rattle.lines.specs.Inputs.{lines_of}
use Rattle.printing.specs.Answers.{answer_of}
use Rattle.answering.specs.Rules.{line_step}

-- "writes line number (from 1), code, value, each line ended by CRLF", where n lines have gone before
unfoldable pub trace_from : ℕ → List Line → State → List ℕ
trace_from n [] s = []
trace_from n (l ∷ ls) s =
    answer_of (n + 1) (line_step l s).reply.code (line_step l s).reply.value ++ trace_from (n + 1) ls (line_step l s).state

-- "It starts at capacity 80."
unfoldable pub trace_of : List ℕ → List ℕ
trace_of input = trace_from 0 (lines_of input) (fresh 80)
