-- `finish` meets its contract: by whether closing found a last line.
-- Assumes nothing.
use mathlib.Core.Path.{sym, ◌∙◌}
use Rattle.tracing.proofs.Scanning.{finish_none, finish_answered}
use Rattle.tracing.proofs.finish.Goals as goal

pub returns-then-not-ends : goal.returns-then-not-ends
returns-then-not-ends c =
    finish_none _ _ _ _ c.close-t.ensures (sym c.ends.ensures ∙ c.if-not-ends.true)

pub returns : goal.returns
returns c =
    finish_answered _ _ _ _ c.close-t.ensures (sym c.ends.ensures ∙ c.if-not-ends.false) _ _ _ _
    c.line_in.ensures
    c.answer-said.ensures
    (rw (c.code.ensures, c.value.ensures) at c.put_answer.ensures)
