-- `starts` meets its contract: `begins` is the library's test.
-- Assumes nothing.
use Rattle.std.proofs.Common.{◌∙◌}
use Rattle.lines.proofs.Lines.{starts_begins}
use Rattle.lines.proofs.starts.Goals as goal

pub returns : goal.returns
returns c = c.starts_with.ensures.value ∙ starts_begins _ _
