-- `refresh` meets its contract: a store among the entries.
-- Assumes nothing.
use Rattle.notes.proofs.Steps.{renewed}
use Rattle.notes.proofs.Entries.refresh.Goals as goal

pub returns : goal.returns
returns c =
    let f = c.self.inside in
    rw (← c.self.view_is) (renewed f.places f.len c.args.at c.args.identity (rw (← c.self.view_is) at c.requires))
