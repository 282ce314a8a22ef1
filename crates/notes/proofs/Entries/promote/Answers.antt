-- `promote` meets its contract. It has room for the coarser entry, since at least two entries went.
-- Assumes nothing.
use mathlib.Core.Path.{◌∙◌}
use native.Mathlib.Omega.{arith}
use Rattle.notes.specs.Notes.{folded}
use Rattle.notes.proofs.Groups.{swept_room}
use Rattle.notes.proofs.Steps.{newest_is}
use Rattle.notes.proofs.Entries.promote.Goals as goal

pub push-requires : goal.push-requires
push-requires c =
    rw c.sweep.ensures (omega (arith, swept_room c.args.self.now c.args.by c.live.ensures.few c.requires))

pub returns : goal.returns
unfolding folded
returns c =
    c.push.ensures ∙ rw (c.sweep.ensures, newest_is, ← c.live.ensures.all, c.newest_of-identity.ensures)
