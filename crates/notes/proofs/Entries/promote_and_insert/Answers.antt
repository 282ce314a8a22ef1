-- `promote_and_insert` meets its contract: the three returns are the cases of `crowded`. A group that is folded covers at least two entries,
-- so that there is room for the note.
-- Assumes nothing.
use mathlib.Core.Path.{ap, ◌∙◌}
use Rattle.entries.specs.declared.Level.TheVariants.{Cluster, Endpoint}
use Rattle.notes.specs.Notes.{placed}
use Rattle.notes.proofs.Groups.{largest_covers, folded_room}
use Rattle.notes.proofs.Cases.{crowded_fine, crowded_coarse, crowded_wild}
use Rattle.notes.proofs.Entries.promote_and_insert.Goals as goal

pub promote-requires : goal.promote-requires
promote-requires c =
    largest_covers c.args.self.now Cluster (rw c.live.ensures.all at c.largest_group-fine.ensures) c.if-fine-gt1.true

pub insert-requires : goal.insert-requires
insert-requires c =
    let l = c.args.self.now in
    let fine = rw c.live.ensures.all at c.largest_group-fine.ensures in
    rw c.promote.ensures (folded_room l _ c.live.ensures.few (largest_covers l Cluster fine c.if-fine-gt1.true))

pub returns-then-fine-gt1 : goal.returns-then-fine-gt1
returns-then-fine-gt1 c =
    let fine = rw c.live.ensures.all at c.largest_group-fine.ensures in
    c.insert.ensures ∙ ap (placed c.args.new) c.promote.ensures ∙ crowded_fine c.args.new c.args.self.now fine c.if-fine-gt1.true

pub promote-requires-then-coarse-gt1 : goal.promote-requires-then-coarse-gt1
promote-requires-then-coarse-gt1 c =
    largest_covers c.args.self.now Endpoint (rw c.live-2.ensures.all at c.largest_group-coarse.ensures) c.if-coarse-gt1.true

pub insert-requires-then-coarse-gt1 : goal.insert-requires-then-coarse-gt1
insert-requires-then-coarse-gt1 c =
    let l = c.args.self.now in
    let coarse = rw c.live-2.ensures.all at c.largest_group-coarse.ensures in
    rw c.promote-then-coarse-gt1.ensures (folded_room l _ c.live.ensures.few (largest_covers l Endpoint coarse c.if-coarse-gt1.true))

pub returns-then-coarse-gt1 : goal.returns-then-coarse-gt1
returns-then-coarse-gt1 c =
    let fine = rw c.live.ensures.all at c.largest_group-fine.ensures in
    let coarse = rw c.live-2.ensures.all at c.largest_group-coarse.ensures in
    c.insert-then-coarse-gt1.ensures
    ∙ ap (placed c.args.new) c.promote-then-coarse-gt1.ensures
    ∙ crowded_coarse c.args.new c.args.self.now fine coarse c.if-fine-gt1.false c.if-coarse-gt1.true

pub returns : goal.returns
returns c =
    let fine = rw c.live.ensures.all at c.largest_group-fine.ensures in
    let coarse = rw c.live-2.ensures.all at c.largest_group-coarse.ensures in
    c.stand_for_all.ensures ∙ crowded_wild c.args.new c.args.self.now fine coarse c.if-fine-gt1.false c.if-coarse-gt1.false
