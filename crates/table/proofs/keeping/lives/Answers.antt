-- `lives` meets its contract: the ids of both regions stand behind one another, and what is asked of each is told of both.
-- Assumes nothing.
use Rattle.std.proofs.Common.{◌≡◌, ◌-◌, ◌∙◌, length, refl}
use Rattle.lists.specs.Search.{some}
use borrow.Rule.Slice.PartMut.{same_len_mid}
use Rattle.rules.specs.States.{fabric_zero}
use Rattle.lists.proofs.Searches.{some_append}
use Rattle.table.proofs.Asked.{asked}
use Rattle.table.proofs.Steps.{both_ids}
use Rattle.table.proofs.keeping.lives.Goals as goal
use Rattle.table.proofs.keeping.lives.Goals.{then-any_orphan, else-any_orphan}

pub returns : goal.returns
returns c =
    let s = c.args.stored.now in
    let o = c.args.opens.now in
    let in_front : c.any_orphan.result ≡ some fabric_zero s = asked fabric_zero refl c.any_orphan.ensures in
    record {
      long = same_len_mid (length s) (80 - length s) c.copy_ids.new.ids c.copy_ids-2.new.ids c.copy_ids-2.auto.ids ∙ c.copy_ids.auto.ids;
      ids_are = both_ids s o _ _ _ c.copy_ids.ensures c.copy_ids-2.ensures;
      orphan_is = elim c.if-any_orphan.branch [
        | then-any_orphan w ↦ rw (w.result-is, some_append fabric_zero s o, ← in_front, w.if-any_orphan.true)
        | else-any_orphan w ↦
            rw (w.result-is, some_append fabric_zero s o, ← in_front, w.if-any_orphan.false) (asked fabric_zero refl w.any_orphan-else-any_orphan.ensures)
      ];
      reports_are = c.count_reports.ensures;
    }
