-- `ended` meets its contract: the two ways meet behind the flag, and on each the table is the definition's.
-- Assumes nothing.
use Rattle.std.proofs.Common.{◌≡◌, ℕ, Bool, true, false, cond, get_or, Ok, ◌∙◌}
use Rattle.subscription.specs.declared.Subscription.{Subscription}
use Rattle.places.specs.declared.Table.{Table}
use Rattle.subscription.specs.Life.{blank, failed, closed}
use Rattle.places.specs.Moves.{with_reason, stored_last, closed_at}
use Rattle.places.specs.Calls.{tabled, stays_after, ended_at}
use Rattle.table.proofs.moves.ended.Goals.{then-kept, else-kept}
use Rattle.table.proofs.moves.ended.Goals as goal

-- what the two ways leave, each by its flag
module _ (t : Table) (j o : ℕ) where
  abbrev x : Subscription
  x = get_or t.places j blank

  abbrev reason : ℕ
  reason = cond x.reporting 0 t.cancel

  told : {kept quiet : Bool} {u : Table} → kept ≡ stays_after t.cancel x o → quiet ≡ failed x o
      → u ≡ cond kept (stored_last (with_reason (closed_at t j) reason) (closed x o)) (with_reason (closed_at t j) reason)
      → tabled (Ok (record { kept = kept; failed = quiet })) u ≡ ended_at t j o
  unfolding ended_at stored_last closed_at
  told {kept = true} e f g = rw (← e, ← f, g)
  told {kept = false} e f g = rw (← e, ← f, g)

pub returns : goal.returns
unfolding closed_at
returns c =
    let a = c.args in
    let r = c.reason_after-table.ensures in
    told a.table.now a.at a.outcome c.stays-kept.ensures c.has_failed.ensures
    (elim c.if-kept.branch [
      | then-kept w ↦ w.table-is ∙ w.stored_last.ensures ∙ rw (w.if-kept.true, w.close.ensures, r)
      | else-kept w ↦ w.table-is ∙ rw (w.if-kept.false, r)
    ])
