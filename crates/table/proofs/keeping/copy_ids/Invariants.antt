-- `copy_ids` meets its contract. The invariant: the ids so far are those of the subscriptions so far, and the rest is as it was.
-- Assumes nothing.
use Rattle.std.proofs.Common.{◌≡◌, ◌++◌, map, take, drop}
use Rattle.subscription.specs.declared.Subscription.{Subscription}
use Rattle.table.proofs.keeping.copy_ids.Given as goal

abbrev pub invariant-loop-i : goal.invariant-loop-i
invariant-loop-i l = l.ids ≡ map (λ (x : Subscription). x.id) (take l.i l.xs) ++ drop l.i l.initial.ids
