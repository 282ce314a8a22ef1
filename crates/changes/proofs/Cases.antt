-- What it is for a log to be well kept, clause by clause.
-- Assumes nothing.
use Rattle.std.proofs.Common.{◌≡◌, ◌≤◌, true, not, eqb, leb, leb-true}
use borrow.Author.Tests.{eqb-false, not-true}
use Rattle.changes.specs.declared.ChangedAttrs.{ChangedAttrs}
use Rattle.changes.specs.Logs.{kept}
use Rattle.lists.proofs.Bools.{and_both}

-- a log that is well kept has at most sixteen entries
pub kept_fits : (g : ChangedAttrs) → kept g ≡ true → g.held.len ≤ 16
unfolding kept
kept_fits g h = leb-true g.held.len 16 (and_both (leb g.held.len 16) (not (eqb g.next 0)) h).0

-- and a next identity
pub kept_next : (g : ChangedAttrs) → kept g ≡ true → g.next ≡ 0 → ⊥
unfolding kept
kept_next g h = eqb-false g.next 0 (not-true (eqb g.next 0) (and_both (leb g.held.len 16) (not (eqb g.next 0)) h).1)
