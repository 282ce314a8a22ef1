-- `fed` is safe and ends: where a byte is left, a scan uses some, and none behind the end of the chunk.
-- Assumes nothing.
use Rattle.std.proofs.Common.{◌≡◌, ◌-◌, ◌<◌, ◌≤◌, ℕ, List, false, eqb, length, take, drop, ap, sym, arith, length-drop}
use borrow.Author.Tests.{eqb-false}
use Rattle.cutting.specs.Steps.{scan_of}
use Rattle.cutting.specs.declared.Reading.{Reading}
use Rattle.cutting.specs.declared.Scanned.{Scanned}
use Rattle.cutting.proofs.Scans.{scan_is}
use Rattle.lists.proofs.Parts.{rest}
use Rattle.replay.proofs.Comparison.fed.Goals as goal

module _ (t : Scanned) (r : Reading) (held held' s : List ℕ) (e : (t, held') ≡ scan_of r held s) where
  used : t.used ≡ (scan_of r held s).0.used
  used = ap (λ (x : Scanned × List ℕ). x.0.used) e

  within : t.used ≤ length s
  within = omega (arith, used, (scan_is r held s).within)

  gets_on : eqb (length s) 0 ≡ false → length (take (length s - t.used) (drop t.used s)) < length s
  gets_on more =
      let some : 0 < length s = omega (arith, eqb-false (length s) 0 more) in
      rw rest (omega (arith, length-drop t.used s, used, some, (scan_is r held s).moves some))

pub slice_bounds-rest-count : goal.slice_bounds-rest-count
slice_bounds-rest-count g c = within _ _ _ _ _ c.scan-t.ensures

pub slice_bounds-rest-start : goal.slice_bounds-rest-start
slice_bounds-rest-start g c = within _ _ _ _ _ c.scan-t.ensures

pub loop-rest-smaller : goal.loop-rest-smaller
loop-rest-smaller g c = gets_on _ _ _ _ _ c.scan-t.ensures (sym c.loop-rest-test.ensures)
