-- `sweep` meets its contract: a turn is one turn of the scan.
-- Assumes nothing.
use mathlib.Core.Path.{refl, sym, ap, ◌∙◌}
use native.Mathlib.Nat.{le_refl}
use native.Mathlib.Omega.{arith}
use lib.ListN.{get_or, set, length, length-set}
use Prim.Native.Nat.{◌-◌}
use lib.Seq.{take-length}
use Rattle.std.proofs.lemmas.List.{get_or_default}
use Rattle.lists.specs.Removal.{scanned}
use Rattle.lists.proofs.Arrays.{scan_start, scan_out, scan_kept, scan_done}
use Rattle.sweeping.proofs.sweep.Goals as goal

pub loop-i-init : goal.loop-i-init
loop-i-init g c =
    let l = c.args.places.now in record {
      before = omega arith;
      within = omega arith;
      rest = λ p acts. rw (take-length l) at (scan_start p (length l) l (le_refl (length l)));
    }

pub loop-i-preserved-then-test : goal.loop-i-preserved-then-test
loop-i-preserved-then-test g c =
    let k = c.loop-i in record {
      before = omega arith;
      within = simp length-set (omega arith);
      rest = λ p acts.
          let hit = sym (acts (get_or k.places k.i c.index-places-i.result) c.test.result (record { shown = _; shows = refl; says = record { met = c.test.ensures } })) ∙ c.if-test.true in
          let d = c.index-places-i.result in
          let last = c.index-places-n.is ∙ get_or_default k.places (k.n - 1) c.index-places-n.result d (omega arith) in
          k.invariant.rest p acts
          ∙ scan_out p k.i k.n k.places d (omega arith) (omega arith) hit
          ∙ ap (λ y. scanned p k.i (k.n - 1) (set k.places k.i y)) (sym last);
    }

pub loop-i-preserved : goal.loop-i-preserved
loop-i-preserved g c =
    let k = c.loop-i in record {
      before = omega arith;
      within = omega arith;
      rest = λ p acts.
          let miss = sym (acts (get_or k.places k.i c.index-places-i.result) c.test.result (record { shown = _; shows = refl; says = record { met = c.test.ensures } })) ∙ c.if-test.false in
          k.invariant.rest p acts ∙ scan_kept p k.i k.n k.places c.index-places-i.result (omega arith) (omega arith) miss;
    }

pub returns-clause-stays : goal.returns-clause-stays
returns-clause-stays g c =
    let k = c.loop-i in
    λ p acts. sym (k.invariant.rest p acts ∙ scan_done p k.n k.places (omega arith) k.i (omega arith) (omega arith))
