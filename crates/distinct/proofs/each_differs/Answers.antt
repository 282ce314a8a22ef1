-- `each_differs` meets its contract: one turn is the definition's own, in the words of `contains`.
-- Assumes nothing.
use mathlib.Core.Path.{sym, ◌∙◌}
use native.Mathlib.Omega.{arith}
use Rattle.std.proofs.lemmas.List.{drop_all}
use Prim.Native.Nat.{◌+◌}
use Rattle.lists.specs.Search.{distinct}
use Rattle.lists.proofs.Parts.{rest}
use Rattle.distinct.proofs.Marks.{differ_here}
use Rattle.distinct.proofs.each_differs.Goals as goal

pub returns-then-contains : goal.returns-then-contains
returns-then-contains c =
    let a = c.args.ids.now in
    let i = c.loop-i.i in
    let found = sym c.contains.ensures.value ∙ c.if-contains.true in
    sym (c.loop-i.invariant ∙ differ_here a i (omega arith) ∙ rw (← rest a (i + 1)) (rw found))

pub loop-i-preserved : goal.loop-i-preserved
loop-i-preserved c =
    let a = c.args.ids.now in
    let i = c.loop-i.i in
    let none = sym c.contains.ensures.value ∙ c.if-contains.false in
    c.loop-i.invariant ∙ differ_here a i (omega arith) ∙ rw (← rest a (i + 1)) (rw none)

pub returns : goal.returns
unfolding distinct
returns c =
    let a = c.args.ids.now in
    sym (c.loop-i.invariant ∙ rw (drop_all c.loop-i.i a (omega arith), distinct))
