-- `read_field` meets its contract. What is left of the slice is read as the whole is, from the number of the i bytes passed: so each turn is
-- one step of `field_from`, which is `field_of` by the laws of Fields.
-- Assumes nothing.
use Rattle.std.proofs.Common.{◌≡◌, ◌+◌, [], ◌∷◌, drop, get_or, sym, ap, ◌∙◌, arith}
use lib.ListN.{drop_of_length-le}
use borrow.Author.Tests.{eq-eqb, ne_eqb, eqb-true, eqb-false}
use Rattle.fields.specs.Fields.{field_of}
use Rattle.fields.proofs.Fields.{field_from, field_is}
use Rattle.lists.proofs.Parts.{drop_next}
use Rattle.fields.proofs.read_field.Goals as goal
use Rattle.fields.proofs.read_field.Goals.{After-loop-i, In-loop-i}

-- where a byte is left, and where none is
here : (c : In-loop-i) →
    let a = c.args in let k = c.loop-i in
    field_of a.most a.s.now ≡ field_from a.most k.value k.i (get_or a.s.now k.i 0 ∷ drop (k.i + 1) a.s.now)
here c = c.loop-i.invariant ∙ ap (field_from _ _ _) (drop_next _ _ 0 c.loop-i-test.true)

done : (c : After-loop-i) →
    let a = c.args in let k = c.loop-i in
    field_of a.most a.s.now ≡ field_from a.most k.value k.i []
done c = c.loop-i.invariant ∙ ap (field_from _ _ _) (drop_of_length-le _ c.loop-i-test.false)

pub loop-i-init : goal.loop-i-init
loop-i-init c = sym (field_is _ _)

pub returns-then-i-eq0 : goal.returns-then-i-eq0
unfolding field_from
returns-then-i-eq0 c =
    sym (here (goal.at.returns-then-i-eq0 c).In-loop-i ∙ simp (eq-eqb _ _ c.if-b-eq44.true, eq-eqb _ _ c.if-i-eq0.true))

pub returns-else-i-eq0 : goal.returns-else-i-eq0
unfolding field_from
returns-else-i-eq0 c =
    sym (here (goal.at.returns-else-i-eq0 c).In-loop-i ∙ simp (eq-eqb _ _ c.if-b-eq44.true, ne_eqb _ _ c.if-i-eq0.false))

pub returns-in_err-value : goal.returns-in_err-value
unfolding field_from
returns-in_err-value c =
    c.from_residual.ensures
    ∙ sym (here (goal.at.returns-in_err-value c).In-loop-i ∙ simp (ne_eqb _ _ c.if-b-eq44.false, sym c.grow.ensures, c.in_err-value.was))

pub loop-i-preserved : goal.loop-i-preserved
unfolding field_from
loop-i-preserved c =
    here (goal.at.loop-i-preserved c).In-loop-i ∙ simp (ne_eqb _ _ c.if-b-eq44.false, sym c.grow.ensures, c.in_ok-value.was)

-- at the end of the part i is its length
pub returns-then-is_empty : goal.returns-then-is_empty
unfolding field_from
returns-then-is_empty c =
    let e = eqb-true _ _ (sym c.if-is_empty.ensures) in
    sym (done (goal.at.returns-then-is_empty c).After-loop-i ∙ simp (eq-eqb c.loop-i.i 0 (omega arith)))

pub returns-else-is_empty : goal.returns-else-is_empty
unfolding field_from
returns-else-is_empty c =
    let e = eqb-false _ _ (sym c.if-is_empty.ensures) in
    sym (done (goal.at.returns-else-is_empty c).After-loop-i ∙ simp (ne_eqb c.loop-i.i 0 (λ z. e (omega arith))))
