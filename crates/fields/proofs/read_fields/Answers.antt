-- `read_fields` meets its contract. The widths that are left, read from the part that is left, give the numbers of the whole: each turn is one
-- field of `numbers_from`, which hands on the part behind its comma.
-- Assumes nothing.
use Rattle.std.proofs.Common.{◌≡◌, ◌+◌, ℕ, List, ◌∷◌, drop, get_or, length, ◌<◌, refl, sym, ap, ◌∙◌, arith}
use native.Mathlib.Nat.{le_of_lt}
use lib.ListN.{length-drop, length-set, drop_of_length-le}
use borrow.Author.Tests.{le-leb, lt-leb}
use Rattle.fields.specs.Rows.{numbers_from, numbers_of}
use Rattle.fields.proofs.Rows.{numbers_nothing, part_begins, none_left, some_left}
use Rattle.lists.proofs.Parts.{drop_next, rest}
use Rattle.fields.proofs.read_fields.Goals as goal
use Rattle.fields.proofs.read_fields.Goals.{In-loop-j}

-- where a width is left
here : (c : In-loop-j) →
    let a = c.args in let k = c.loop-j in
    numbers_of a.widths.now (drop a.from a.s.now)
    ≡ numbers_from (get_or a.widths.now k.j 0 ∷ drop (k.j + 1) a.widths.now) k.v k.j k.rest.now
here c =
    let a = c.args in let k = c.loop-j in
    k.invariant.0 ∙ ap (λ (l : List ℕ). numbers_from l k.v k.j k.rest.now) (drop_next _ _ 0 c.loop-j-test.true)

pub returns-then-widths-gt-PLACES : goal.returns-then-widths-gt-PLACES
unfolding numbers_of
returns-then-widths-gt-PLACES c = simp (lt-leb _ _ c.if-widths-gt-PLACES.true)

pub returns-in_err-rest : goal.returns-in_err-rest
returns-in_err-rest c =
    let short : length c.args.s.now < c.args.from = omega (arith, c.in_err-rest.ensures.lookup) in
    c.from_residual.ensures ∙ sym (ap (numbers_of _) (drop_of_length-le _ (le_of_lt short)) ∙ numbers_nothing _)

pub loop-j-init : goal.loop-j-init
unfolding numbers_of
loop-j-init c =
    (simp (le-leb _ _ c.if-widths-gt-PLACES.false, c.in_ok-rest.ensures.lookup.0.2, rest), refl)

pub returns-in_err-field : goal.returns-in_err-field
unfolding numbers_from
returns-in_err-field c =
    c.from_residual-in_err-field.ensures
    ∙ sym (here (goal.at.returns-in_err-field c).In-loop-j ∙ simp (sym c.read_field.ensures, c.in_err-field.was))

pub returns-then-j-widths : goal.returns-then-j-widths
unfolding numbers_from
returns-then-j-widths c =
    sym (here (goal.at.returns-then-j-widths c).In-loop-j ∙ simp (sym c.read_field.ensures, c.in_ok-field.was, c.in_default.is, length-drop, none_left _ _ c.if-j-widths.true))

pub returns-else-j-widths : goal.returns-else-j-widths
unfolding numbers_from
returns-else-j-widths c =
    sym
    (here (goal.at.returns-else-j-widths c).In-loop-j ∙ simp (sym c.read_field.ensures, c.in_ok-field.was, c.in_default.is, length-drop, some_left _ _ c.loop-j-test.true c.if-j-widths.false))

pub slice_bounds-rest-count : goal.slice_bounds-rest-count
slice_bounds-rest-count c = part_begins _ _ _ _ (sym c.in_ok-field.was ∙ c.read_field.ensures) c.in-Some.is

pub slice_bounds-rest-start : goal.slice_bounds-rest-start
slice_bounds-rest-start c = part_begins _ _ _ _ (sym c.in_ok-field.was ∙ c.read_field.ensures) c.in-Some.is

pub loop-j-preserved : goal.loop-j-preserved
unfolding numbers_from
loop-j-preserved c =
    (here (goal.at.loop-j-preserved c).In-loop-j ∙ simp (sym c.read_field.ensures, c.in_ok-field.was, c.in-Some.is, rest), simp length-set c.loop-j.invariant.1)

pub returns : goal.returns
unfolding numbers_from
returns c = sym (c.loop-j.invariant.0 ∙ rw (drop_of_length-le _ c.loop-j-test.false))
