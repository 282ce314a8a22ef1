-- `swept` meets its contract: the sweep is of the stored places by the choice, and what it vacated is filled with blanks.
-- Assumes nothing.
use Rattle.std.proofs.Common.{◌≡◌, ◌∙◌, ◌++◌, ap, arith, rules, length, drop, replicate, length-append}
use borrow.Rule.Slice.PartMut.{mid_len}
use lib.Seq.{length-take-le}
use Rattle.subscription.specs.Life.{blank}
use Rattle.places.specs.Moves.{with_places, swept_from, swept_out}
use Rattle.choices.specs.Choices.{chosen}
use Rattle.table.proofs.Sweeping.{swept_whole}
use Rattle.table.proofs.moves.swept.Goals as goal

pub returns : goal.returns
unfolding swept_out
returns c =
    let t = c.args.table.now in
    let s = c.sweep-left in
    let long = c.requires.1 in
    let is : length s.new.places ≡ t.stored = omega (arith, s.auto.places, length-take-le t.stored t.places (omega arith)) in
    let p = chosen c.args.choice in
    let all = s.new.places ++ drop t.stored t.places in
    let many = mid_len s.result t.stored all (omega (arith, length-append s.new.places (drop t.stored t.places))) in
    let w = swept_whole p t.places s.new.places c.fill.new.self t.stored s.result (omega arith) s.ensures.within is
    (s.ensures.stays p (λ x b k. search rules))
    (c.fill.ensures.after (λ y k. k) ∙ ap (λ k. replicate k blank) many) in
    ap (λ l. with_places t l s.result t.opens) w.0 ∙ ap (λ n. with_places t (swept_from p t.stored 0 t.stored t.places).places n t.opens) w.1
