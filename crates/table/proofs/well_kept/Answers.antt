-- `well_kept` meets its contract: with the counts within the capacity each test is a clause of the rule.
-- Assumes nothing.
use Rattle.std.proofs.Common.{◌≡◌, ◌-◌, true, false, sym, ◌∙◌, arith, length-drop, length-take-le}
use Rattle.places.specs.Views.{kept}
use Rattle.table.specs.Scans.{well_kept}
use Rattle.table.proofs.Inside.{not_within, counts_fit, within_kept}
use Rattle.table.proofs.well_kept.Goals as goal
use Rattle.table.proofs.well_kept.Goals.{else-within-via-then-within+then-is_kept+else-is_sound, else-within-via-then-within+else-is_kept, else-within-via-else-within}

pub is_sound-requires : goal.is_sound-requires
is_sound-requires c =
    let t = c.args.table.now in
    let long = c.stored-stored.ensures.long in
    let b = counts_fit t long (sym c.within.ensures ∙ c.if-within.true) in
    rw (c.stored-stored.ensures.are, c.open-open.ensures)
    (omega (arith, length-take-le t.stored t.places (omega arith), length-drop (80 - t.opens) t.places))

pub returns-then-is_sound-clause-answer : goal.returns-then-is_sound-clause-answer
unfolding well_kept
returns-then-is_sound-clause-answer c =
    let t = c.args.table.now in
    let k : kept t ≡ true =
    within_kept t c.stored-stored.ensures.long (sym c.within.ensures ∙ c.if-within.true)
    ∙ rw (sym c.is_kept.ensures ∙ c.if-is_kept.true, ← c.stored-stored.ensures.are, ← c.open-open.ensures) (sym c.is_sound.ensures ∙ c.if-is_sound.true) in
    rw (k, well_kept)

pub returns-else-within-clause-answer : goal.returns-else-within-clause-answer
unfolding well_kept
returns-else-within-clause-answer c =
    let t = c.args.table.now in
    let k : kept t ≡ false =
    elim c.else-within.branch [
      | else-within-via-then-within+then-is_kept+else-is_sound w ↦
          within_kept t c.stored-stored.ensures.long (sym c.within.ensures ∙ w.if-within.true)
          ∙ rw (sym w.is_kept.ensures ∙ w.if-is_kept.true, ← c.stored-stored.ensures.are, ← c.open-open.ensures) (sym w.is_sound.ensures ∙ w.if-is_sound.false)
      | else-within-via-then-within+else-is_kept w ↦
          within_kept t c.stored-stored.ensures.long (sym c.within.ensures ∙ w.if-within.true) ∙ rw (sym w.is_kept.ensures ∙ w.if-is_kept.false)
      | else-within-via-else-within w ↦ not_within t (sym c.within.ensures ∙ w.if-within.false)
    ] in
    rw (k, well_kept)
