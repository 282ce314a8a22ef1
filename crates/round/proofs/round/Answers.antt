-- `round` meets its contract: refused with 7, for its slices or for an open report, or the turns that `serve` makes.
-- Assumes nothing.
use mathlib.Core.Path.{sym, ◌∙◌}
use Rattle.round.specs.Rounds.{round_of}
use Rattle.rules.specs.Calls as call
use Rattle.round.proofs.Refusing.{same_lengths, shut_is, refused_slices, refused_shut, not_refused}
use Rattle.places.proofs.Refusing.{unkept}
use Rattle.round.proofs.round.Goals as goal

pub returns-then-not-is_kept : goal.returns-then-not-is_kept
unfolding round_of
returns-then-not-is_kept c =
    let a = c.args in
    rw (unkept a.table.now (sym c.is_kept.ensures ∙ c.if-not-is_kept.true) (call.round a.at a.outcomes.now a.ids.now), round_of)

pub returns-then-are_bad : goal.returns-then-are_bad
unfolding round_of
returns-then-are_bad c =
    let a = c.args in
    let k = sym c.is_kept.ensures ∙ c.if-not-is_kept.false in
    rw (refused_slices a.table.now k a.at a.outcomes.now a.ids.now (sym c.are_bad.ensures ∙ c.if-are_bad.true), round_of)

pub returns-then-is_shut : goal.returns-then-is_shut
unfolding round_of
returns-then-is_shut c =
    let a = c.args in
    let k = sym c.is_kept.ensures ∙ c.if-not-is_kept.false in
    let good = sym c.are_bad.ensures ∙ c.if-are_bad.false in
    let shut = sym (shut_is a.table.now k c.is_shut.ensures.long a.at) ∙ sym c.is_shut.ensures.shut ∙ c.if-is_shut.true in
    rw (refused_shut a.table.now k a.at a.outcomes.now a.ids.now good shut, round_of)

pub serve-handouts-requires : goal.serve-handouts-requires
serve-handouts-requires c =
    same_lengths _ _ (sym c.are_bad.ensures ∙ c.if-are_bad.false)

pub returns : goal.returns
unfolding round_of
returns c =
    let a = c.args in
    let k = sym c.is_kept.ensures ∙ c.if-not-is_kept.false in
    let good = sym c.are_bad.ensures ∙ c.if-are_bad.false in
    let free = sym (shut_is a.table.now k c.is_shut.ensures.long a.at) ∙ sym c.is_shut.ensures.shut ∙ c.if-is_shut.false in
    rw (not_refused a.table.now k a.at a.outcomes.now a.ids.now good free, round_of, ← c.serve-handouts.ensures, c.is_silent.ensures)
