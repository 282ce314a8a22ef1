-- `is_shut` meets its contract: the report that was tried is refused.
-- Assumes nothing.
use Rattle.std.proofs.Common.{Result, Ok, Err, refl, ap, ◌≡◌, ◌∙◌, Option}
use Rattle.std.specs.Prelude.{is_err}
use Rattle.refusal.specs.declared.Refusal.{Refusal}
use Rattle.places.specs.declared.Handed.{Handed}
use Rattle.round.specs.Rounds.{refuses, is_shut}
use Rattle.round.proofs.is_shut.Goals as goal

says : (a : Result (Option Handed) Refusal) → is_err a ≡ refuses a
says (Ok x) = refl
says (Err why) = refl

pub returns-clause-shut : goal.returns-clause-shut
unfolding is_shut
returns-clause-shut c = c.is_err.ensures.value ∙ says c.report.result ∙ ap (λ r. refuses r.answer) c.report.ensures
