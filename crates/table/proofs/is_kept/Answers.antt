-- `is_kept` meets its contract: the test passes exactly where the table is well kept.
-- Assumes nothing.
use Rattle.std.proofs.Common.{◌≡◌, Bool, true, false, cond, Ok, Err, refl, ap, ◌∙◌}
use Rattle.std.specs.Prelude.{is_ok}
use Rattle.std.specs.Bool.{⊤}
use Rattle.refusal.specs.declared.Refusal.{Refusal}
use Rattle.refusal.specs.declared.Refusal.TheVariants.{NotWellKept}
use Rattle.places.specs.Views.{kept}
use Rattle.table.specs.Scans.{well_kept}
use Rattle.table.proofs.is_kept.Goals as goal

passes : (b : Bool) → is_ok {T = ⊤} {E = Refusal} (cond b (Ok tt) (Err NotWellKept)) ≡ b
passes true = refl
passes false = refl

pub returns : goal.returns
unfolding well_kept
returns c = c.is_ok.ensures.value ∙ ap is_ok c.well_kept.ensures.answer ∙ passes (kept c.args.table.now)
