-- How a call of a well-kept table comes to agree with the machine: it is refused as the machine refuses it, and else does what the machine does.
-- Assumes nothing.
use Rattle.std.specs.Prelude.{Option, Some, None}
use mathlib.Core.Path.{◌≡◌, refl, sym, ◌∙◌}
use mathlib.Core.Bool.{true}
use Rattle.refusal.specs.declared.Refusal.{Refusal}
use Rattle.places.specs.declared.Table.{Table}
use Rattle.rules.specs.Calls.{Op}
use Rattle.rules.specs.Machine.{Outcome, outcome, refusal, act, step}
use Rattle.places.specs.Views.{view, kept, refusal_at}
use Rattle.places.specs.Calls.{settled_by}
use Rattle.rules.specs.Calls as call
use Rattle.rules.proofs.Clauses.{refusal_kept}
use Rattle.rules.proofs.Refusals.{refused_alters_nothing, unrefused_acts}
use Rattle.places.proofs.Refusing.{state_kept, past_kept}

module _ {A : Type 0} (says : A → Outcome) (t : Table) (op : Op) (refuse : Refusal → A) (served : A)
    (refused : (why : Refusal) → says (refuse why) ≡ outcome (call.refused why) (view t)) where
  by_refusal : (r : Option Refusal) → refusal op (view t) ≡ r → (r ≡ None → says served ≡ act op (view t))
      → says (settled_by r refuse served) ≡ step op (view t)
  by_refusal None e g = g refl ∙ sym (unrefused_acts op (view t) e)
  by_refusal (Some why) e g = refused why ∙ sym (refused_alters_nothing op (view t) why e)

  -- a call that is refused as the machine refuses it, and else does what the machine does, agrees with it
  pub agreeing : kept t ≡ true → (refusal_at op t ≡ None → says served ≡ act op (view t))
      → says (settled_by (refusal_at op t) refuse served) ≡ step op (view t)
  agreeing h g = by_refusal (refusal_at op t) (refusal_kept op (view t) (state_kept t h) ∙ sym (past_kept t h op)) g
