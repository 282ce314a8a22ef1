-- How a round comes to its refusal: 7 first, then its slices, then an open report, which is where a report is refused.
-- Assumes nothing.
use Rattle.std.specs.Prelude.{Option, Some, None, Result, Ok, Err}
use mathlib.Core.Path.{◌≡◌, refl, ap, ◌∙◌}
use mathlib.Core.Bool.{Bool, true, false}
use mathlib.Core.List.{List, [], ◌∷◌}
use Prim.Native.Nat.{ℕ}
use borrow.Author.Tests.{eqb-true, not-false}
use lib.ListN.{length}
use Rattle.lists.specs.Search.{some}
use Rattle.refusal.specs.declared.Refusal.{Refusal}
use Rattle.refusal.specs.declared.Refusal.TheVariants.{BadArgument, ReportOpen}
use Rattle.subscription.specs.declared.Settings.{Settings}
use Rattle.places.specs.declared.Table.{Table}
use Rattle.places.specs.declared.Handed.{Handed}
use Rattle.rules.specs.States.{report_open}
use Rattle.rules.specs.Machine.{bad_outcome, first_of}
use Rattle.rules.specs.Numbers.{refusal_of}
use Rattle.places.specs.Views.{view, kept, refusal_at}
use Rattle.places.specs.Calls.{report_in}
use Rattle.places.specs.Agreement.{hand_out_answer, answer_by}
use Rattle.round.specs.Rounds.{bad_slices, refuses, is_shut}
use Rattle.rules.specs.Calls as call
use Rattle.lists.proofs.Bools.{split, or_neither}
use Rattle.rules.proofs.Clauses.{first_holds, first_passed, first_none, report_objects, round_objects, refusal_kept}
use Rattle.rules.proofs.Refusals.{same_refusal}
use Rattle.places.proofs.Refusing.{state_kept, past_kept}
use Rattle.places.proofs.ReportAgrees.{report_agrees}

present : Option Refusal → Bool
present None = false
present (Some why) = true

refuses_is : (a : Result (Option Handed) Refusal) → refuses a ≡ present (refusal_of (answer_by hand_out_answer a))
unfolding present
refuses_is (Ok (Some x)) = refl
refuses_is (Ok None) = refl
refuses_is (Err why) = refl

module _ (t : Table) (h : kept t ≡ true) where
  -- of a well-kept table a report is refused exactly where one is open
  pub shut_is : length t.places ≡ 80 → (at : Settings) → is_shut t at ≡ report_open (view t)
  unfolding is_shut present
  shut_is long at =
      refuses_is (report_in t at).answer
      ∙ ap present
      (ap (λ o. refusal_of o.answer) (report_agrees t long h at)
      ∙ same_refusal (call.report at) (view t)
      ∙ refusal_kept (call.report at) (view t) (state_kept t h)
      ∙ ap first_of (report_objects (view t) at))
      ∙ split (report_open (view t))
      (λ u. rw u (ap present (first_holds ReportOpen [] refl)))
      (λ u. rw u (ap present (first_passed ReportOpen [] refl ∙ first_none)))

  module _ (at : Settings) (os ids : List ℕ) where
    judged : refusal_at (call.round at os ids) t ≡ first_of ((bad_slices os (length ids), BadArgument) ∷ (report_open (view t), ReportOpen) ∷ [])
    judged = past_kept t h (call.round at os ids) ∙ ap first_of (round_objects (view t) at os ids)

    pub refused_slices : bad_slices os (length ids) ≡ true → refusal_at (call.round at os ids) t ≡ Some BadArgument
    refused_slices b = judged ∙ first_holds BadArgument _ b

    module _ (good : bad_slices os (length ids) ≡ false) where
      pub refused_shut : report_open (view t) ≡ true → refusal_at (call.round at os ids) t ≡ Some ReportOpen
      refused_shut b = judged ∙ first_passed BadArgument _ good ∙ first_holds ReportOpen [] b

      pub not_refused : report_open (view t) ≡ false → refusal_at (call.round at os ids) t ≡ None
      not_refused b = judged ∙ first_passed BadArgument _ good ∙ first_passed ReportOpen [] b ∙ first_none

-- slices that are not bad are of equal length
pub same_lengths : (os : List ℕ) (n : ℕ) → bad_slices os n ≡ false → length os ≡ n
same_lengths os n good = eqb-true (length os) n (not-false _ (or_neither (some bad_outcome os) _ good).1)
