-- A report of a well-kept table is the machine's report at the state that the table stands for: the same answer, the same state.
-- The scans look for what the machine looks for, since of one log the greatest identity tells what is pending for everyone.
-- Assumes nothing.
use mathlib.Core.Path.{◌≡◌, refl, sym, ap, ◌∙◌, fun_ext}
use mathlib.Core.Bool.{true}
use mathlib.Core.List.{◌∷◌}
use Prim.Native.Nat.{◌-◌, ◌<◌}
use native.Mathlib.Omega.{arith}
use borrow.Author.Tests.{ltb-true}
use lib.Dec.{ltb}
use lib.ListN.{length, get_or, set, length-set}
use lib.Seq.{get_or-take}
use Rattle.subscription.specs.declared.Settings.{Settings}
use Rattle.subscription.specs.declared.Subscription.{Subscription}
use Rattle.places.specs.declared.Table.{Table}
use Rattle.lists.specs.Search.{some, first_by}
use Rattle.lists.specs.Removal.{take_out}
use Rattle.changes.specs.Logs.{watermark_of, newest_of}
use Rattle.subscription.specs.When.{reportable}
use Rattle.subscription.specs.Life.{blank, opened}
use Rattle.rules.specs.Machine.{outcome, with_ones, opened_in, next_up, ready, reported, step}
use Rattle.places.specs.Views.{stored_of, opens_of, view, kept}
use Rattle.places.specs.Tests.{ready_by}
use Rattle.places.specs.Moves.{taken_out, opened_up}
use Rattle.places.specs.Calls.{first_ready, handed_out, hand_out_in, refused_in, report_in}
use Rattle.places.specs.Agreement.{report_says}
use Rattle.rules.specs.Calls as call
use Rattle.lists.proofs.Bools.{split}
use Rattle.lists.proofs.Places.{first_at}
use Rattle.changes.proofs.Promises.{newest_any}
use Rattle.rules.proofs.Acts.{ready_is, act_report, reported_one, reported_none}
use Rattle.places.proofs.Finding.{stored_there}
use Rattle.places.proofs.Agreeing.{agreeing}
use Rattle.places.proofs.Refusing.{kept_counts}
use Rattle.places.proofs.Viewing.{taken_stored, taken_opens, opened_opens, opened_stored}

module _ (t : Table) (long : length t.places ≡ 80) (h : kept t ≡ true) (at : Settings) where
  -- what the scan looks for is what the machine does
  pub same_ready : ready_by at (newest_of t.log) ≡ ready at (view t)
  unfolding ready_by
  same_ready =
      fun_ext
      (λ x. sym
      (ready_is at (view t) x
      ∙ ap (λ b. reportable x at.now b at.events at.kind at.all) (newest_any t.log x.seen)))

  -- and it finds the same
  pub same_found : ltb (first_ready t at) t.stored ≡ some (ready at (view t)) (stored_of t)
  unfolding first_ready
  same_found =
      let b = kept_counts t h in
      stored_there t long (omega arith) (ready_by at (newest_of t.log)) refl ∙ ap (λ p. some p (stored_of t)) same_ready

  module _ (there : ltb (first_ready t at) t.stored ≡ true) where
    within : first_ready t at < t.stored
    within = ltb-true (first_ready t at) t.stored there

    same_one : get_or t.places (first_ready t at) blank ≡ next_up at (view t)
    unfolding first_ready
    same_one =
        sym (get_or-take t.stored t.places (first_ready t at) blank within)
        ∙ sym (first_at (ready_by at (newest_of t.log)) blank (stored_of t))
        ∙ ap (λ p. first_by p blank (stored_of t)) same_ready

    same_stored : stored_of (taken_out t (first_ready t at)) ≡ take_out (ready at (view t)) (stored_of t)
    unfolding first_ready
    same_stored =
        let b = kept_counts t h in
        taken_stored t long (ready_by at (newest_of t.log)) (omega arith) within ∙ ap (λ p. take_out p (stored_of t)) same_ready

    same_view : (y : Subscription)
        → view (opened_up (taken_out t (first_ready t at)) y) ≡ with_ones (view t) (take_out (ready at (view t)) (stored_of t)) (y ∷ opens_of t)
    unfolding taken_out opened_up
    same_view y =
        let i = first_ready t at in
        let b = kept_counts t h in
        let w = within in
        let m = set t.places i (get_or t.places (t.stored - 1) blank) in
        let size : length (taken_out t i).places ≡ 80 =
        length-set m (t.stored - 1) blank ∙ length-set t.places i (get_or t.places (t.stored - 1) blank) ∙ long in
        ap (λ l. with_ones (view t) l (opens_of (opened_up (taken_out t i) y))) (opened_stored (taken_out t i) size y (omega arith) ∙ same_stored)
        ∙ ap (λ l. with_ones (view t) (take_out (ready at (view t)) (stored_of t)) l)
        (opened_opens (taken_out t i) size y (omega arith) ∙ ap (λ l. y ∷ l) (taken_opens t long i b w))

    handed_same : report_says (handed_out t at (first_ready t at)) ≡ reported at (view t)
    unfolding handed_out
    handed_same =
        let x = get_or t.places (first_ready t at) blank in
        let y = opened x (watermark_of t.log) at.events at.now in
        ap (λ s. outcome (call.handed x.id x.rx) s) (same_view y)
        ∙ ap (λ z. outcome (call.handed z.id z.rx)
        (with_ones (view t) (take_out (ready at (view t)) (stored_of t)) (opened_in at (view t) z ∷ opens_of t))) same_one
        ∙ sym (reported_one at (view t) (sym same_found ∙ there))

  acted_same : report_says (hand_out_in t at) ≡ reported at (view t)
  unfolding hand_out_in
  acted_same =
      split (ltb (first_ready t at) t.stored)
      (λ u. rw (u, hand_out_in) (handed_same u))
      (λ u. rw (u, hand_out_in) (sym (reported_none at (view t) (sym same_found ∙ u))))

  -- the same answer, and the same state after it
  pub report_agrees : report_says (report_in t at) ≡ step (call.report at) (view t)
  unfolding report_in
  report_agrees =
      agreeing report_says t (call.report at) (refused_in t) (hand_out_in t at) (λ why. refl) h (λ _. acted_same ∙ sym (act_report at (view t)))
