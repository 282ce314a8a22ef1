-- Admissions, resumptions and notes of a well-kept table are the machine's at the state that the table stands for.
-- Where nothing objects there is a free place, and the one next to the open ones, or behind the stored ones, belongs to nobody.
-- Assumes nothing.
use mathlib.Core.Path.{◌≡◌, refl, sym, ap, ◌∙◌}
use mathlib.Core.Bool.{true}
use mathlib.Core.List.{[], ◌∷◌, ◌++◌}
use Prim.Native.Nat.{ℕ, ◌+◌, ◌<◌}
use native.Mathlib.Omega.{arith}
use lib.ListN.{length}
use Rattle.instants.specs.declared.Instant.{Instant}
use Rattle.subscription.specs.declared.Request.{Request}
use Rattle.subscription.specs.declared.Subscription.{Subscription}
use Rattle.places.specs.declared.Table.{Table}
use Rattle.changes.specs.Logs.{watermark_of}
use Rattle.subscription.specs.Life.{priming, resumed}
use Rattle.rules.specs.Machine.{outcome, with_ones, with_next, next_id_after, first_of, step}
use Rattle.places.specs.Views.{stored_of, opens_of, view, kept}
use Rattle.places.specs.Moves.{with_next_id, stored_last, opened_up}
use Rattle.places.specs.Calls.{refused_in, add_to, resume_in, note_in}
use Rattle.places.specs.Agreement.{admitted_says, note_says}
use Rattle.rules.specs.Calls as call
use Rattle.rules.proofs.Acts.{act_add, act_resume, act_note}
use Rattle.places.proofs.Agreeing.{agreeing}
use Rattle.places.proofs.Refusing.{past_kept, add_same, resume_same, room_left}
use Rattle.places.proofs.Viewing.{stored_stored, stored_opens, opened_opens, opened_stored}

module _ (t : Table) (long : length t.places ≡ 80) where
  opened_view : (x : Subscription) (n : ℕ) → t.stored + t.opens < 80
      → view (with_next_id (opened_up t x) n) ≡ with_next (with_ones (view t) (stored_of t) (x ∷ opens_of t)) n
  unfolding opened_up
  opened_view x n room =
      ap (λ l. with_next (with_ones (view t) l (opens_of (opened_up t x))) n) (opened_stored t long x room)
      ∙ ap (λ l. with_next (with_ones (view t) (stored_of t) l) n) (opened_opens t long x (omega arith))

  stored_view : (x : Subscription) (n : ℕ) → t.stored + t.opens < 80
      → view (with_next_id (stored_last t x) n) ≡ with_next (with_ones (view t) (stored_of t ++ (x ∷ [])) (opens_of t)) n
  unfolding stored_last
  stored_view x n room =
      ap (λ l. with_next (with_ones (view t) l (opens_of (stored_last t x))) n) (stored_stored t long x (omega arith))
      ∙ ap (λ l. with_next (with_ones (view t) (stored_of t ++ (x ∷ [])) l) n) (stored_opens t long x room)

  module _ (h : kept t ≡ true) where
    pub add_agrees : (request : Request) (events : ℕ) (now : Instant)
        → admitted_says (add_to t request events now) ≡ step (call.add request events now) (view t)
    unfolding add_to
    add_agrees request events now =
        agreeing admitted_says t (call.add request events now) (refused_in t) _ (λ why. refl) h
        (λ e. let clear = sym (past_kept t h (call.add request events now) ∙ ap first_of (add_same t long h request events now)) ∙ e in
        let x = priming request t.next (watermark_of t.log) events now in
        ap (λ s. outcome (call.number t.next) s)
        (opened_view x (next_id_after t.next t.next) (room_left t request t.next h clear))
        ∙ sym (act_add (view t) request events now))

    pub resume_agrees : (id : ℕ) (request : Request) (events : ℕ)
        → admitted_says (resume_in t id request events) ≡ step (call.resume id request events) (view t)
    unfolding resume_in
    resume_agrees id request events =
        agreeing admitted_says t (call.resume id request events) (refused_in t) _ (λ why. refl) h
        (λ e. let clear = sym (past_kept t h (call.resume id request events) ∙ ap first_of (resume_same t long h id request events)) ∙ e in
        let x = resumed request id (watermark_of t.log) events in
        ap (λ s. outcome (call.number id) s) (stored_view x (next_id_after t.next id) (room_left t request id h clear))
        ∙ sym (act_resume (view t) id request events))

    pub note_agrees : (e c a : ℕ) → note_says (note_in t e c a) ≡ step (call.note e c a) (view t)
    unfolding note_in
    note_agrees e c a = agreeing note_says t (call.note e c a) _ _ (λ why. refl) h (λ _. sym (act_note (view t) e c a))
