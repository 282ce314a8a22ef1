-- What lasts through every move lasts through every call: a whole table stays whole, and a tidy one tidy.
-- Assumes nothing.
use Rattle.std.specs.Prelude.{Option, Some, None}
use mathlib.Core.Path.{◌≡◌, refl, sym, ap, ◌∙◌}
use mathlib.Core.Bool.{true}
use Prim.Native.Nat.{ℕ, ◌<◌}
use native.Mathlib.Omega.{arith}
use borrow.Author.Tests.{ltb-true}
use lib.Dec.{ltb}
use lib.ListN.{get_or}
use Rattle.refusal.specs.declared.Refusal.{Refusal}
use Rattle.instants.specs.declared.Instant.{Instant}
use Rattle.choices.specs.declared.Choice.{Choice}
use Rattle.subscription.specs.declared.Request.{Request}
use Rattle.subscription.specs.declared.Settings.{Settings}
use Rattle.places.specs.declared.Table.{Table}
use Rattle.subscription.specs.Life.{blank, closed}
use Rattle.choices.specs.Choices.{chosen}
use Rattle.rules.specs.Calls.{Op}
use Rattle.rules.specs.Machine.{first_of}
use Rattle.places.specs.Views.{kept, refusal_at}
use Rattle.places.specs.Tidiness.{Lasting}
use Rattle.places.specs.Moves.{taken_out, closed_at, swept_out, emptied}
use Rattle.places.specs.Calls.{Tabled, refused_in, settled_by, note_in, first_ready, handed_out, hand_out_in, report_in, add_to, resume_in, stays_after, table_after, open_at, ended_at, complete_in, remove_in, clear_in, purged_table, purge_in}
use Rattle.rules.specs.Calls as call
use Rattle.lists.proofs.Bools.{split}
use Rattle.places.proofs.Refusing.{past_kept, unkept, add_same, resume_same, room_left}
use Rattle.places.proofs.CompletionAgrees.{open_found, at_most, at_least, closed_room}

-- a call that is not refused is one of a well-kept table
pub unrefused_kept : (t : Table) (op : Op) → refusal_at op t ≡ None → kept t ≡ true
unrefused_kept t op e =
    split (kept t) (λ k. k) (λ k. absurd (let w = sym (unkept t k op) ∙ e in let z : ◌≡◌ {A = ℕ} 0 1 = cc in omega arith))

-- a refused call leaves the table, and what holds of it
by_refusal : (P : Table → Type 0) {A : Type 0} (t : Table) → P t → (served : Tabled A) (r : Option Refusal)
    → (r ≡ None → P served.table) → P (settled_by r (refused_in t) served).table
by_refusal P t h served None g = g refl
by_refusal P t h served (Some why) g = h

module _ {P : Table → Type 0} (lasting : Lasting P) (t : Table) (h : P t) where
  pub note_lasts : (e c a : ℕ) → P (note_in t e c a).table
  unfolding note_in
  note_lasts e c a = by_refusal P t h _ (refusal_at (call.note e c a) t) (λ _. lasting.again t _ refl refl refl h)

  handed_lasts : (at : Settings) (i : ℕ) → i < t.stored → P (handed_out t at i).table
  unfolding handed_out taken_out
  handed_lasts at i w = lasting.opened (taken_out t i) (lasting.taken t h i w) _ (omega (arith, (lasting.wholly t h).fits))

  pub report_lasts : (at : Settings) → P (report_in t at).table
  unfolding report_in hand_out_in
  report_lasts at =
      by_refusal P t h _ (refusal_at (call.report at) t)
      (λ _. split (ltb (first_ready t at) t.stored)
      (λ u. rw (u, hand_out_in) (handed_lasts at (first_ready t at) (ltb-true (first_ready t at) t.stored u)))
      (λ u. rw (u, hand_out_in) h))

  pub add_lasts : (request : Request) (events : ℕ) (now : Instant) → P (add_to t request events now).table
  unfolding add_to
  add_lasts request events now =
      let op = call.add request events now in
      by_refusal P t h _ (refusal_at op t)
      (λ e. let k = unrefused_kept t op e in
      let clear = sym (past_kept t k op ∙ ap first_of (add_same t (lasting.wholly t h).long k request events now)) ∙ e in
      lasting.again _ _ refl refl refl (lasting.opened t h _ (room_left t request t.next k clear)))

  pub resume_lasts : (id : ℕ) (request : Request) (events : ℕ) → P (resume_in t id request events).table
  unfolding resume_in
  resume_lasts id request events =
      let op = call.resume id request events in
      by_refusal P t h _ (refusal_at op t)
      (λ e. let k = unrefused_kept t op e in
      let clear = sym (past_kept t k op ∙ ap first_of (resume_same t (lasting.wholly t h).long k id request events)) ∙ e in
      lasting.again _ _ refl refl refl (lasting.stored t h _ (room_left t request id k clear)))

  pub complete_lasts : (id o : ℕ) → P (complete_in t id o).table
  unfolding complete_in ended_at
  complete_lasts id o =
      let op = call.complete id o in
      let j = open_at t id in
      let x = get_or t.places j blank in
      by_refusal P t h _ (refusal_at op t)
      (λ e. let k = unrefused_kept t op e in
      let found = open_found t (lasting.wholly t h).long k id o e in
      let rest = lasting.closed t h j (at_least t (lasting.wholly t h).long k id found) (at_most t (lasting.wholly t h).long k id found) in
      let room = closed_room t (lasting.wholly t h).long k id found in
      split (stays_after t.cancel x o)
      (λ u. lasting.again (table_after t j x o) _ refl refl refl (rw u (lasting.stored (closed_at t j) rest (closed x o) room)))
      (λ u. lasting.again (table_after t j x o) _ refl refl refl (rw u rest)))

  pub remove_lasts : (choice : Choice) (reason : ℕ) → P (remove_in t choice reason).table
  unfolding remove_in
  remove_lasts choice reason =
      by_refusal P t h _ (refusal_at (call.remove choice reason) t)
      (λ _. lasting.again (swept_out (chosen choice) t) _ refl refl refl (lasting.swept t h (chosen choice)))

  pub clear_lasts : P (clear_in t).table
  unfolding clear_in
  clear_lasts =
      by_refusal P t h _ (refusal_at call.clear t)
      (λ _. lasting.again (emptied t) _ refl refl refl (lasting.emptied t h))

  pub purge_lasts : P (purge_in t).table
  unfolding purge_in purged_table
  purge_lasts =
      by_refusal P t h _ (refusal_at call.purge t)
      (λ _. split (ltb 0 t.opens)
      (λ u. rw (u, purged_table) h)
      (λ u. split (ltb 0 t.stored)
      (λ v. rw (u, v, purged_table) (lasting.again t _ refl refl refl h))
      (λ v. rw (u, v, purged_table) (lasting.again t _ refl refl refl h))))
