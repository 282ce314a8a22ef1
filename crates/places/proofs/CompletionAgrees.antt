-- Completions of a well-kept table, and the questions to an open one, are the machine's at the state that the table stands for.
-- The scan finds the machine's open one, and its place is left to the newest in the array as in the list.
-- Assumes nothing.
use Rattle.std.specs.Prelude.{Err, None}
use mathlib.Core.Path.{◌≡◌, refl, sym, ap, ◌∙◌}
use mathlib.Core.Bool.{true, cond, ◌||◌}
use mathlib.Core.List.{[], ◌∷◌, ◌++◌}
use Prim.Native.Nat.{ℕ, ◌+◌, ◌-◌, ◌≤◌, ◌<◌}
use native.Mathlib.Omega.{arith}
use borrow.Author.Tests.{ltb-true, not-false}
use lib.Dec.{ltb}
use lib.ListN.{length, get_or, set, length-set, length-drop}
use lib.Seq.{get_or-drop}
use Rattle.refusal.specs.declared.Refusal.TheVariants.{BadArgument, NotOpen}
use Rattle.time.specs.declared.KeepAlive.{KeepAlive}
use Rattle.subscription.specs.declared.Subscription.{Subscription}
use Rattle.places.specs.declared.Table.{Table}
use Rattle.lists.specs.Search.{first}
use Rattle.lists.specs.Removal.{take_out_newest}
use Rattle.instants.specs.Instants.{never_reported}
use Rattle.changes.specs.Logs.{changed_since}
use Rattle.subscription.specs.When.{is_due}
use Rattle.subscription.specs.Life.{blank, closed, failed}
use Rattle.rules.specs.States.{has_id}
use Rattle.rules.specs.Machine.{outcome, with_ones, with_cancel, open_with, stays, stored_after, not_open, first_of, step}
use Rattle.places.specs.Views.{stored_of, opens_of, view, kept, refusal_at}
use Rattle.places.specs.Moves.{with_reason, stored_last, closed_at}
use Rattle.places.specs.Calls.{open_at, stays_after, table_after, ended_at, refused_in, complete_in, attribute_at, send_at}
use Rattle.places.specs.Agreement.{completed_says, told_says}
use Rattle.rules.specs.Calls as call
use Rattle.lists.proofs.Bools.{split}
use Rattle.lists.proofs.Searches.{first_some}
use Rattle.lists.proofs.Places.{first_at}
use Rattle.rules.proofs.Clauses.{complete_objects, first_holds, first_passed}
use Rattle.rules.proofs.Acts.{act_complete, act_attribute, act_send}
use Rattle.places.proofs.Refusing.{kept_counts, past_kept}
use Rattle.places.proofs.Agreeing.{agreeing}
use Rattle.places.proofs.Viewing.{stored_stored, stored_opens, closed_opens, closed_stored}

module _ (t : Table) (long : length t.places ≡ 80) (h : kept t ≡ true) where
  -- the open one that the scan finds
  same_open : (id : ℕ) → get_or t.places (open_at t id) blank ≡ open_with id (view t)
  unfolding open_at
  same_open id =
      sym (get_or-drop (80 - t.opens) t.places (first (has_id id) (opens_of t)) blank) ∙ sym (first_at (has_id id) blank (opens_of t))

  pub attribute_agrees : (id e c a : ℕ) → told_says t (attribute_at t id e c a) ≡ step (call.attribute id e c a) (view t)
  unfolding attribute_at
  attribute_agrees id e c a =
      agreeing (told_says t) t (call.attribute id e c a) Err _ (λ why. refl) h
      (λ _. ap (λ x. outcome (call.yes_no (never_reported x.reported || changed_since t.log e c a x.seen)) (view t)) (same_open id)
      ∙ sym (act_attribute (view t) id e c a))

  pub send_agrees : (id : ℕ) (kind : KeepAlive) → told_says t (send_at t id kind) ≡ step (call.send_if_empty id kind) (view t)
  unfolding send_at
  send_agrees id kind =
      agreeing (told_says t) t (call.send_if_empty id kind) Err _ (λ why. refl) h
      (λ _. ap (λ x. outcome (call.yes_no (is_due x x.opened kind)) (view t)) (same_open id) ∙ sym (act_send (view t) id kind))

  -- where a completion is not refused, some open one has the id
  pub open_found : (id o : ℕ) → refusal_at (call.complete id o) t ≡ None → first (has_id id) (opens_of t) < t.opens
  open_found id o e =
      let b = kept_counts t h in
      let size : length (opens_of t) ≡ t.opens = length-drop (80 - t.opens) t.places ∙ (omega arith) in
      let w = sym (past_kept t h (call.complete id o) ∙ ap first_of (complete_objects (view t) id o)) ∙ e in
      split (ltb 4 o)
      (λ u. absurd (let v = sym (first_holds BadArgument _ u) ∙ w in let z : ◌≡◌ {A = ℕ} 0 1 = cc in omega arith))
      (λ u. split (not_open id (view t))
      (λ v. absurd (let x = sym (first_passed BadArgument _ u ∙ first_holds NotOpen _ v) ∙ w in let z : ◌≡◌ {A = ℕ} 0 1 = cc in omega arith))
      (λ v. let there = first_some (has_id id) (opens_of t) ∙ not-false _ v in
      let f = ltb-true (first (has_id id) (opens_of t)) (length (opens_of t)) there in
      omega arith))

  module _ (id : ℕ) (found : first (has_id id) (opens_of t) < t.opens) where
    pub at_most : open_at t id < 80
    unfolding open_at
    at_most = let b = kept_counts t h in omega arith

    pub at_least : 80 - t.opens ≤ open_at t id
    unfolding open_at
    at_least = omega arith

    rest_opens : opens_of (closed_at t (open_at t id)) ≡ take_out_newest (has_id id) (opens_of t)
    unfolding open_at
    rest_opens = let b = kept_counts t h in closed_opens t long (has_id id) (omega arith) found

    rest_stored : stored_of (closed_at t (open_at t id)) ≡ stored_of t
    rest_stored = closed_stored t long (open_at t id) (kept_counts t h) at_least

    rest_long : length (closed_at t (open_at t id)).places ≡ 80
    unfolding closed_at
    rest_long =
        let n = 80 - t.opens in
        let m = set t.places (open_at t id) (get_or t.places n blank) in
        length-set m n blank ∙ length-set t.places (open_at t id) (get_or t.places n blank) ∙ long

    pub closed_room : (closed_at t (open_at t id)).stored + (closed_at t (open_at t id)).opens < 80
    unfolding closed_at
    closed_room = let b = kept_counts t h in omega arith

    -- the state without the open one, and with it stored again
    dropped_view : (r : ℕ) → view (with_reason (closed_at t (open_at t id)) r)
        ≡ with_cancel (with_ones (view t) (stored_of t) (take_out_newest (has_id id) (opens_of t))) r
    unfolding closed_at
    dropped_view r =
        ap (λ l. with_cancel (with_ones (view t) l (opens_of (closed_at t (open_at t id)))) r) rest_stored
        ∙ ap (λ l. with_cancel (with_ones (view t) (stored_of t) l) r) rest_opens

    kept_view : (y : Subscription) (r : ℕ) → view (with_reason (stored_last (closed_at t (open_at t id)) y) r)
        ≡ with_cancel (with_ones (view t) (stored_of t ++ (y ∷ [])) (take_out_newest (has_id id) (opens_of t))) r
    unfolding closed_at stored_last
    kept_view y r =
        let u = closed_at t (open_at t id) in
        let room = closed_room in
        ap (λ l. with_cancel (with_ones (view t) l (opens_of (stored_last u y))) r)
        (stored_stored u rest_long y (omega arith) ∙ ap (λ l. l ++ (y ∷ [])) rest_stored)
        ∙ ap (λ l. with_cancel (with_ones (view t) (stored_of t ++ (y ∷ [])) l) r) (stored_opens u rest_long y room ∙ rest_opens)

    ended_view : (x : Subscription) (o r : ℕ) → view (with_reason (table_after t (open_at t id) x o) r)
        ≡ with_cancel (with_ones (view t) (stored_after x o (view t)) (take_out_newest (has_id id) (opens_of t))) r
    ended_view x o r =
        split (stays_after t.cancel x o)
        (λ u. rw u (kept_view (closed x o) r))
        (λ u. rw u (dropped_view r))

    ended_same : (o : ℕ) → completed_says (ended_at t (open_at t id) o)
        ≡ outcome (call.completed (stays (open_with id (view t)) o (view t)) (failed (open_with id (view t)) o))
        (with_cancel (with_ones (view t) (stored_after (open_with id (view t)) o (view t)) (take_out_newest (has_id id) (opens_of t)))
        (cond (open_with id (view t)).reporting 0 t.cancel))
    unfolding ended_at
    ended_same o =
        let x = get_or t.places (open_at t id) blank in
        ap (λ s. outcome (call.completed (stays_after t.cancel x o) (failed x o)) s) (ended_view x o (cond x.reporting 0 t.cancel))
        ∙ ap (λ z. outcome (call.completed (stays z o (view t)) (failed z o))
        (with_cancel (with_ones (view t) (stored_after z o (view t)) (take_out_newest (has_id id) (opens_of t))) (cond z.reporting 0 t.cancel)))
        (same_open id)

  pub complete_agrees : (id o : ℕ) → completed_says (complete_in t id o) ≡ step (call.complete id o) (view t)
  unfolding complete_in
  complete_agrees id o =
      agreeing completed_says t (call.complete id o) (refused_in t) (ended_at t (open_at t id) o) (λ why. refl) h
      (λ e. ended_same id (open_found id o e) o ∙ sym (act_complete (view t) id o))
