-- What a well-kept table gives its calls, and how a call comes to its refusal: 7 first, then the machine's objections.
-- Assumes nothing.
use Rattle.std.specs.Prelude.{Some, None}
use mathlib.Core.Path.{◌≡◌, sym, ap, ◌∙◌}
use mathlib.Core.Bool.{true, false, not}
use Prim.Native.Nat.{ℕ, ◌+◌, ◌-◌, ◌≤◌, ◌<◌}
use native.Mathlib.Omega.{arith}
use borrow.Author.Tests.{leb-true, leb-false}
use lib.Dec.{leb, eqb}
use lib.ListN.{length, length-drop}
use lib.Seq.{length-take-le}
use Rattle.refusal.specs.declared.Refusal.TheVariants.{BadArgument, Full, NotWellKept}
use Rattle.instants.specs.declared.Instant.{Instant}
use Rattle.subscription.specs.declared.Request.{Request}
use Rattle.places.specs.declared.Table.{Table}
use Rattle.changes.specs.Logs.{kept as log_kept}
use Rattle.rules.specs.States.{well_kept, counted, has_id}
use Rattle.rules.specs.Calls.{Op}
use Rattle.rules.specs.Machine.{first_of, objections}
use Rattle.places.specs.Views.{stored_of, opens_of, view, kept, refusal_at}
use Rattle.places.specs.Calls.{admit_objections}
use Rattle.rules.specs.Calls as call
use Rattle.lists.proofs.Bools.{split, and_both, and_left, and_right}
use Rattle.lists.proofs.Searches.{some_append}
use Rattle.rules.proofs.Clauses.{counted_is, add_objects, resume_objects, well_kept_is, first_holds, first_passed}

module _ (t : Table) where
  module _ (h : kept t ≡ true) where
    pub state_kept : well_kept (view t) ≡ true
    unfolding kept
    state_kept = (and_both (leb (t.stored + t.opens) t.capacity) (well_kept (view t)) h).1

    -- the counts are at most eighty
    pub kept_counts : t.stored + t.opens ≤ 80
    unfolding kept
    kept_counts =
        let w = sym (well_kept_is (view t)) ∙ state_kept in
        let able = (and_both _ _ w).0 in
        omega (
          arith,
          leb-true (t.stored + t.opens) t.capacity (and_both (leb (t.stored + t.opens) t.capacity) (well_kept (view t)) h).0,
          leb-true t.capacity 80 (and_both (leb 1 t.capacity) (leb t.capacity 80) able).1,
        )

    -- and the capacity is
    pub kept_capacity : t.capacity ≤ 80
    kept_capacity =
        let w = sym (well_kept_is (view t)) ∙ state_kept in
        let able = (and_both _ _ w).0 in
        leb-true t.capacity 80 (and_both (leb 1 t.capacity) (leb t.capacity 80) able).1

    -- the log is well kept
    pub kept_log : log_kept t.log ≡ true
    kept_log =
        let w = sym (well_kept_is (view t)) ∙ state_kept in
        search (and_left, and_right) depth 9

    -- the refusal is the first of the machine's objections
    pub past_kept : (op : Op) → refusal_at op t ≡ first_of (objections op (view t))
    unfolding refusal_at
    past_kept op = first_passed NotWellKept (objections op (view t)) (ap not h)

  -- a table that is not well kept is refused with 7
  pub unkept : kept t ≡ false → (op : Op) → refusal_at op t ≡ Some NotWellKept
  unfolding refusal_at
  unkept h op = first_holds NotWellKept (objections op (view t)) (ap not h)

module _ (t : Table) (long : length t.places ≡ 80) (h : kept t ≡ true) where
  -- the machine counts what the table's counts say
  pub counted_fields : counted (view t) ≡ t.stored + t.opens
  counted_fields =
      let b = kept_counts t h in
      counted_is (view t)
      ∙ omega (arith, length-take-le t.stored t.places (omega arith), length-drop (80 - t.opens) t.places)

  -- an admission is objected to for what the table tests
  pub add_same : (request : Request) (events : ℕ) (now : Instant)
      → objections (call.add request events now) (view t) ≡ admit_objections t request t.next
  add_same request events now =
      add_objects (view t) request events now
      ∙ rw (counted_fields, some_append (has_id t.next) (stored_of t) (opens_of t))

  pub resume_same : (id : ℕ) (request : Request) (events : ℕ) → objections (call.resume id request events) (view t) ≡ admit_objections t request id
  resume_same id request events =
      resume_objects (view t) id request events ∙ rw (counted_fields, some_append (has_id id) (stored_of t) (opens_of t))

-- where an admission is not refused, there is room
pub room_left : (t : Table) (request : Request) (id : ℕ) → kept t ≡ true → first_of (admit_objections t request id) ≡ None → t.stored + t.opens < 80
room_left t request id h e =
    split (eqb request.fabric 0)
    (λ u. absurd (let w = sym (first_holds BadArgument _ u) ∙ e in let z : ◌≡◌ {A = ℕ} 0 1 = cc in omega arith))
    (λ u. split (leb t.capacity (t.stored + t.opens))
    (λ v. absurd (let w = sym (first_passed BadArgument _ u ∙ first_holds Full _ v) ∙ e in let z : ◌≡◌ {A = ℕ} 0 1 = cc in omega arith))
    (λ v. omega (arith, leb-false t.capacity (t.stored + t.opens) v, kept_capacity t h)))
