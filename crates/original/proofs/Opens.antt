-- The open ones: the slot `reporting` holds the one of them that is no priming, and a completion empties it exactly where it completes
-- that one. At most one of them is the report, and no two have the same id.
-- Assumes nothing.
use Rattle.std.specs.Prelude.{Some, None}
use mathlib.Core.Path.{◌≡◌, refl, sym, ap, ◌∙◌, fun_ext}
use mathlib.Core.Bool.{Bool, true, false, cond}
use mathlib.Core.List.{List, [], ◌∷◌, map}
use Prim.Native.Nat.{ℕ, ◌+◌, ◌≤◌}
use native.Mathlib.Omega.{arith}
use Rattle.lists.specs.Search.{one, some, count, change_first, first_by}
use Rattle.lists.specs.Removal.{take_out_newest}
use Rattle.lists.proofs.Bools.{split, clash, or_neither}
use Rattle.lists.proofs.Counts.{one_yes, one_no, none_one, count_taken, none_count}
use Rattle.lists.proofs.Maps.{some_map, first_map, newest_taken_map}
use Rattle.subscription.specs.declared.Subscription.{Subscription}
use Rattle.subscription.specs.Life.{blank}
use Rattle.rules.specs.States.{is_report, has_id}
use Rattle.rules.proofs.Clauses.{has_id_is}
use Rattle.original.specs.Std.{is_some, find}
use Rattle.original.specs.Table.{owns_slot}
use Rattle.original.specs.Calls.{holds_id}
use Rattle.original.specs.Likeness.{subscription_of, context_of, reporting_of}
use Rattle.original.proofs.Vectors.{found_is}

-- ---- contexts by id

holds_same : (id : ℕ) → (λ x. holds_id id (context_of x)) ≡ has_id id
unfolding context_of subscription_of
holds_same id = fun_ext (λ x. sym (has_id_is id x))

-- the context with the id is that of the open one with it
pub context_found : (id : ℕ) (l : List Subscription) → some (has_id id) l ≡ true
    → find (holds_id id) (map context_of l) ≡ Some (context_of (first_by (has_id id) blank l))
context_found id l h =
    found_is (holds_id id) (context_of blank) (map context_of l)
    ∙ ap (λ b. cond b (Some (first_by (holds_id id) (context_of blank) (map context_of l))) None)
    (some_map context_of (holds_id id) l ∙ ap (λ p. some p l) (holds_same id) ∙ h)
    ∙ ap Some (first_map context_of (holds_id id) blank l ∙ ap (λ p. context_of (first_by p blank l)) (holds_same id))

pub context_taken : (id : ℕ) (l : List Subscription)
    → take_out_newest (holds_id id) (map context_of l) ≡ map context_of (take_out_newest (has_id id) l)
context_taken id l = newest_taken_map context_of (holds_id id) l ∙ ap (λ p. map context_of (take_out_newest p l)) (holds_same id)

-- ---- the slot

-- a report opened is in it
pub slot_report : (x : Subscription) (l : List Subscription) → is_report x ≡ true → reporting_of (x ∷ l) ≡ Some (subscription_of x)
unfolding reporting_of
slot_report x l h = ap (λ b. cond b (Some (subscription_of x)) (reporting_of l)) h

-- with no report it is empty
slot_empty : (l : List Subscription) → count is_report l ≡ 0 → reporting_of l ≡ None
unfolding reporting_of count
slot_empty [] h = refl
slot_empty (x ∷ xs) h =
    rw (none_one (is_report x) (omega arith), reporting_of) (slot_empty xs (omega arith))

-- it is full exactly where a report is open
pub slot_full : (l : List Subscription) → is_some (reporting_of l) ≡ some is_report l
unfolding reporting_of some
slot_full [] = refl
slot_full (x ∷ xs) = split (is_report x) (λ t. rw (t, reporting_of)) (λ t. rw (t, reporting_of) (slot_full xs))

-- nobody with an id that no open one has is in it
pub not_owner : (id : ℕ) (l : List Subscription) → some (has_id id) l ≡ false → owns_slot id (reporting_of l) ≡ false
unfolding reporting_of some subscription_of
not_owner id [] h = refl
not_owner id (x ∷ xs) h =
    let w = or_neither (has_id id x) (some (has_id id) xs) h in
    split (is_report x)
    (λ t. rw (t, reporting_of) (sym (has_id_is id x) ∙ w.0))
    (λ t. rw (t, reporting_of) (not_owner id xs w.1))

-- the first that p holds of counts for what q says of it
first_counts : (p q : Subscription → Bool) (l : List Subscription) → some p l ≡ true → count q l ≡ 0 → q (first_by p blank l) ≡ false
first_counts p q l h z = none_one _ (omega (arith, count_taken q p blank l h))

module _ (id : ℕ) where
  -- the open one with the id owns the slot exactly where it is the report
  pub owner : (l : List Subscription) → some (has_id id) l ≡ true → count is_report l ≤ 1 → count (has_id id) l ≤ 1
      → owns_slot id (reporting_of l) ≡ is_report (first_by (has_id id) blank l)
  unfolding reporting_of some first_by count subscription_of
  owner [] h a b = absurd (clash h refl)
  owner (x ∷ xs) h a b =
      split (has_id id x)
      (λ t. let alone = one_yes t in
      split (is_report x)
      (λ u. rw (t, u, reporting_of, first_by) (sym (has_id_is id x) ∙ t))
      (λ u. rw (t, u, reporting_of, first_by)
      (not_owner id xs (none_count (has_id id) xs (omega arith)))))
      (λ t. split (is_report x)
      (λ u. let single = one_yes u in
      rw (t, u, reporting_of, first_by)
      (sym (has_id_is id x) ∙ t ∙ sym (first_counts (has_id id) is_report xs (rw t at h) (omega arith))))
      (λ u. rw (t, u, reporting_of, first_by) (owner xs (rw t at h) (omega (arith, one_no u)) (omega (arith, one_no t)))))

  -- with another one in place of the one with the id
  slot_changed : (z : Subscription) (l : List Subscription) → some (has_id id) l ≡ true → one (is_report z) + count is_report l ≤ 1
      → reporting_of (change_first (has_id id) (λ y. z) l)
      ≡ cond (is_report z) (Some (subscription_of z)) (cond (is_report (first_by (has_id id) blank l)) None (reporting_of l))
  unfolding reporting_of some first_by count change_first
  slot_changed z [] h a = absurd (clash h refl)
  slot_changed z (x ∷ xs) h a =
      split (has_id id x)
      (λ t. split (is_report z)
      (λ v. rw (t, v, change_first, reporting_of))
      (λ v. split (is_report x)
      (λ u. let single = one_yes u in rw (t, v, u, change_first, reporting_of, first_by) (slot_empty xs (omega arith)))
      (λ u. rw (t, v, u, change_first, reporting_of, first_by))))
      (λ t. let ih = slot_changed z xs (rw t at h) in
      split (is_report x)
      (λ u. let single = one_yes u in
      let other = none_one (is_report z) (omega arith) in
      rw (t, u, other, change_first, reporting_of, first_by)
      (rw (first_counts (has_id id) is_report xs (rw t at h) (omega arith))))
      (λ u. rw (t, u, change_first, reporting_of, first_by) (ih (omega (arith, one_no u)))))

  -- taken out, it leaves the slot empty where it was the report, and as it was where it was a priming
  pub slot_taken : (l : List Subscription) → some (has_id id) l ≡ true → count is_report l ≤ 1
      → reporting_of (take_out_newest (has_id id) l) ≡ cond (is_report (first_by (has_id id) blank l)) None (reporting_of l)
  unfolding reporting_of some first_by count take_out_newest
  slot_taken [] h a = absurd (clash h refl)
  slot_taken (x ∷ xs) h a =
      split (has_id id x)
      (λ t. split (is_report x)
      (λ u. let single = one_yes u in rw (t, u, take_out_newest, first_by) (slot_empty xs (omega arith)))
      (λ u. rw (t, u, take_out_newest, first_by, reporting_of)))
      (λ t. rw (t, take_out_newest, first_by)
      (slot_changed x xs (rw t at h) a
      ∙ turned (is_report x) (is_report (first_by (has_id id) blank xs))
      (λ u. first_counts (has_id id) is_report xs (rw t at h) (omega (arith, one_yes u)))))
    where
      turned : (b f : Bool) → (b ≡ true → f ≡ false)
          → cond b (Some (subscription_of x)) (cond f None (reporting_of xs))
          ≡ cond f None (cond b (Some (subscription_of x)) (reporting_of xs))
      turned true true e = absurd (clash refl (e refl))
      turned true false e = refl
      turned false true e = refl
      turned false false e = refl
