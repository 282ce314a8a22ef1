-- The well-kept rule in the array's terms: with the counts within the capacity, what is left to test is the log, the ids, the fabrics, the open
-- reports and the reason.
-- Assumes nothing.
use Rattle.std.proofs.Common.{◌≡◌, ◌+◌, ◌-◌, ◌≤◌, true, false, ◌&&◌, leb, length, ◌∙◌, arith, length-drop, length-take-le, leb-true}
use Rattle.places.specs.declared.Table.{Table}
use Rattle.changes.specs.Logs.{kept as log_kept}
use Rattle.rules.specs.States.{is_report, capacity_fits}
use Rattle.places.specs.Views.{stored_of, opens_of, view, kept}
use Rattle.table.specs.Scans.{sound}
use Rattle.lists.proofs.Bools.{split, clash, and_both}
use Rattle.lists.proofs.Searches.{some_counted}
use Rattle.rules.proofs.Clauses.{well_kept_is}

module _ (t : Table) where
  -- counts that are not within it
  pub not_within : (capacity_fits t.capacity && leb (t.stored + t.opens) t.capacity) ≡ false → kept t ≡ false
  unfolding kept
  not_within h =
      split (leb (t.stored + t.opens) t.capacity)
      (λ u. split (capacity_fits t.capacity)
      (λ v. absurd (clash (rw (v, u)) h))
      (λ v. rw (u, kept) (well_kept_is (view t) ∙ rw v)))
      (λ u. rw (u, kept))

  module _ (long : length t.places ≡ 80) (w : (capacity_fits t.capacity && leb (t.stored + t.opens) t.capacity) ≡ true) where
    fits : leb (t.stored + t.opens) t.capacity ≡ true
    fits = (and_both (capacity_fits t.capacity) (leb (t.stored + t.opens) t.capacity) w).1

    able : capacity_fits t.capacity ≡ true
    able = (and_both (capacity_fits t.capacity) (leb (t.stored + t.opens) t.capacity) w).0

    -- the counts are at most eighty
    pub counts_fit : t.stored + t.opens ≤ 80
    counts_fit =
        omega (arith, leb-true (t.stored + t.opens) t.capacity fits, leb-true t.capacity 80 (and_both (leb 1 t.capacity) (leb t.capacity 80) able).1)

    lengths : length (stored_of t) + length (opens_of t) ≡ t.stored + t.opens
    lengths =
        let c = counts_fit in
        omega (arith, length-take-le t.stored t.places (omega arith), length-drop (80 - t.opens) t.places)

    pub within_kept : kept t ≡ (log_kept t.log && sound (stored_of t) (opens_of t) t.cancel)
    unfolding kept
    within_kept =
        rw (fits, kept)
        (well_kept_is (view t)
        ∙ rw (able, lengths, fits, some_counted is_report (opens_of t)))
