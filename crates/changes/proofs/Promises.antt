-- What whoever holds a log may rely on, in the words of `specs/Reach`. Floors above cite these and never open a definition of this crate.
-- Assumes nothing.
use Rattle.std.proofs.Common.{◌≡◌, ℕ, ◌+◌, ◌-◌, ◌<◌, ◌≤◌, true, false, eqb, ltb, [], length, sym, refl, ap, ◌∙◌, le_refl, arith, ltb-true, lt-ltb, ne_eqb}
use borrow.Author.Tests.{lt-leb, eqb-false}
use lib.Arith.{lt_of_le-ne}
use Rattle.entries.specs.declared.ChangedAttr.{ChangedAttr}
use Rattle.changes.specs.declared.ChangedAttrs.{ChangedAttrs}
use Rattle.lists.specs.Search.{some}
use Rattle.lists.specs.Removal.{sweep}
use Rattle.entries.specs.Paths.{entry, with_identity, covers, over, under, up_to, above, since}
use Rattle.notes.specs.Notes.{entered}
use Rattle.notes.specs.Reach.{carries, reaches}
use Rattle.changes.specs.Logs.{entries_of, holding, kept, identity_after, watermark_of, note_of, after_note, noted, purged, cleared, newest_of, any_since, changed_since}
use Rattle.changes.specs.Reach.{reached, covered, Bounded, Tidy, Came, fresh, note, purge, clear}
use Rattle.lists.proofs.Bools.{split, and_true, not_so}
use Rattle.lists.proofs.Searches.{some_weaken}
use Rattle.lists.proofs.Removals.{length_swept, stays, was_there}
use Rattle.changes.proofs.Cases.{kept_next}
use Rattle.entries.proofs.Covering.{covers_trans, covers_self, path_covers, since_covers, up_to_at, above_at}
use Rattle.notes.proofs.Laws.{carries_by, reaches_by, reaches_covers, reaches_late}
use Rattle.notes.proofs.Entering.{newest_above, entered_has, entered_keeps, entered_old, entered_fits}
use Rattle.changes.proofs.Answering.{clear_answer, clear_refused, entries_fit, entries_held, fresh_kept, fresh_tidy, held_kept, held_tidy, next_held, note_answer}

-- ---- identities

pub after_last : identity_after 18446744073709551615 ≡ 1
unfolding identity_after
after_last = refl

pub after_others : (k : ℕ) → k < 18446744073709551615 → identity_after k ≡ k + 1
unfolding identity_after
after_others k h = rw (ne_eqb k 18446744073709551615 (λ e. absurd (omega arith)), identity_after)

-- it is at most 2^64 − 1, where the one before it was
pub after_most : (k : ℕ) → k ≤ 18446744073709551615 → identity_after k ≤ 18446744073709551615
unfolding identity_after
after_most k h =
    split (eqb k 18446744073709551615)
    (λ t. rw (t, identity_after) (omega arith))
    (λ t. rw (t, identity_after) (omega (arith, lt_of_le-ne h (eqb-false k 18446744073709551615 t))))

after_some : (k : ℕ) → identity_after k ≡ 0 → ⊥
unfolding identity_after
after_some k e =
    split (eqb k 18446744073709551615)
    (λ t. let w = rw (t, identity_after) at e in omega arith)
    (λ t. let w = rw (t, identity_after) at e in omega arith)

-- ---- a note

module _ (g : ChangedAttrs) (h : kept g ≡ true) (e c a : ℕ) where
  noted_log : (noted g e c a).log ≡ after_note g e c a
  noted_log = ap (λ r. r.log) (note_answer g h e c a)

  noted_entries : entries_of (noted g e c a).log ≡ entered (note_of g e c a) (entries_of g)
  noted_entries = ap entries_of noted_log ∙ entries_held (entered (note_of g e c a) (entries_of g)) (identity_after g.next)

  -- the next identity is the one after
  pub note_next : (noted g e c a).log.next ≡ identity_after g.next
  note_next = ap (λ r. r.next) noted_log ∙ next_held (entered (note_of g e c a) (entries_of g)) (identity_after g.next)

  -- it grows by one
  pub note_grows : g.next < 18446744073709551615 → (noted g e c a).log.next ≡ g.next + 1
  note_grows low = note_next ∙ after_others g.next low

  -- the log stays well kept, with at most sixteen entries
  pub note_kept : kept (noted g e c a).log ≡ true
  note_kept =
      rw noted_log
      (held_kept (entered (note_of g e c a) (entries_of g)) (identity_after g.next)
      (entered_fits (note_of g e c a) (entries_of g) (entries_fit g h)) (after_some g.next))

  -- and settled by its entries
  pub note_tidy : Tidy (noted g e c a).log
  note_tidy = rw noted_log (held_tidy (entered (note_of g e c a) (entries_of g)) (identity_after g.next))

  -- some entry covers the note with its identity
  pub note_carried : some (carries (note_of g e c a) g.next) (entries_of (noted g e c a).log) ≡ true
  note_carried =
      rw noted_entries
      (entered_has (note_of g e c a) (carries (note_of g e c a) g.next)
      (λ x w. carries_by (note_of g e c a) (with_identity g.next x) g.next
      (path_covers g.next g.next x (note_of g e c a) ∙ w) refl) (entries_of g))

  -- so does some entry for every path under the note
  pub note_new : (q : ChangedAttr) → covers (note_of g e c a) q ≡ true → reached (noted g e c a).log q g.next ≡ true
  note_new q u =
      rw noted_entries
      (entered_has (note_of g e c a) (reaches q g.next)
      (λ x w. reaches_by q (with_identity g.next x) g.next
      (path_covers g.next q.identity x q ∙ covers_trans x (note_of g e c a) q w u) (le_refl g.next)) (entries_of g))

  -- what some entry stood for with identity k or a later one, some entry still does
  pub note_keeps : (q : ChangedAttr) (k : ℕ) → k ≤ g.next → reached g q k ≡ true → reached (noted g e c a).log q k ≡ true
  note_keeps q k late r = rw noted_entries (entered_keeps (note_of g e c a) q k late (entries_of g) r)

  -- no identity is above the watermark, while identities have not begun again
  pub note_bounded : g.next < 18446744073709551615 → Bounded g → Bounded (noted g e c a).log
  note_bounded low b =
      rw (noted_entries, note_grows low)
      (not_so
      (entered_old (note_of g e c a) (g.next + 1 - 1) (omega arith) (entries_of g))
      (not_so
      (some_weaken (above (g.next + 1 - 1)) (above (watermark_of g)) (entries_of g)
      (λ x w. above_at (watermark_of g) x
      ∙ lt-ltb (watermark_of g) x.identity
      (let t = ltb-true (g.next + 1 - 1) x.identity (sym (above_at (g.next + 1 - 1) x) ∙ w) in omega arith)))
      b))

-- ---- a purge

module _ (g : ChangedAttrs) (t : ℕ) where
  -- what holds of the log as it is, and with the old entries removed, holds after a purge
  purged_by_lem : (P : ChangedAttrs → Type 0) → P g → P (holding (sweep (up_to t) (entries_of g)) g.next) → P (purged g t).log
  unfolding purged
  purged_by_lem P same swept =
      split (kept g)
      (λ k. split (eqb t 0) (λ z. rw (k, z, purged) same) (λ z. rw (k, z, purged) swept))
      (λ k. rw (k, purged) same)

  pub purge_next : (purged g t).log.next ≡ g.next
  purge_next = purged_by_lem (λ r. r.next ≡ g.next) refl (next_held (sweep (up_to t) (entries_of g)) g.next)

  pub purge_kept : kept g ≡ true → kept (purged g t).log ≡ true
  purge_kept h =
      purged_by_lem (λ r. kept r ≡ true) h
      (held_kept (sweep (up_to t) (entries_of g)) g.next
      (omega (arith, length_swept (up_to t) (entries_of g), entries_fit g h)) (kept_next g h))

  pub purge_tidy : Tidy g → Tidy (purged g t).log
  purge_tidy d = purged_by_lem Tidy d (held_tidy (sweep (up_to t) (entries_of g)) g.next)

  -- what is stood for with an identity above the threshold stays so
  pub purge_keeps : (q : ChangedAttr) (k : ℕ) → t < k → reached g q k ≡ true → reached (purged g t).log q k ≡ true
  purge_keeps q k low r =
      purged_by_lem (λ m. reached m q k ≡ true) r
      (rw (entries_held (sweep (up_to t) (entries_of g)) g.next)
      (stays (up_to t) (reaches q k) (entries_of g)
      (λ x w. up_to_at t x ∙ lt-leb x.identity t (let late = reaches_late q x k w in omega arith)) r))

  pub purge_bounded : Bounded g → Bounded (purged g t).log
  purge_bounded b =
      purged_by_lem Bounded b
      (rw (entries_held (sweep (up_to t) (entries_of g)) g.next, next_held (sweep (up_to t) (entries_of g)) g.next)
      (not_so (was_there (up_to t) (above (watermark_of g)) (entries_of g)) b))

-- ---- emptying

module _ (g : ChangedAttrs) where
  cleared_by : (P : ChangedAttrs → Type 0) → P g → P (holding [] g.next) → P (cleared g).log
  cleared_by P same empty = split (kept g) (λ k. rw (clear_answer g k) empty) (λ k. rw (clear_refused g k) same)

  pub clear_next : (cleared g).log.next ≡ g.next
  clear_next = cleared_by (λ r. r.next ≡ g.next) refl (next_held [] g.next)

  pub clear_kept : kept g ≡ true → kept (cleared g).log ≡ true
  clear_kept h = cleared_by (λ r. kept r ≡ true) h (held_kept [] g.next (omega arith) (kept_next g h))

  pub clear_tidy : Tidy g → Tidy (cleared g).log
  clear_tidy d = cleared_by Tidy d (held_tidy [] g.next)

  pub clear_bounded : Bounded g → Bounded (cleared g).log
  unfolding some
  clear_bounded b = cleared_by Bounded b (rw (entries_held [] g.next))

-- ---- the questions

module _ (g : ChangedAttrs) (q : ChangedAttr) (k s : ℕ) (low : s < k) (r : reached g q k ≡ true) where
  newer : (x : ChangedAttr) → reaches q k x ≡ true → ltb s x.identity ≡ true
  newer x w = lt-ltb s x.identity (let late = reaches_late q x k w in omega arith)

  -- what is stood for with identity k is a change since every earlier watermark
  pub reached_any : any_since g s ≡ true
  reached_any = some_weaken (reaches q k) (above s) (entries_of g) (λ x w. above_at s x ∙ newer x w) r

  -- and every path under it has changed since then
  pub reached_changed : (e c a : ℕ) → covers q (entry e c a s) ≡ true → changed_since g e c a s ≡ true
  reached_changed e c a u =
      some_weaken (reaches q k) (since (entry e c a s)) (entries_of g)
      (λ x w. since_covers (entry e c a s) x
      ∙ and_true (newer x w) (covers_trans x q (entry e c a s) (reaches_covers q x k w) u)) r

-- something has changed since an identity exactly where the greatest identity is above it
pub newest_any : (g : ChangedAttrs) (s : ℕ) → any_since g s ≡ ltb s (newest_of g)
newest_any g s = newest_above s (entries_of g)

-- to be stood for with some identity is to be covered
reached_covered : (q : ChangedAttr) (k : ℕ) (g : ChangedAttrs) → reached g q k ≡ true → covered g q ≡ true
reached_covered q k g r = some_weaken (reaches q k) (λ x. covers x q) (entries_of g) (λ x w. reaches_covers q x k w) r

covered_reached : (q : ChangedAttr) (g : ChangedAttrs) → covered g q ≡ true → reached g q 0 ≡ true
covered_reached q g r = some_weaken (λ x. covers x q) (reaches q 0) (entries_of g) (λ x w. reaches_by q x 0 w (omega arith)) r

-- ---- logs that come from a fresh one

pub came_kept : {n : ℕ} {g : ChangedAttrs} → Came n g → kept g ≡ true
came_kept fresh = fresh_kept
came_kept (note {n} {g} e c a w) = note_kept g (came_kept w) e c a
came_kept (purge {n} {g} t w) = purge_kept g t (came_kept w)
came_kept (clear {n} {g} w) = clear_kept g (came_kept w)

pub came_tidy : {n : ℕ} {g : ChangedAttrs} → Came n g → Tidy g
came_tidy fresh = fresh_tidy
came_tidy (note {n} {g} e c a w) = note_tidy g (came_kept w) e c a
came_tidy (purge {n} {g} t w) = purge_tidy g t (came_tidy w)
came_tidy (clear {n} {g} w) = clear_tidy g (came_tidy w)

-- with fewer than 2^64 − 1 notes the next identity is one more than their number
pub came_next : {n : ℕ} {g : ChangedAttrs} → Came n g → n < 18446744073709551615 → g.next ≡ n + 1
came_next fresh h = refl
came_next (note {n} {g} e c a w) h =
    let is : g.next ≡ n + 1 = came_next w (omega arith) in
    note_grows g (came_kept w) e c a (omega arith) ∙ omega arith
came_next (purge {n} {g} t w) h = purge_next g t ∙ came_next w h
came_next (clear {n} {g} w) h = clear_next g ∙ came_next w h

-- and no entry is newer than the watermark
pub came_bounded : {n : ℕ} {g : ChangedAttrs} → Came n g → n < 18446744073709551615 → Bounded g
unfolding some
came_bounded fresh h = refl
came_bounded (note {n} {g} e c a w) h =
    let is : g.next ≡ n + 1 = came_next w (omega arith) in
    note_bounded g (came_kept w) e c a (omega arith) (came_bounded w (omega arith))
came_bounded (purge {n} {g} t w) h = purge_bounded g t (came_bounded w h)
came_bounded (clear {n} {g} w) h = clear_bounded g (came_bounded w h)

-- ---- the students' second mistake: "sixteen places can't cover a seventeenth change"

-- In a log of sixteen entries none of which covers the note or is covered by it, the note is covered afterwards, and so is everything that
-- was covered before. The hypotheses are those of the lecture; without them it holds as well.
pub seventeenth_change : (g : ChangedAttrs) (e c a : ℕ) → kept g ≡ true → length (entries_of g) ≡ 16
    → some (over (note_of g e c a)) (entries_of g) ≡ false → some (under (note_of g e c a)) (entries_of g) ≡ false
    → (covered (noted g e c a).log (note_of g e c a) ≡ true)
    × ((q : ChangedAttr) → covered g q ≡ true → covered (noted g e c a).log q ≡ true)
seventeenth_change g e c a h full none_over none-under = (
  reached_covered (note_of g e c a) g.next (noted g e c a).log (note_new g h e c a (note_of g e c a) (covers_self (note_of g e c a))),
  (λ q was. reached_covered q 0 (noted g e c a).log (note_keeps g h e c a q 0 (omega arith) (covered_reached q g was))),
)
