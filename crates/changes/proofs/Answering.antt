-- A log by its entries, and what a call answers: a log that is not well kept is refused and left as it was, another is served.
-- Assumes nothing.
use Rattle.std.proofs.Common.{Ok, Err, ◌≡◌, ℕ, ◌<◌, ◌≤◌, true, false, not, List, [], length, sym, refl, ap, ◌∙◌, arith, length-take, ne_eqb, le-leb}
use lib.Arith.{lt_of_le-ne}
use Rattle.refusal.specs.declared.Refusal.TheVariants.{NotWellKept}
use Rattle.entries.specs.declared.ChangedAttr.{ChangedAttr}
use Rattle.changes.specs.declared.ChangedAttrs.{ChangedAttrs}
use Rattle.notes.specs.Places.{held_as}
use Rattle.changes.specs.Logs.{entries_of, holding, empty_log, kept, fresh_log, watermark_of, logged, after_note, noted, after_purge, purged, cleared, marked, newest_of, newest_mark, any_since, changed_since, any_told, path_told}
use Rattle.changes.specs.Reach.{Tidy}
use Rattle.lists.proofs.Bools.{and_true}
use Rattle.changes.proofs.Cases.{kept_fits, kept_next}
use Rattle.notes.proofs.Laws.{list_held, length_held, none_held}

-- ---- a log and its entries

-- the entries of a log that holds l are l
pub entries_held : (l : List ChangedAttr) (k : ℕ) → entries_of (holding l k) ≡ l
unfolding holding
entries_held l k = list_held l

-- and it goes on from the identity it was given
pub next_held : (l : List ChangedAttr) (k : ℕ) → (holding l k).next ≡ k
unfolding holding
next_held l k = refl

-- a log that holds l is settled by it
pub held_tidy : (l : List ChangedAttr) (k : ℕ) → Tidy (holding l k)
held_tidy l k =
    sym (ap (λ m. holding m k) (entries_held l k)) ∙ ap (holding (entries_of (holding l k))) (sym (next_held l k))

pub held_kept : (l : List ChangedAttr) (k : ℕ) → length l ≤ 16 → (k ≡ 0 → ⊥) → kept (holding l k) ≡ true
unfolding holding kept
held_kept l k fits on = and_true (le-leb (held_as l).len 16 (omega (arith, length_held l))) (ap not (ne_eqb k 0 on))

-- at most sixteen
pub entries_fit : (g : ChangedAttrs) → kept g ≡ true → length (entries_of g) ≤ 16
entries_fit g h = omega (arith, length-take g.held.len g.held.entries, kept_fits g h)

pub fresh_kept : kept fresh_log ≡ true
unfolding kept
fresh_kept = refl

-- a log that holds nothing is the same
pub empty_held : (k : ℕ) → empty_log k ≡ holding [] k
unfolding holding
empty_held k = rw none_held

pub fresh_tidy : Tidy fresh_log
fresh_tidy = empty_held 1

-- of a well-kept log the watermark is below the next identity
pub watermark_below : (g : ChangedAttrs) → kept g ≡ true → watermark_of g < g.next
watermark_below g h =
    let on : 0 < g.next = lt_of_le-ne (omega arith) (λ z. kept_next g h (sym z)) in
    omega arith

-- ---- the answers: a log that is not well kept is refused and left as it was, another is served

module _ (g : ChangedAttrs) (h : kept g ≡ false) where
  pub note_refused : (e c a : ℕ) → noted g e c a ≡ logged (Err NotWellKept) g
  unfolding noted
  note_refused e c a = rw (h, noted)

  pub purge_refused : (t : ℕ) → purged g t ≡ logged (Err NotWellKept) g
  unfolding purged
  purge_refused t = rw (h, purged)

  pub clear_refused : cleared g ≡ logged (Err NotWellKept) g
  unfolding cleared
  clear_refused = rw (h, cleared)

  pub mark_refused : marked g ≡ Err NotWellKept
  unfolding marked
  mark_refused = rw (h, marked)

  pub any_refused : (s : ℕ) → any_told g s ≡ Err NotWellKept
  unfolding any_told
  any_refused s = rw (h, any_told)

  pub path_refused : (e c a s : ℕ) → path_told g e c a s ≡ Err NotWellKept
  unfolding path_told
  path_refused e c a s = rw (h, path_told)

module _ (g : ChangedAttrs) (h : kept g ≡ true) where
  pub note_answer : (e c a : ℕ) → noted g e c a ≡ logged (Ok (record { identity = g.next })) (after_note g e c a)
  unfolding noted
  note_answer e c a = rw (h, noted)

  pub purge_answer : (t : ℕ) → purged g t ≡ logged (Ok tt) (after_purge g t)
  unfolding purged
  purge_answer t = rw (h, purged)

  pub clear_answer : cleared g ≡ logged (Ok tt) (holding [] g.next)
  unfolding cleared
  clear_answer = rw (h, cleared) (rw (empty_held g.next))

  pub mark_answer : marked g ≡ Ok (watermark_of g)
  unfolding marked
  mark_answer = rw (h, marked)

  pub newest_answer : newest_mark g ≡ Ok (newest_of g)
  unfolding newest_mark
  newest_answer = rw (h, newest_mark)

  pub any_answer : (s : ℕ) → any_told g s ≡ Ok (any_since g s)
  unfolding any_told
  any_answer s = rw (h, any_told)

  pub path_answer : (e c a s : ℕ) → path_told g e c a s ≡ Ok (changed_since g e c a s)
  unfolding path_told
  path_answer e c a s = rw (h, path_told)
