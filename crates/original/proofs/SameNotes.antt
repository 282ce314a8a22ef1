-- A note and a purge: what the Rust leaves of the log is what document 01 says.
-- After one fold there is room, so that the loop of promote_and_insert ends in its second turn.
-- Assumes nothing.
use Rattle.std.specs.Prelude.{Some, None}
use mathlib.Core.Path.{◌≡◌, refl, sym, ap, ◌∙◌}
use mathlib.Core.Bool.{true, false, cond}
use mathlib.Core.List.{List, [], ◌∷◌, ◌++◌}
use Prim.Native.Nat.{ℕ, suc, ◌+◌, ◌≤◌, ◌<◌, max}
use native.Mathlib.Omega.{arith}
use borrow.Author.Tests.{ltb-true, ltb-false, lt-ltb, le-ltb, eqb-true, eqb-false}
use lib.Arith.{lt_of_le-ne}
use lib.Dec.{eqb, leb, ltb}
use lib.ListN.{length}
use Rattle.lists.specs.Search.{some, change_first}
use Rattle.lists.specs.Removal.{sweep}
use Rattle.lists.proofs.Bools.{split, not_so}
use Rattle.lists.proofs.Removals.{length_swept, was_there}
use Rattle.entries.specs.declared.ChangedAttr.{ChangedAttr}
use Rattle.entries.specs.declared.Level.TheVariants.{Cluster, Endpoint}
use Rattle.entries.specs.Paths.{with_identity, all_wild, over, under, up_to}
use Rattle.changes.specs.declared.ChangedAttrs as changes
use Rattle.notes.specs.declared.Group.{Group}
use Rattle.notes.specs.Notes.{refreshed, placed, largest, folded, crowded, inserted, entered}
use Rattle.changes.specs.Logs as logs
use Rattle.changes.specs.Logs.{entries_of, kept, identity_after, watermark_of, note_of, noted, purged, cleared, changed_since}
use Rattle.notes.proofs.Cases.{placed_found, placed_new, entered_found, entered_new, inserted_room, inserted_full, crowded_fine, crowded_coarse, crowded_wild, refreshed_is}
use Rattle.changes.proofs.Cases.{kept_next}
use Rattle.notes.proofs.Groups.{largest_covers, folded_room}
use Rattle.changes.proofs.Answering.{entries_held, next_held, entries_fit, note_answer, purge_answer, clear_answer}
use Rattle.changes.proofs.Promises.{after_last, after_others}
use Rattle.original.specs.Std.{unwrap_or, wrapping_add, push, remove_while}
use Rattle.original.specs.Entries.{wildcard_endpoint, wildcard_cluster, wildcard_attr, with_change_id, covers}
use Rattle.original.specs.Log.{ChangedAttrs, watermark, contains_since, any_since, purge_up_to, clear_log, promote_largest_group, refresh, or_promote, promote_and_insert, recorded, record_raw, record_concrete, record_wildcard}
use Rattle.original.specs.Likeness.{log_of}
use Rattle.original.proofs.Vectors.{while_sweeps, found_changed}
use Rattle.original.proofs.SameEntries.{under_same, over_same, since_same, above_same, up_to_same}
use Rattle.original.proofs.SameGroups.{group_is}

module _ (n : ChangedAttr) where
  -- the first entry that covers the note takes its identity, if there is one
  refresh_is : (l : List ChangedAttr) → refresh n l ≡ cond (some (over n) l) (Some (refreshed n l)) None
  refresh_is l =
      found_changed (λ x. covers x n) (with_change_id n.identity) l
      ∙ ap (λ p. cond (some p l) (Some (change_first p (with_identity n.identity) l)) None) (over_same n)
      ∙ ap (λ m. cond (some (over n) l) (Some m) None) (sym (refreshed_is n l))

  pushed : (l : List ChangedAttr) → length l < 16 → push 16 n l ≡ Some (l ++ (n ∷ []))
  unfolding push
  pushed l h = rw (lt-ltb (length l) 16 h, push)

  not_pushed : (l : List ChangedAttr) → 16 ≤ length l → push 16 n l ≡ None
  unfolding push
  not_pushed l h = rw (le-ltb (length l) 16 h, push)

  -- ---- the loop of promote_and_insert, turn by turn

  turn_refreshes : (f : ℕ) (l : List ChangedAttr) → some (over n) l ≡ true → promote_and_insert (suc f) n l ≡ refreshed n l
  unfolding promote_and_insert
  turn_refreshes f l t = rw (refresh_is l, t, promote_and_insert)

  turn_pushes : (f : ℕ) (l : List ChangedAttr) → some (over n) l ≡ false → length l < 16 → promote_and_insert (suc f) n l ≡ l ++ (n ∷ [])
  unfolding promote_and_insert
  turn_pushes f l t h = rw (refresh_is l, t, promote_and_insert) (rw (pushed l h))

  -- where there is room the note is placed
  turn_places : (f : ℕ) (l : List ChangedAttr) → length l < 16 → promote_and_insert (suc f) n l ≡ placed n l
  turn_places f l h =
      split (some (over n) l)
      (λ t. turn_refreshes f l t ∙ placed_found n l t)
      (λ t. turn_pushes f l t h ∙ placed_new n l t)

  turn_folds : (f : ℕ) (l fewer : List ChangedAttr) → some (over n) l ≡ false → 16 ≤ length l
      → or_promote (promote_largest_group 1 l) (promote_largest_group 2 l) ≡ Some fewer
      → promote_and_insert (suc f) n l ≡ promote_and_insert f n fewer
  unfolding promote_and_insert
  turn_folds f l fewer t h e = rw (refresh_is l, t, promote_and_insert) (rw (not_pushed l h) (rw e))

  turn_gives_up : (f : ℕ) (l : List ChangedAttr) → some (over n) l ≡ false → 16 ≤ length l
      → or_promote (promote_largest_group 1 l) (promote_largest_group 2 l) ≡ None → promote_and_insert (suc f) n l ≡ all_wild n.identity ∷ []
  unfolding promote_and_insert
  turn_gives_up f l t h e = rw (refresh_is l, t, promote_and_insert) (rw (not_pushed l h) (rw e))

  -- where there is none, one fold makes it
  module _ (f : ℕ) (l : List ChangedAttr) (t : some (over n) l ≡ false) (full : 16 ≤ length l) (fits : length l ≤ 16) where
    fine : Group
    fine = largest Cluster l

    coarse : Group
    coarse = largest Endpoint l

    loop_crowded : promote_and_insert (suc (suc f)) n l ≡ crowded n l
    unfolding fine coarse
    loop_crowded =
        split (ltb 1 fine.size)
        (λ u. turn_folds (suc f) l (folded fine.by l) t full (rw (group_is Cluster l, group_is Endpoint l, u))
        ∙ turn_places f (folded fine.by l) (folded_room l fine.by fits (largest_covers l Cluster refl (ltb-true _ _ u)))
        ∙ crowded_fine n l refl (ltb-true _ _ u))
        (λ u. split (ltb 1 coarse.size)
        (λ v. turn_folds (suc f) l (folded coarse.by l) t full (rw (group_is Cluster l, group_is Endpoint l, u, v))
        ∙ turn_places f (folded coarse.by l) (folded_room l coarse.by fits (largest_covers l Endpoint refl (ltb-true _ _ v)))
        ∙ crowded_coarse n l refl refl (ltb-false _ _ u) (ltb-true _ _ v))
        (λ v. turn_gives_up (suc f) l t full (rw (group_is Cluster l, group_is Endpoint l, u, v))
        ∙ crowded_wild n l refl refl (ltb-false _ _ u) (ltb-false _ _ v)))

  -- ---- record_raw

  inserted_is : (l : List ChangedAttr) → some (over n) l ≡ false → length l ≤ 16
      → unwrap_or (push 16 n l) (promote_and_insert 17 n l) ≡ inserted n l
  inserted_is l t fits =
      split (ltb (length l) 16)
      (λ u. let room = ltb-true (length l) 16 u in rw (pushed l room) (inserted_room n l room))
      (λ u. let full = ltb-false (length l) 16 u in rw (not_pushed l full) (loop_crowded 15 l t full fits ∙ inserted_full n l full))

  recorded_is : (l : List ChangedAttr) → length l ≤ 16 → recorded n l ≡ entered n l
  unfolding recorded
  recorded_is l fits =
      let swept : remove_while (length l) (covers n) 0 l ≡ sweep (under n) l =
      ap (λ p. remove_while (length l) p 0 l) (under_same n) ∙ while_sweeps (under n) l in
      split (some (over n) l)
      (λ t. rw (refresh_is l, t, recorded) (entered_found n l t))
      (λ t. rw (refresh_is l, t, recorded)
      (rw swept
      (inserted_is (sweep (under n) l) (not_so (was_there (under n) (over n) l) t) (omega (arith, length_swept (under n) l)))
      ∙ entered_new n l t))

-- "the identity after 2^64 − 1 is 1"
next_is : (k : ℕ) → k ≤ 18446744073709551615 → max (wrapping_add 64 k 1) 1 ≡ identity_after k
next_is k h =
    split (eqb k 18446744073709551615)
    (λ t. let e = eqb-true k 18446744073709551615 t in rw e (sym after_last))
    (λ t. let low = lt_of_le-ne h (eqb-false k 18446744073709551615 t) in
    let e : max (wrapping_add 64 k 1) 1 ≡ k + 1 = omega arith in
    e ∙ sym (after_others k low))

module _ (g : changes.ChangedAttrs) (k : kept g ≡ true) where
  pub record_is : (e c a : ℕ) → g.next ≤ 18446744073709551615 → record_concrete e c a (log_of g) ≡ log_of (noted g e c a).log
  unfolding record_raw log_of
  record_is e c a low =
      rw (
        note_answer g k e c a,
        entries_held (entered (note_of g e c a) (entries_of g)) (identity_after g.next),
        next_held (entered (note_of g e c a) (entries_of g)) (identity_after g.next),
        next_is g.next low,
        recorded_is (note_of g e c a) (entries_of g) (entries_fit g k),
      )

  pub purge_is : (t : ℕ) → purge_up_to t (log_of g) ≡ log_of (purged g t).log
  unfolding purge_up_to log_of
  purge_is t =
      let swept : remove_while (length (entries_of g)) (λ x. leb x.identity t) 0 (entries_of g) ≡ sweep (up_to t) (entries_of g) =
      ap (λ p. remove_while (length (entries_of g)) p 0 (entries_of g)) (up_to_same t) ∙ while_sweeps (up_to t) (entries_of g) in
      split (eqb t 0)
      (λ z. rw (purge_answer g k t, z, purge_up_to))
      (λ z. rw (purge_answer g k t, z, purge_up_to)
      (rw (swept, entries_held (sweep (up_to t) (entries_of g)) g.next, next_held (sweep (up_to t) (entries_of g)) g.next)))

  pub clear_is : clear_log (log_of g) ≡ log_of (cleared g).log
  unfolding log_of
  clear_is = rw (clear_answer g k, entries_held [] g.next, next_held [] g.next)

  pub watermark_is : g.next ≤ 18446744073709551615 → watermark (log_of g) ≡ watermark_of g
  unfolding log_of
  watermark_is low = let on : 0 < g.next = lt_of_le-ne (omega arith) (λ z. kept_next g k (sym z)) in omega arith

-- the Rust's wider notes are notes with wild fields
pub cluster_note : (e c : ℕ) (g : ChangedAttrs) → record_wildcard (Some e) (Some c) g ≡ record_concrete e c wildcard_attr g
cluster_note e c g = refl

pub endpoint_note : (e : ℕ) (g : ChangedAttrs) → record_wildcard (Some e) None g ≡ record_concrete e wildcard_cluster wildcard_attr g
endpoint_note e g = refl

pub global_note : (g : ChangedAttrs) → record_wildcard None None g ≡ record_concrete wildcard_endpoint wildcard_cluster wildcard_attr g
global_note g = refl

-- ---- questions

pub any_since_is : (g : changes.ChangedAttrs) (s : ℕ) → any_since (log_of g) s ≡ logs.any_since g s
unfolding any_since log_of
any_since_is g s = ap (λ p. some p (entries_of g)) (above_same s)

pub contains_since_is : (g : changes.ChangedAttrs) (e c a s : ℕ) → contains_since (log_of g) e c a s ≡ changed_since g e c a s
unfolding contains_since log_of
contains_since_is g e c a s = ap (λ p. some p (entries_of g)) (since_same e c a s)
