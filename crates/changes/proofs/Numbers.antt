-- Each answer of the log in document 01's numbers: 7 exactly where the log is not well kept, and a value where it is.
-- Assumes nothing.
use Rattle.std.proofs.Common.{◌≡◌, ℕ, cond}
use Rattle.changes.specs.declared.ChangedAttrs.{ChangedAttrs}
use Rattle.lists.specs.Search.{one}
use Rattle.changes.specs.Logs.{kept, watermark_of, noted, purged, cleared, marked, any_since, changed_since, any_told, path_told}
use Rattle.answers.specs.Numbers.{answer_number, note_value, told_value, mark_value}
use Rattle.lists.proofs.Bools.{split}

module _ (g : ChangedAttrs) where
  pub note_number_lem : (e c a : ℕ) → answer_number (noted g e c a).answer ≡ cond (kept g) 0 7
  unfolding noted
  note_number_lem e c a = split (kept g) (λ t. rw (t, noted)) (λ t. rw (t, noted))

  pub note_value_lem : (e c a : ℕ) → note_value (noted g e c a).answer ≡ cond (kept g) g.next 0
  unfolding noted
  note_value_lem e c a = split (kept g) (λ t. rw (t, noted)) (λ t. rw (t, noted))

  pub purge_number : (threshold : ℕ) → answer_number (purged g threshold).answer ≡ cond (kept g) 0 7
  unfolding purged
  purge_number threshold = split (kept g) (λ t. rw (t, purged)) (λ t. rw (t, purged))

  pub clear_number : answer_number (cleared g).answer ≡ cond (kept g) 0 7
  unfolding cleared
  clear_number = split (kept g) (λ t. rw (t, cleared)) (λ t. rw (t, cleared))

  pub mark_number_lem : answer_number (marked g) ≡ cond (kept g) 0 7
  unfolding marked
  mark_number_lem = split (kept g) (λ t. rw (t, marked)) (λ t. rw (t, marked))

  pub mark_value_lem : mark_value (marked g) ≡ cond (kept g) (watermark_of g) 0
  unfolding marked
  mark_value_lem = split (kept g) (λ t. rw (t, marked)) (λ t. rw (t, marked))

  pub any_number : (s : ℕ) → answer_number (any_told g s) ≡ cond (kept g) 0 7
  unfolding any_told
  any_number s = split (kept g) (λ t. rw (t, any_told)) (λ t. rw (t, any_told))

  pub any_value : (s : ℕ) → told_value (any_told g s) ≡ cond (kept g) (one (any_since g s)) 0
  unfolding any_told
  any_value s = split (kept g) (λ t. rw (t, any_told)) (λ t. rw (t, any_told))

  pub path_number : (e c a s : ℕ) → answer_number (path_told g e c a s) ≡ cond (kept g) 0 7
  unfolding path_told
  path_number e c a s = split (kept g) (λ t. rw (t, path_told)) (λ t. rw (t, path_told))

  pub path_value : (e c a s : ℕ) → told_value (path_told g e c a s) ≡ cond (kept g) (one (changed_since g e c a s)) 0
  unfolding path_told
  path_value e c a s = split (kept g) (λ t. rw (t, path_told)) (λ t. rw (t, path_told))
