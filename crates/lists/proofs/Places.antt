-- Swap removal of the first that p holds of, by its place and in an array of which the first places are held.
-- Assumes nothing.
use mathlib.Core.Path.{◌≡◌, refl, sym, ap, ◌∙◌}
use mathlib.Core.Bool.{Bool}
use mathlib.Core.List.{List, [], ◌∷◌, ◌++◌}
use Prim.Native.Nat.{ℕ, suc, ◌-◌, ◌≤◌, ◌<◌}
use native.Mathlib.Omega.{arith}
use native.Mathlib.Numerals.{add-one}
use native.Mathlib.Nat.{le_of_suc-le-suc, not-suc-le-zero}
use lib.ListN.{length, take, drop, get_or, set, take-append-drop}
use lib.Seq.{length-take-le, take-set-le, take-take}
use Rattle.lists.specs.Search.{first, first_by}
use Rattle.lists.specs.Removal.{refilled, take_out, take_out_newest}
use Rattle.lists.proofs.Bools.{split}
use Rattle.lists.proofs.Arrays.{swap_removed_lem}
use Rattle.lists.proofs.Searches.{changed_at}

module _ {A : Type 0} (p : A → Bool) where
  -- the first that p holds of, by its place
  pub first_at : (d : A) (l : List A) → first_by p d l ≡ get_or l (first p l) d
  unfolding first_by first
  first_at d [] = refl
  first_at d (x ∷ xs) = split (p x) (λ t. rw (t, first_by, first)) (λ t. rw (t, first_by, first) (first_at d xs))

  -- its removal, by its place
  pub taken_at : (l : List A) → first p l < length l → take_out p l ≡ take (first p l) l ++ refilled (drop (suc (first p l)) l)
  unfolding first take_out
  taken_at [] h = absurd (not-suc-le-zero h)
  taken_at (x ∷ xs) h =
      split (p x)
      (λ t. rw (t, take_out, first))
      (λ t. rw (t, take_out, first) (ap (λ l. x ∷ l) (taken_at xs (le_of_suc-le-suc (rw (t, first) at h)))))

  -- its removal from an array of which the first n places are held
  pub array_taken : (n : ℕ) (l : List A) (d e : A) → n ≤ length l → first p (take n l) < n
      → take (n - 1) (set (set l (first p (take n l)) (get_or l (n - 1) d)) (n - 1) e) ≡ take_out p (take n l)
  array_taken n l d e room h =
      let i = first p (take n l) in
      let m = set l i (get_or l (n - 1) d) in
      let size : length (take n l) ≡ n = length-take-le n l room in
      take-set-le (n - 1) m (n - 1) e (omega arith)
      ∙ sym (take-append-drop i (take (n - 1) m))
      ∙ rw (take-take i (n - 1) m (omega arith), take-set-le i l i (get_or l (n - 1) d) (omega arith))
      (ap (λ r. take i l ++ r) (swap_removed_lem i n l d h room)
      ∙ rw (add-one, taken_at (take n l) (omega arith), take-take i n l (omega arith)))

  -- the same where the newest element is the first, and fills the hole
  pub newest_taken : (l : List A) (d e : A) → first p l < length l → drop 1 (set (set l (first p l) (get_or l 0 d)) 0 e) ≡ take_out_newest p l
  unfolding first take_out_newest
  newest_taken [] d e h = absurd (not-suc-le-zero h)
  newest_taken (x ∷ xs) d e h =
      split (p x)
      (λ t. rw (t, take_out_newest, first))
      (λ t. let w = le_of_suc-le-suc (rw (t, first) at h) in
      rw (t, take_out_newest, first) (sym (changed_at p (λ y. x) xs d w)))
