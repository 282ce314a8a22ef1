-- What a step of a note hands on, and what the chains over the entries come to. The definitions' cases are in `Cases`.
-- Assumes nothing.
use mathlib.Core.Path.{◌≡◌, sym, ap, ◌∙◌}
use mathlib.Core.Bool.{Bool}
use mathlib.Core.List.{map, List, [], ◌∷◌, ◌++◌, append-nil}
use Prim.Native.Nat.{ℕ, ◌-◌, ◌≤◌, ◌<◌, max}
use native.Mathlib.Omega.{arith}
use borrow.Rule.Slice.PartMut.{mid_of, mid_len, post_of, Post-is, put_mid}
use native.Mathlib.Nat.{le_refl}
use Rattle.std.proofs.lemmas.List.{drop_all}
use lib.ListN.{length-take, length, take, get_or, set, replicate}
use lib.Seq.{get_or-take, length-take-le, take-set-lt}
use Rattle.entries.specs.declared.ChangedAttr.{ChangedAttr}
use Rattle.std.specs.Prelude.{Some}
use Rattle.std.specs.List.{fold, filter, position}
use Rattle.entries.specs.Paths.{blank, with_identity, over}
use Rattle.notes.specs.Notes.{newest, refreshed}
use Rattle.lists.proofs.Searches.{changed_at}
use Rattle.lists.proofs.Library.{found_at}
use Rattle.lists.proofs.Bools.{split}

-- the first entry that covers the note, by its place
pub refreshed_at : (n : ChangedAttr) (l : List ChangedAttr) {i : ℕ} → position (over n) l ≡ Some i
    → set l i (with_identity n.identity (get_or l i blank)) ≡ refreshed n l
unfolding refreshed
refreshed_at n l e =
    let at = found_at (over n) l e in
    rw at.1 (sym (changed_at (over n) (with_identity n.identity) l blank at.2))

module _ (p : ChangedAttr → Bool) where
  newest_from : (m : ℕ) (l : List ChangedAttr) → fold max m (map (λ x. x.identity) (filter p l)) ≡ max m (newest p l)
  unfolding newest
  newest_from m [] = omega arith
  newest_from m (x ∷ xs) =
      split (p x)
      (λ t. rw (t, newest) (omega (arith, newest_from (max m x.identity) xs)))
      (λ t. rw (t, newest) (omega (arith, newest_from m xs)))

  -- the greatest identity, as the chain of `newest_of` has it
  pub newest_is : (l : List ChangedAttr) → newest p l ≡ fold max 0 (map (λ x. x.identity) (filter p l))
  newest_is l = omega (arith, newest_from 0 l)

-- an entry stored among the first n
pub renewed : (l : List ChangedAttr) (n i k : ℕ) → i < length (take n l)
    → take n (set l i (with_identity k (get_or l i blank))) ≡ set (take n l) i (with_identity k (get_or (take n l) i blank))
renewed l n i k h =
    let within : i < n = omega (arith, length-take n l) in
    rw (get_or-take n l i blank within, take-set-lt n l i _ within)

-- with every place beyond the first n blank, the array is settled by those
pub blanked : (l ys : List ChangedAttr) (n : ℕ) → length l ≡ 16 → n ≤ 16 → ys ≡ replicate (length (mid_of n (length l - n) l)) blank
    → put_mid n (length l - n) l ys ≡ take n l ++ replicate (16 - length (take n l)) blank
blanked l ys n long fits e =
    let none : post_of n (length l - n) l ≡ [] = Post-is n (length l) l (omega arith) ∙ drop_all (length l) l (le_refl (length l)) in
    let many : length (mid_of n (length l - n) l) ≡ 16 - length (take n l) =
    omega (arith, mid_len n (length l) l (le_refl (length l)), length-take-le n l (omega arith)) in
    ap (λ m. take n l ++ (ys ++ m)) none ∙ ap (λ m. take n l ++ m) (append-nil ys ∙ e ∙ ap (λ k. replicate k blank) many)
