-- What is left of a slice behind an index, as the loops meet it.
-- Assumes nothing.
use mathlib.Core.Path.{◌≡◌}
use mathlib.Core.List.{List, ◌∷◌}
use Prim.Native.Nat.{ℕ, ◌+◌, ◌-◌, ◌<◌}
use native.Mathlib.Numerals.{add-one}
use native.Mathlib.Omega.{arith}
use lib.ListN.{length, length-drop, take, drop, get_or}
use lib.Seq.{drop-cons, take_all}

module _ {A : Type 0} where
  pub drop_next : (l : List A) (i : ℕ) (d : A) → i < length l → drop i l ≡ get_or l i d ∷ drop (i + 1) l
  drop_next l i d h = rw (add-one, drop-cons l i d h)

  -- the part `&l[at..]`
  pub rest : (l : List A) (at : ℕ) → take (length l - at) (drop at l) ≡ drop at l
  rest l at = take_all (length l - at) (drop at l) (simp length-drop (omega arith))
