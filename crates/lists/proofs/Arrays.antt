-- Removals in an array of which the first places are held, a turn of the sweep each.
-- Assumes nothing.
use mathlib.Core.Path.{sym, ◌∙◌, ◌≡◌, refl, ap}
use mathlib.Core.Bool.{Bool, true, false}
use mathlib.Core.List.{map, List, [], ◌∷◌, append-nil}
use Prim.Native.Nat.{ℕ, zero, suc, ◌+◌, ◌-◌, ◌≤◌, ◌<◌}
use native.Mathlib.Omega.{arith}
use native.Mathlib.Numerals.{add-one}
use native.Mathlib.Nat.{le_of_suc-le-suc, not-suc-le-zero, le_refl}
use lib.ListN.{length-map, length, take, get_or, set}
use lib.Seq.{slice, slice-cons, slice_empty, append_snoc, take-suc, take-set-le, length-take-le}
use Rattle.lists.specs.Removal.{last_of, init_of, refilled, sweep_for, sweep, scanned}

-- the length of an array that a struct holds, as the check tells it
pub full : {A B : Type 0} (f : A → B) (l : List A) {n : ℕ} → length (map f l) ≡ n → length l ≡ n
full f l h = sym (length-map l f) ∙ h

module _ {A : Type 0} where
  -- the element at f is the next of those from f on
  pub slice_next : (f t : ℕ) (l : List A) (d : A) → f < t → t ≤ length l → slice f t l ≡ get_or l f d ∷ slice (f + 1) t l
  slice_next f t l d h k = rw add-one (slice-cons f t l d h k)

  -- past the last there is none
  pub slice_done : (f t : ℕ) (l : List A) → f ≤ t → t ≤ f → slice f t l ≡ []
  slice_done f t l h k = let e : f ≡ t = omega arith in rw e (slice_empty t l)

  last_at : (x : A) (l : List A) (k : ℕ) (d : A) → k ≤ length l → last_of x (take k l) ≡ get_or (x ∷ l) k d
  unfolding last_of
  last_at x l zero d h = refl
  last_at x [] (suc k) d h = absurd (not-suc-le-zero h)
  last_at x (y ∷ ys) (suc k) d h = last_at y ys k d (le_of_suc-le-suc h)

  init_at : (x : A) (l : List A) (k : ℕ) → k ≤ length l → init_of x (take k l) ≡ take k (x ∷ l)
  unfolding init_of
  init_at x l zero h = refl
  init_at x [] (suc k) h = absurd (not-suc-le-zero h)
  init_at x (y ∷ ys) (suc k) h = ap (λ l. x ∷ l) (init_at y ys k (le_of_suc-le-suc h))

  -- the first of a list goes, and its k-th, the last that is held, fills the hole
  front_filled : (k : ℕ) (l : List A) (x d : A) → k ≤ length l → take k (get_or (x ∷ l) k d ∷ l) ≡ refilled (take k l)
  unfolding refilled
  front_filled zero l x d h = refl
  front_filled (suc k) [] x d h = absurd (not-suc-le-zero h)
  front_filled (suc k) (y ∷ ys) x d h =
      rw (last_at y ys k d (le_of_suc-le-suc h), init_at y ys k (le_of_suc-le-suc h))

  hole_filled : (i m : ℕ) (l : List A) (d : A) → i ≤ m → m < length l → slice i m (set l i (get_or l m d)) ≡ refilled (slice (suc i) (suc m) l)
  hole_filled i m [] d h k = absurd (not-suc-le-zero k)
  hole_filled zero m (x ∷ xs) d h k = front_filled m xs x d (le_of_suc-le-suc k)
  hole_filled (suc i) zero (x ∷ xs) d h k = absurd (not-suc-le-zero h)
  hole_filled (suc i) (suc m) (x ∷ xs) d h k = hole_filled i m xs d (le_of_suc-le-suc h) (le_of_suc-le-suc k)

  -- swap removal in the array: the last held place is copied to i, and one place fewer is held
  pub swap_removed_lem : (i n : ℕ) (l : List A) (d : A) → i < n → n ≤ length l
      → slice i (n - 1) (set l i (get_or l (n - 1) d)) ≡ refilled (slice (i + 1) n l)
  swap_removed_lem i n l d h k =
      let e : n ≡ suc (n - 1) = omega arith in
      rw (hole_filled i (n - 1) l d (omega arith) (omega arith), add-one, ← e)

  module _ (p : A → Bool) (i n : ℕ) (l : List A) (d : A) (room : n ≤ length l) where
    pub scan_out : i < n → p (get_or l i d) ≡ true → scanned p i n l ≡ scanned p i (n - 1) (set l i (get_or l (n - 1) d))
    unfolding scanned sweep_for
    scan_out h e =
        let f : n - i ≡ suc (n - 1 - i) = omega arith in
        rw (f, slice_next i n l d h room, e, sweep_for)
        (rw (swap_removed_lem i n l d h room, take-set-le i l i (get_or l (n - 1) d) (omega arith)))

    pub scan_kept : i < n → p (get_or l i d) ≡ false → scanned p i n l ≡ scanned p (i + 1) n l
    unfolding scanned sweep_for
    scan_kept h e =
        let f : n - i ≡ suc (n - (i + 1)) = omega arith in
        let w : i < length l = omega arith in
        rw (f, slice_next i n l d h room, e, sweep_for)
        (rw (add-one, take-suc l i d w, append_snoc))

  module _ (p : A → Bool) (n : ℕ) (l : List A) (room : n ≤ length l) where
    pub scan_start : sweep p (take n l) ≡ scanned p 0 n l
    unfolding scanned sweep
    scan_start = rw (length-take-le n l room) (let e : n - 0 ≡ n = omega arith in rw e)

    pub scan_done : (i : ℕ) → i ≤ n → n ≤ i → scanned p i n l ≡ take n l
    unfolding scanned sweep_for
    scan_done i h k =
        let e : i ≡ n = omega arith in
        let z : n - n ≡ 0 = omega arith in
        rw (e, z, slice_empty n l) (append-nil (take n l))

  -- what stands behind the held places is not looked at
  pub scan_beyond : (p : A → Bool) (i n : ℕ) (l : List A) (e : A) → i ≤ n → scanned p i n (set l n e) ≡ scanned p i n l
  unfolding scanned
  scan_beyond p i n l e h = rw (take-set-le i l n e h, take-set-le n l n e (le_refl n))
