-- What the sweep of the stored places comes to, with blanks behind what it leaves.
-- Assumes nothing.
use Rattle.std.proofs.Common.{◌≡◌, ℕ, suc, ◌+◌, ◌-◌, ◌≤◌, Bool, List, ◌++◌, length, get_or, drop, set, replicate, sym, ap, ◌∙◌, arith}
use lib.Seq.{drop-set-lt, get_or-set_same, length-take-le, drop-drop, drop_at, take-append-le}
use lib.ListN.{length-set, take, take-append-drop}
use native.Mathlib.Nat.{le_refl}
use borrow.Rule.Slice.PartMut.{put_mid, post_of, Post-is}
use Rattle.std.proofs.Common.{refl, ◌∷◌, zero}
use Rattle.lists.specs.Removal.{sweep}
use Rattle.lists.proofs.Bools.{split}
use Rattle.lists.proofs.Arrays.{scan_start}
use Rattle.lists.proofs.Parts.{drop_next}
use Rattle.places.proofs.RemovalAgrees.{swept_scan, swept_rest}
use Rattle.subscription.specs.declared.Subscription.{Subscription}
use Rattle.subscription.specs.Life.{blank}
use Rattle.places.specs.Moves.{swapped, swept_from}

module _ (p : Subscription → Bool) where
  swept_fewer : (f i n : ℕ) (l : List Subscription) → n - i ≡ f → i ≤ n → (swept_from p f i n l).count ≤ n
  unfolding swept_from
  swept_fewer zero i n l e h = le_refl n
  swept_fewer (suc f) i n l e h =
      split (p (get_or l i blank))
      (λ t. rw (t, swept_from) (omega (arith, swept_fewer f i (n - 1) (swapped l n i) (omega arith) (omega arith))))
      (λ t. rw (t, swept_from) (swept_fewer f (i + 1) n l (omega arith) (omega arith)))

  swept_size : (f i n : ℕ) (l : List Subscription) → length (swept_from p f i n l).places ≡ length l
  unfolding swept_from
  swept_size zero i n l = refl
  swept_size (suc f) i n l =
      split (p (get_or l i blank))
      (λ t. rw (t, swept_from) (swept_size f i (n - 1) (swapped l n i) ∙ simp length-set))
      (λ t. rw (t, swept_from) (swept_size f (i + 1) n l))

  -- the places that were vacated are blank
  swept_blank : (f i n k : ℕ) (l : List Subscription) → n - i ≡ f → i ≤ n → n ≤ k → k ≤ length l
      → take (k - n) (drop n l) ≡ replicate (k - n) blank
      → take (k - (swept_from p f i n l).count) (drop (swept_from p f i n l).count (swept_from p f i n l).places)
      ≡ replicate (k - (swept_from p f i n l).count) blank
  unfolding swept_from
  swept_blank zero i n k l e h g room b = b
  swept_blank (suc f) i n k l e h g room b =
      let m = set l i (get_or l (n - 1) blank) in
      let size : length m ≡ length l = length-set l i (get_or l (n - 1) blank) in
      let next : n - 1 + 1 ≡ n = omega arith in
      let here : drop (n - 1) (swapped l n i) ≡ blank ∷ drop n l =
      drop_next (swapped l n i) (n - 1) blank (simp length-set (omega arith))
      ∙ rw (get_or-set_same m (n - 1) blank blank (omega arith), next)
      (ap (λ l. blank ∷ l) (drop-set-lt n m (n - 1) blank (omega arith) ∙ drop-set-lt n l i (get_or l (n - 1) blank) (omega arith))) in
      let more : k - (n - 1) ≡ suc (k - n) = omega arith in
      split (p (get_or l i blank))
      (λ t. rw (t, swept_from)
      (swept_blank f i (n - 1) k (swapped l n i) (omega arith) (omega arith) (omega arith) (simp length-set room)
      (rw (more, here) (ap (λ l. blank ∷ l) b))))
      (λ t. rw (t, swept_from) (swept_blank f (i + 1) n k l (omega arith) (omega arith) g room b))

  pub swept_whole : (l ys zs : List Subscription) (n m : ℕ) → n ≤ length l → m ≤ length ys → length ys ≡ n → take m ys ≡ sweep p (take n l)
      → zs ≡ replicate (n - m) blank
      → (put_mid m (n - m) (ys ++ drop n l) zs ≡ (swept_from p n 0 n l).places) × (m ≡ (swept_from p n 0 n l).count)
  swept_whole l ys zs n m room fits is kept blanks =
      let r = swept_from p n 0 n l in
      let scan : take r.count r.places ≡ sweep p (take n l) = swept_scan p n 0 n l (omega arith) (omega arith) room ∙ sym (scan_start p n l room) in
      let fewer = swept_fewer n 0 n l (omega arith) (omega arith) in
      let size = swept_size n 0 n l in
      let counts : m ≡ r.count = omega (arith, length-take-le m ys fits, length-take-le r.count r.places (omega arith), ap length (kept ∙ sym scan)) in
      let whole : r.count + (n - r.count) ≡ n = omega arith in
      let rest : drop (n - r.count) (drop r.count r.places) ≡ drop n l =
      drop-drop (n - r.count) r.count r.places ∙ rw whole (swept_rest p n 0 n n l (omega arith) (le_refl n)) in
      let end : post_of m (n - m) (ys ++ drop n l) ≡ drop n l =
      Post-is m n (ys ++ drop n l) (omega arith) ∙ drop_at ys (drop n l) n is in
      let blank_end = swept_blank n 0 n n l (omega arith) (omega arith) (le_refl n) room (let none : n - n ≡ 0 = omega arith in rw none) in (
        ap (λ e. e ++ (zs ++ post_of m (n - m) (ys ++ drop n l))) (take-append-le m ys (drop n l) fits ∙ kept ∙ sym scan)
            ∙ ap (λ e. take r.count r.places ++ (zs ++ e)) (end ∙ sym rest)
            ∙ ap (λ e. take r.count r.places ++ (e ++ drop (n - r.count) (drop r.count r.places))) (blanks ∙ ap (λ k. replicate (n - k) blank) counts ∙ sym blank_end)
            ∙ ap (λ e. take r.count r.places ++ e) (take-append-drop (n - r.count) (drop r.count r.places))
            ∙ take-append-drop r.count r.places,
        counts,
      )
