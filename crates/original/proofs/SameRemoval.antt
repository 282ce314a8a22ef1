-- The loop of `remove`, which searches from the front again after each removal, is one sweep, and it counts what it removes.
-- Assumes nothing.
use Rattle.std.specs.Prelude.{Option, Some, None}
use mathlib.Core.Path.{◌≡◌, refl, sym, ap, ◌∙◌}
use mathlib.Core.Bool.{Bool, true, false, ◌||◌, or-true, or-false}
use mathlib.Core.List.{List, [], ◌∷◌}
use Prim.Native.Nat.{ℕ, zero, suc, ◌+◌, ◌≤◌}
use native.Mathlib.Omega.{arith}
use native.Mathlib.Nat.{le_refl}
use lib.ListN.{length}
use Rattle.lists.specs.Search.{some}
use Rattle.lists.specs.Removal.{refilled, sweep_for, sweep}
use Rattle.lists.proofs.Bools.{split}
use Rattle.lists.proofs.Removals.{length_refilled}
use Rattle.original.specs.Std.{map_some, wrapping_sub, swap_remove, position}
use Rattle.original.specs.Subscription.{Subscription}
use Rattle.original.specs.Table.{Removal, remove_loop}
use Rattle.original.proofs.Vectors.{swap_first, swap_later}

-- where the loop stands
abbrev standing : ℕ → List Subscription → Bool → Removal
standing n l removed = record { subscriptions_count = n; subscriptions = l; removed = removed }

-- behind one that stays
abbrev behind : Subscription → Removal → Removal
behind x r = standing r.subscriptions_count (x ∷ r.subscriptions) r.removed

-- after one more removal
abbrev without : ℕ → Removal → Removal
without i r = standing (wrapping_sub 64 r.subscriptions_count 1) (swap_remove i r.subscriptions) true

module _ (f : Subscription → Bool) where
  stops : (n : ℕ) (r : Removal) → position f r.subscriptions ≡ None → remove_loop n f r ≡ r
  unfolding remove_loop
  stops zero r e = refl
  stops (suc n) r e = rw (e, remove_loop)

  goes_on : (n i : ℕ) (r : Removal) → position f r.subscriptions ≡ Some i → remove_loop (suc n) f r ≡ remove_loop n f (without i r)
  unfolding remove_loop
  goes_on n i r e = rw (e, remove_loop)

  later : (x : Subscription) (l : List Subscription) → f x ≡ false → position f (x ∷ l) ≡ map_some suc (position f l)
  unfolding position
  later x l e = rw (e, position)

  none_left : position f [] ≡ None
  unfolding position
  none_left = refl

  nowhere : (i : ℕ) → position f [] ≡ Some i → ⊥
  nowhere i q = let e = none_left in let z : ◌≡◌ {A = ℕ} 0 1 = cc in omega arith

  -- one that stays is passed over at every search
  loop_behind : (x : Subscription) → f x ≡ false → (n : ℕ) (r : Removal) → remove_loop n f (behind x r) ≡ behind x (remove_loop n f r)
  unfolding remove_loop
  loop_behind x e zero r = refl
  loop_behind x e (suc n) r = go r.subscriptions refl (position f r.subscriptions) refl (loop_behind x e n)
    where
      go : (l : List Subscription) → r.subscriptions ≡ l → (o : Option ℕ) → position f r.subscriptions ≡ o
          → ((r : Removal) → remove_loop n f (behind x r) ≡ behind x (remove_loop n f r))
          → remove_loop (suc n) f (behind x r) ≡ behind x (remove_loop (suc n) f r)
      go l d None q ih =
          stops (suc n) (behind x r) (later x r.subscriptions e ∙ ap (map_some suc) q) ∙ ap (behind x) (sym (stops (suc n) r q))
      go [] d (Some i) q ih = absurd (nowhere i (sym (ap (position f) d) ∙ q))
      go (y ∷ ys) d (Some i) q ih =
          goes_on n (suc i) (behind x r) (later x r.subscriptions e ∙ ap (map_some suc) q)
          ∙ ap (λ l. remove_loop n f (standing (wrapping_sub 64 r.subscriptions_count 1) l true))
          (ap (λ l. swap_remove (suc i) (x ∷ l)) d ∙ swap_later i x y ys ∙ ap (λ l. x ∷ swap_remove i l) (sym d))
          ∙ ih (without i r)
          ∙ ap (behind x) (sym (goes_on n i r q))

  found_first : (x : Subscription) (l : List Subscription) → f x ≡ true → position f (x ∷ l) ≡ Some 0
  unfolding position
  found_first x l e = rw (e, position)

  -- m are counted that are not in the list
  loop_for : (k n : ℕ) (l : List Subscription) (m : ℕ) (b : Bool) → length l ≤ k → length l ≤ n → length l + m ≤ 80
      → remove_loop n f (standing (length l + m) l b) ≡ standing (length (sweep_for k f l) + m) (sweep_for k f l) (b || some f l)
  unfolding sweep_for some
  loop_for zero n [] m b h i j = stops n (standing (0 + m) [] b) none_left ∙ ap (standing (0 + m) []) (sym (or-false b))
  loop_for zero n (x ∷ xs) m b h i j = absurd (omega arith)
  loop_for (suc k) n [] m b h i j = stops n (standing (0 + m) [] b) none_left ∙ ap (standing (0 + m) []) (sym (or-false b))
  loop_for (suc k) zero (x ∷ xs) m b h i j = absurd (omega arith)
  loop_for (suc k) (suc n) (x ∷ xs) m b h i j =
      split (f x)
      (λ t. let e = length_refilled xs in
      let count : wrapping_sub 64 (suc (length xs) + m) 1 ≡ length (refilled xs) + m = omega arith in
      goes_on n 0 (standing (suc (length xs) + m) (x ∷ xs) b) (found_first x xs t)
      ∙ ap (λ l. remove_loop n f (standing (wrapping_sub 64 (suc (length xs) + m) 1) l true)) (swap_first x xs)
      ∙ ap (λ c. remove_loop n f (standing c (refilled xs) true)) count
      ∙ loop_for k n (refilled xs) m true (omega arith) (omega arith) (omega arith)
      ∙ rw (t, sweep_for) (ap (standing (length (sweep_for k f (refilled xs)) + m) (sweep_for k f (refilled xs))) (sym (or-true b))))
      (λ t. let up : suc (length xs) + m ≡ length xs + suc m = omega arith in
      let down : length (sweep_for k f xs) + suc m ≡ suc (length (sweep_for k f xs)) + m = omega arith in
      loop_behind x t (suc n) (standing (suc (length xs) + m) xs b)
      ∙ ap (λ c. behind x (remove_loop (suc n) f (standing c xs b))) up
      ∙ ap (behind x) (loop_for k (suc n) xs (suc m) b (omega arith) (omega arith) (omega arith))
      ∙ rw (t, sweep_for) (ap (λ c. standing c (x ∷ sweep_for k f xs) (b || some f xs)) down))

  pub loop_sweeps : (l : List Subscription) (m : ℕ) → length l + m ≤ 80
      → remove_loop (length l) f (standing (length l + m) l false) ≡ standing (length (sweep f l) + m) (sweep f l) (some f l)
  unfolding sweep
  loop_sweeps l m h = loop_for (length l) (length l) l m false (le_refl (length l)) (le_refl (length l)) h
