-- A removal from a well-kept table is the machine's at the state that the table stands for.
-- The sweep over the places sweeps the machine's list, and does not touch the open ones.
-- Assumes nothing.
use mathlib.Core.Path.{◌≡◌, refl, sym, ap, ◌∙◌}
use mathlib.Core.Bool.{Bool, true, ◌||◌, cond}
use mathlib.Core.List.{List}
use Prim.Native.Nat.{ℕ, zero, suc, ◌+◌, ◌-◌, ◌≤◌}
use native.Mathlib.Omega.{arith}
use lib.ListN.{length, take, drop, get_or, set, length-set}
use lib.Seq.{drop-set-lt}
use Rattle.subscription.specs.declared.Subscription.{Subscription}
use Rattle.choices.specs.declared.Choice.{Choice}
use Rattle.places.specs.declared.Table.{Table}
use Rattle.lists.specs.Search.{some}
use Rattle.lists.specs.Removal.{sweep, scanned}
use Rattle.subscription.specs.Life.{blank}
use Rattle.choices.specs.Choices.{chosen}
use Rattle.rules.specs.Machine.{Outcome, outcome, with_ones, with_cancel, step}
use Rattle.places.specs.Views.{stored_of, opens_of, view, kept}
use Rattle.places.specs.Tests.{struck}
use Rattle.places.specs.Moves.{swapped, swept_from, swept_out}
use Rattle.places.specs.Calls.{refused_in, cancels_in, remove_in}
use Rattle.places.specs.Agreement.{woken_says}
use Rattle.rules.specs.Calls as call
use Rattle.lists.proofs.Bools.{split}
use Rattle.lists.proofs.Arrays.{scan_out, scan_kept, scan_start, scan_done, scan_beyond}
use Rattle.rules.proofs.Acts.{act_remove}
use Rattle.places.proofs.Refusing.{kept_counts}
use Rattle.places.proofs.Agreeing.{agreeing}

module _ (p : Subscription → Bool) where
  -- what the sweep holds in the end is what the scan of the list leaves
  pub swept_scan : (f i n : ℕ) (l : List Subscription) → n - i ≡ f → i ≤ n → n ≤ length l
      → take (swept_from p f i n l).count (swept_from p f i n l).places ≡ scanned p i n l
  unfolding swept_from
  swept_scan zero i n l e h room = sym (scan_done p n l room i h (omega arith))
  swept_scan (suc f) i n l e h room =
      let m = set l i (get_or l (n - 1) blank) in
      let size : length (swapped l n i) ≡ length l = length-set m (n - 1) blank ∙ length-set l i (get_or l (n - 1) blank) in
      split (p (get_or l i blank))
      (λ t. rw (t, swept_from)
      (swept_scan f i (n - 1) (swapped l n i) (omega arith) (omega arith) (omega arith)
      ∙ scan_beyond p i (n - 1) m blank (omega arith)
      ∙ sym (scan_out p i n l blank room (omega arith) t)))
      (λ t. rw (t, swept_from)
      (swept_scan f (i + 1) n l (omega arith) (omega arith) room ∙ sym (scan_kept p i n l blank room (omega arith) t)))

  -- and what stands behind the held places stays
  pub swept_rest : (f i n k : ℕ) (l : List Subscription) → n - i ≡ f → n ≤ k → drop k (swept_from p f i n l).places ≡ drop k l
  unfolding swept_from
  swept_rest zero i n k l e h = refl
  swept_rest (suc f) i n k l e h =
      let m = set l i (get_or l (n - 1) blank) in
      split (p (get_or l i blank))
      (λ t. rw (t, swept_from)
      (swept_rest f i (n - 1) k (swapped l n i) (omega arith) (omega arith)
      ∙ drop-set-lt k m (n - 1) blank (omega arith)
      ∙ drop-set-lt k l i (get_or l (n - 1) blank) (omega arith)))
      (λ t. rw (t, swept_from) (swept_rest f (i + 1) n k l (omega arith) h))

module _ (t : Table) (long : length t.places ≡ 80) (h : kept t ≡ true) where
  swept_stored : (p : Subscription → Bool) → stored_of (swept_out p t) ≡ sweep p (stored_of t)
  unfolding swept_out
  swept_stored p =
      let b = kept_counts t h in
      let room : t.stored ≤ length t.places = omega arith in
      swept_scan p t.stored 0 t.stored t.places (omega arith) (omega arith) room ∙ sym (scan_start p t.stored t.places room)

  swept_opens : (p : Subscription → Bool) → opens_of (swept_out p t) ≡ opens_of t
  unfolding swept_out
  swept_opens p =
      let b = kept_counts t h in
      swept_rest p t.stored 0 t.stored (80 - t.opens) t.places (omega arith) (omega arith)

  pub remove_agrees : (choice : Choice) (reason : ℕ) → woken_says (remove_in t choice reason) ≡ step (call.remove choice reason) (view t)
  unfolding remove_in cancels_in struck swept_out
  remove_agrees choice reason =
      let wakes = some (chosen choice) (stored_of t) || cancels_in t choice in
      let after = cond (cancels_in t choice) reason t.cancel in
      let left : List Subscription → List Subscription → Outcome = λ stored opens. outcome (call.yes_no wakes) (with_cancel (with_ones (view t) stored opens) after) in
      agreeing woken_says t (call.remove choice reason) (refused_in t) _ (λ why. refl) h
      (λ _. ap (λ l. left l (opens_of (swept_out (chosen choice) t))) (swept_stored (chosen choice))
      ∙ ap (left (sweep (chosen choice) (stored_of t))) (swept_opens (chosen choice))
      ∙ sym (act_remove (view t) choice reason))
