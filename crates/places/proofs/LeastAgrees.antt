-- A purge of a well-kept table and its next keep-alive are the machine's at the state that the table stands for.
-- The table's least over the stored ones starts from a bound of all of them, the machine's from the first.
-- Assumes nothing.
use Rattle.std.specs.Prelude.{Some, None, Ok, Err}
use mathlib.Core.Path.{◌≡◌, refl, sym, ap, ◌∙◌}
use mathlib.Core.Bool.{true, false, cond}
use mathlib.Core.List.{List, [], ◌∷◌}
use Prim.Native.Nat.{◌-◌, ◌<◌}
use native.Mathlib.Omega.{arith}
use native.Mathlib.Nat.{not-suc-le-zero, le_refl}
use borrow.Author.Tests.{ltb-true}
use lib.Dec.{eqb, ltb, eqb-suc-zero}
use lib.ListN.{length, get_or, length-drop}
use lib.Seq.{length-take-le, get_or-take}
use Rattle.time.specs.declared.KeepAlive.TheVariants.{Icd}
use Rattle.subscription.specs.declared.Subscription.{Subscription}
use Rattle.places.specs.declared.Table.{Table}
use Rattle.lists.specs.Search.{least_by}
use Rattle.instants.specs.Instants.{last_instant}
use Rattle.changes.specs.Logs.{purged}
use Rattle.subscription.specs.When.{due_of}
use Rattle.subscription.specs.Life.{blank}
use Rattle.rules.specs.Machine.{outcome, least_seen, keep_alive_in, step}
use Rattle.places.specs.Views.{stored_of, opens_of, view, kept}
use Rattle.places.specs.Tests.{icd_due, seen_of}
use Rattle.places.specs.Moves.{with_log}
use Rattle.places.specs.Calls.{alive_at, purged_table, purge_in}
use Rattle.places.specs.Agreement.{settled_says, alive_says}
use Rattle.rules.specs.Calls as call
use Rattle.lists.proofs.Bools.{split}
use Rattle.lists.proofs.Numbers.{least_lower}
use Rattle.subscription.proofs.Laws.{due_most}
use Rattle.rules.proofs.Acts.{act_purge, act_alive, alive_none, alive_some}
use Rattle.places.proofs.Refusing.{kept_counts}
use Rattle.places.proofs.Agreeing.{agreeing}

-- the least seen watermark, from the first one's or over all
seen_same : (l : List Subscription) → 0 < length l → least_by seen_of (get_or l 0 blank).seen l ≡ least_seen l
unfolding seen_of
seen_same [] h = absurd (not-suc-le-zero h)
seen_same (x ∷ xs) h = least_lower (λ y. y.seen) x.seen x xs (le_refl x.seen)

alive_same : (t : Table) (l : List Subscription)
    → alive_says t (Ok (cond (eqb (length l) 0) None (Some (record { ms = least_by icd_due last_instant.ms l }))))
    ≡ outcome (call.keep_alive (keep_alive_in l)) (view t)
unfolding icd_due
alive_same t [] = rw alive_none
alive_same t (x ∷ xs) =
    let many : eqb (length (x ∷ xs)) 0 ≡ false = eqb-suc-zero (length xs) in
    rw (alive_some x xs, least_lower (λ y. (due_of y Icd).ms) last_instant.ms x xs (due_most x Icd), many)

module _ (t : Table) (long : length t.places ≡ 80) (h : kept t ≡ true) where
  stored_many : length (stored_of t) ≡ t.stored
  stored_many = let b = kept_counts t h in length-take-le t.stored t.places (omega arith)

  opens_many : length (opens_of t) ≡ t.opens
  opens_many = let b = kept_counts t h in length-drop (80 - t.opens) t.places ∙ (omega arith)

  pub alive_agrees : alive_says t (alive_at t) ≡ step call.next_keep_alive (view t)
  unfolding alive_at
  alive_agrees =
      agreeing (alive_says t) t call.next_keep_alive Err _ (λ why. refl) h
      (λ _. ap (λ n. alive_says t (Ok (cond (eqb n 0) None (Some (record { ms = least_by icd_due last_instant.ms (stored_of t) })))))
      (sym stored_many)
      ∙ alive_same t (stored_of t)
      ∙ sym (act_alive (view t)))

  -- the least seen watermark of some stored ones
  least_same : 0 < t.stored → least_by seen_of (get_or t.places 0 blank).seen (stored_of t) ≡ least_seen (stored_of t)
  least_same some_stored =
      let m = stored_many in
      ap (λ x. least_by seen_of x.seen (stored_of t)) (sym (get_or-take t.stored t.places 0 blank some_stored))
      ∙ seen_same (stored_of t) (omega arith)

  pub purge_agrees : settled_says (purge_in t) ≡ step call.purge (view t)
  unfolding purge_in purged_table
  purge_agrees =
      agreeing settled_says t call.purge (λ why. record { answer = Err why; table = t }) _ (λ why. refl) h
      (λ _. sym (act_purge (view t) ∙ rw (opens_many, stored_many)
      (split (ltb 0 t.opens)
      (λ u. rw (u, purged_table))
      (λ u. split (ltb 0 t.stored)
      (λ v. rw (u, v, purged_table)
      (ap (λ m. outcome call.done (view (with_log t (purged t.log m).log))) (sym (least_same (ltb-true 0 t.stored v)))))
      (λ v. rw (u, v, purged_table))))))
