-- A completion: what the Rust stores or drops when a context is dropped, and what it leaves of the slot and of the cancellation.
-- Assumes nothing.
use Rattle.std.specs.Prelude.{Option, None}
use mathlib.Core.Path.{◌≡◌, refl, sym, ap, ◌∙◌}
use mathlib.Core.Bool.{Bool, true, false, cond, not, ◌&&◌}
use mathlib.Core.List.{[], ◌∷◌, ◌++◌, map, map-append}
use Prim.Native.Nat.{ℕ, suc, ◌≤◌}
use native.Mathlib.Omega.{arith}
use borrow.Author.Tests.{eqb-true, lt-ltb, le-ltb, ltb-false, not-false}
use lib.Dec.{eqb, ltb}
use lib.ListN.{length, length-append, length-map}
use Rattle.lists.specs.Search.{some}
use Rattle.lists.specs.Removal.{take_out_newest}
use Rattle.lists.proofs.Bools.{split}
use Rattle.lists.proofs.Counts.{count_taken_newest, count_every, first_meets}
use Rattle.subscription.specs.declared.Subscription as one
use Rattle.subscription.specs.Life.{blank, closed, keeps}
use Rattle.rules.specs.States.{State, counted, is_report, has_id}
use Rattle.rules.specs.Calls as call
use Rattle.rules.specs.Machine.{with_cancel, with_ones, open_with, cancelled, stays, stored_after, first_of, objections, act}
use Rattle.rules.proofs.Acts.{act_complete}
use Rattle.rules.proofs.Clauses.{counted_is, has_id_is, complete_objects}
use Rattle.rules.proofs.Objections.{unobjected}
use Rattle.rules.proofs.Sound.{Sound}
use Rattle.original.specs.Std.{is_some, wrapping_sub}
use Rattle.original.specs.Subscription.{Subscription}
use Rattle.original.specs.Contexts.{ReportContext, returned}
use Rattle.original.specs.Table.{Subscriptions, with_inner, with_contexts, owns_slot, put_back, report_complete}
use Rattle.original.specs.Calls.{reply, said, dropped, complete, call_on}
use Rattle.original.specs.Likeness.{subscription_of, context_of, reporting_of, cancelled_of, original_of}
use Rattle.original.proofs.Alike.{reply_of, same_table, few}
use Rattle.original.proofs.Opens.{context_found, context_taken, owner, slot_taken}
use Rattle.original.proofs.SameSubscription.{keep_same, failed_same, said_id, returned_same}

-- ---- the cancellation

some_cancelled : (n : ℕ) → is_some (cancelled_of n) ≡ not (eqb n 0)
some_cancelled n = split (eqb n 0) (λ t. rw t) (λ t. rw t)

cancel_left : (b : Bool) (n : ℕ) → cond b None (cancelled_of n) ≡ cancelled_of (cond b 0 n)
cancel_left true n = refl
cancel_left false n = refl

-- ---- the table that a dropped context leaves, by whether it owns the slot

complete_by : (c : ReportContext) (t : Subscriptions) (b : Bool) → owns_slot c.subscription.id t.reporting ≡ b
    → report_complete c t
    ≡ put_back (b && is_some t.reporting_cancelled) c.keep (returned c) (cond b None t.reporting)
    (cond b None t.reporting_cancelled) t
unfolding report_complete
complete_by c t true e = rw e
complete_by c t false e = rw e

-- one that is dropped is counted no longer
abbrev less_one : Subscriptions → Option Subscription → Option ℕ → Subscriptions
less_one t reporting reporting_cancelled =
    with_inner (wrapping_sub 64 t.subscriptions_count 1) t.subscriptions reporting reporting_cancelled t

module _ (s : State) (id o : ℕ) (sound : Sound s) (good : o ≤ 4) (found : some (has_id id) s.opens ≡ true) where
  -- the open one with the id
  abbrev x : one.Subscription
  x = open_with id s

  abbrev said_so : ReportContext
  said_so = said o (context_of x)

  same_id : said_so.subscription.id ≡ id
  same_id = said_id x o good ∙ eqb-true x.id id (sym (has_id_is id x) ∙ first_meets (has_id id) blank s.opens found)

  owns : owns_slot said_so.subscription.id (reporting_of s.opens) ≡ is_report x
  owns =
      ap (λ i. owns_slot i (reporting_of s.opens)) same_id
      ∙ owner id s.opens found sound.single (omega (arith, sound.ids id))

  -- what is open after it is one fewer
  fewer : suc (length (take_out_newest (has_id id) s.opens)) ≡ length s.opens
  fewer =
      omega (
        arith,
        count_taken_newest (λ y. true) (has_id id) blank s.opens found,
        count_every s.opens,
        count_every (take_out_newest (has_id id) s.opens),
      )

  -- the state after it
  abbrev pub ended : State
  ended = with_cancel (with_ones s (stored_after x o s) (take_out_newest (has_id id) s.opens)) (cond (is_report x) 0 s.cancel)

  -- the table without the context
  abbrev pub held : Subscriptions
  held = with_contexts (map context_of (take_out_newest (has_id id) s.opens)) (original_of s)

  stored_kept : stays x o s ≡ true → stored_after x o s ≡ s.stored ++ (closed x o ∷ [])
  stored_kept e = ap (λ b. cond b (s.stored ++ (closed x o ∷ [])) s.stored) e

  stored_dropped : stays x o s ≡ false → stored_after x o s ≡ s.stored
  stored_dropped e = ap (λ b. cond b (s.stored ++ (closed x o ∷ [])) s.stored) e

  put_back_lem : (d k : Bool) → cancelled x s ≡ d → keeps x o ≡ k
      → put_back d k (returned said_so) (reporting_of ended.opens) (cancelled_of ended.cancel) held ≡ original_of ended
  unfolding original_of
  put_back_lem true k e f = same_table refl refl counts stored refl refl refl refl
    where
      same : stored_after x o s ≡ s.stored
      same = stored_dropped (rw e)

      counts : wrapping_sub 64 (counted s) 1 ≡ counted ended
      counts = omega (arith, few s sound, counted_is s, counted_is ended, ap length same, fewer)

      stored : map subscription_of s.stored ≡ map subscription_of (stored_after x o s)
      stored = sym (ap (map subscription_of) same)
  put_back_lem false true e f = same_table refl refl counts stored refl refl refl refl
    where
      same : stored_after x o s ≡ s.stored ++ (closed x o ∷ [])
      same = stored_kept (rw (e, f))

      counts : counted s ≡ counted ended
      counts = omega (arith, counted_is s, counted_is ended, ap length same, length-append s.stored (closed x o ∷ []), fewer)

      stored : map subscription_of s.stored ++ (returned said_so ∷ []) ≡ map subscription_of (stored_after x o s)
      stored =
          ap (λ y. map subscription_of s.stored ++ (y ∷ [])) (returned_same x o good f)
          ∙ sym (map-append subscription_of s.stored (closed x o ∷ []))
          ∙ sym (ap (map subscription_of) same)
  put_back_lem false false e f = same_table refl refl counts stored refl refl refl refl
    where
      same : stored_after x o s ≡ s.stored
      same = stored_dropped (rw (e, f))

      counts : wrapping_sub 64 (counted s) 1 ≡ counted ended
      counts = omega (arith, few s sound, counted_is s, counted_is ended, ap length same, fewer)

      stored : map subscription_of s.stored ≡ map subscription_of (stored_after x o s)
      stored = sym (ap (map subscription_of) same)

  -- what the dropped context leaves
  pub complete_table : report_complete said_so held ≡ original_of ended
  unfolding original_of
  complete_table =
      complete_by said_so held (is_report x) owns
      ∙ rw (
        some_cancelled s.cancel,
        keep_same x o good,
        cancel_left (is_report x) s.cancel,
        ← slot_taken id s.opens found sound.single,
      )
      (put_back_lem (cancelled x s) (keeps x o) refl refl)

  -- it was kept exactly where the table holds one more
  kept_same : ltb (length (map subscription_of s.stored)) (length (map subscription_of (stored_after x o s))) ≡ stays x o s
  kept_same =
      rw (length-map s.stored subscription_of, length-map (stored_after x o s) subscription_of)
      (split (stays x o s)
      (λ t. lt-ltb (length s.stored) (length (stored_after x o s))
      (omega (arith, ap length (stored_kept t), length-append s.stored (closed x o ∷ [])))
      ∙ sym t)
      (λ t. le-ltb (length s.stored) (length (stored_after x o s)) (omega (arith, ap length (stored_dropped t))) ∙ sym t))

  pub dropped_same : dropped said_so held ≡ reply_of (act (call.complete id o) s)
  unfolding original_of
  dropped_same =
      rw (act_complete s id o)
      (ap (λ t. reply
      (call.completed (ltb (length (map subscription_of s.stored)) (length t.subscriptions)) said_so.report_failed) t) complete_table
      ∙ ap (λ b. reply (call.completed b said_so.report_failed) (original_of ended)) kept_same
      ∙ ap (λ b. reply (call.completed (stays x o s) b) (original_of ended)) (failed_same x o good))

pub complete_same : (s : State) → Sound s → (id o : ℕ) → first_of (objections (call.complete id o) s) ≡ None
    → call_on (call.complete id o) (original_of s) ≡ reply_of (act (call.complete id o) s)
unfolding call_on complete original_of
complete_same s sound id o e =
    let a = unobjected _ _ _ (ap first_of (sym (complete_objects s id o)) ∙ e) in
    let good : o ≤ 4 = ltb-false 4 o a.0 in
    let found : some (has_id id) s.opens ≡ true = not-false _ (unobjected _ _ _ a.1).0 in
    rw (context_found id s.opens found, context_taken id s.opens) (dropped_same s id o sound good found)
