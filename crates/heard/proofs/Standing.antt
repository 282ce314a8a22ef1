-- The log stands for a note while somebody live has not heard of it: a later note keeps it, and a purge stops short of whoever has seen less.
-- Assumes nothing.
use mathlib.Core.Path.{◌≡◌, refl, sym, ap, ◌∙◌}
use mathlib.Core.Bool.{Bool, true, false, cond, or_comm, or-false}
use mathlib.Core.List.{List, [], ◌∷◌}
use Prim.Native.Nat.{ℕ, ◌+◌, ◌-◌, ◌≤◌, ◌<◌}
use native.Mathlib.Omega.{arith}
use borrow.Author.Tests.{le-leb, leb-true, leb-false, lt-ltb, ltb-false}
use lib.Dec.{leb, ltb}
use lib.ListN.{length}
use Rattle.entries.specs.declared.ChangedAttr.{ChangedAttr}
use Rattle.changes.specs.declared.ChangedAttrs.{ChangedAttrs}
use Rattle.subscription.specs.declared.Subscription.{Subscription}
use Rattle.lists.specs.Search.{one, some}
use Rattle.changes.specs.Logs.{noted, purged, cleared}
use Rattle.changes.specs.Reach.{reached}
use Rattle.rules.specs.States.{State, fresh, capacity_fits, has_id, id_live, well_kept}
use Rattle.rules.specs.Calls.{Op}
use Rattle.rules.specs.Machine.{least_seen, step}
use Rattle.rules.specs.Rounds.{is_round}
use Rattle.heard.specs.Hearing.{is_note}
use Rattle.rules.specs.Calls as call
use Rattle.lists.proofs.Bools.{split, clash, or_left, or_right, or_neither}
use Rattle.lists.proofs.Searches.{some_append}
use Rattle.lists.proofs.Counts.{some_long, some_nil, some_cons, none_count}
use Rattle.lists.proofs.Numbers.{least_most}
use Rattle.changes.proofs.Promises.{note_grows, note_keeps, purge_next, purge_keeps}
use Rattle.rules.proofs.Acts.{act_note, act_purge, new_made, new_refused}
use Rattle.rules.proofs.Refusals.{step_either}
use Rattle.rules.proofs.LogKept.{log_kept_lem}
use Rattle.rules.proofs.Sound.{kept_sound}
use Rattle.rules.proofs.Lives.{lives}
use Rattle.heard.proofs.Tracked.{told, told_less}

-- the log stands for q with the identity k, which it has given
pub record Stands (k : ℕ) (q : ChangedAttr) (g : ChangedAttrs) : Type 0 where
  pub given : k < g.next
  pub still : reached g q k ≡ true

module _ (i k : ℕ) (since : Bool) where
  -- whoever has not been told has seen less than k
  seen_less : 0 < k → (l : List Subscription) → some (has_id i) l ≡ true → some (told i k since) l ≡ false → some (λ x. leb x.seen (k - 1)) l ≡ true
  seen_less pos [] there free = absurd (clash there (some_nil (has_id i)))
  seen_less pos (x ∷ xs) there free =
      let f = or_neither (told i k since x) (some (told i k since) xs) (sym (some_cons (told i k since) x xs) ∙ free) in
      some_cons (λ y. leb y.seen (k - 1)) x xs
      ∙ split (has_id i x)
      (λ e. or_left _ (le-leb x.seen (k - 1) (omega (arith, leb-false k x.seen (told_less i k since x e f.0).0))))
      (λ e. or_right (leb x.seen (k - 1)) (seen_less pos xs (sym (some_cons (has_id i) x xs ∙ rw e) ∙ there) f.1))

  least_less : 0 < k → (l : List Subscription) → some (has_id i) l ≡ true → some (told i k since) l ≡ false → least_seen l < k
  least_less pos [] there free = absurd (clash there (some_nil (has_id i)))
  least_less pos (x ∷ xs) there free =
      let some_one = sym (some_cons (λ y. leb y.seen (k - 1)) x xs) ∙ seen_less pos (x ∷ xs) there free in
      omega (
        arith,
        leb-true (least_seen (x ∷ xs)) (k - 1)
            (least_most (λ y. y.seen) x.seen (k - 1) xs
            ∙ or_comm (some (λ y. leb y.seen (k - 1)) xs) (leb x.seen (k - 1))
            ∙ some_one),
      )

-- nobody lives in a fresh state, nor where nothing is stored and nothing open
nobody_fresh : (i capacity : ℕ) → id_live i (fresh capacity) ≡ false
nobody_fresh i capacity = some_nil (has_id i)

module _ (i k : ℕ) (q : ChangedAttr) (pos : 0 < k) (since : Bool) (s : State) (well : well_kept s ≡ true) (live : id_live i s ≡ true)
    (free : lives (told i k since) s ≡ 0) (g : Stands k q s.log) where
  -- a later note keeps it, as long as identities grow
  note_stands : s.log.next < 18446744073709551615 → (e c a : ℕ) → Stands k q (noted s.log e c a).log
  note_stands low e c a =
      let fit = (kept_sound s well).log in
      let more = g.given in
      record {
        given = omega (arith, note_grows s.log fit e c a low);
        still = note_keeps s.log fit e c a q k (omega arith) g.still;
      }

  -- a purge goes up to the least that anybody stored has seen
  purge_stands : Stands k q
      (cond (ltb 0 (length s.opens)) s.log
      (cond (ltb 0 (length s.stored)) (purged s.log (least_seen s.stored)).log (cleared s.log).log))
  purge_stands =
      split (ltb 0 (length s.opens))
      (λ u. rw u g)
      (λ u. let there = in_stored (ltb-false 0 (length s.opens) u) in
      rw (u, held there)
      (record {
        given = rw (purge_next s.log (least_seen s.stored)) g.given;
        still = purge_keeps s.log (least_seen s.stored) q k
            (least_less i k since pos s.stored there (none_count (told i k since) s.stored (omega arith))) g.still;
      }))
    where
      in_stored : length s.opens ≤ 0 → some (has_id i) s.stored ≡ true
      in_stored h =
          split (some (has_id i) s.opens)
          (λ e. absurd (omega (arith, some_long (has_id i) s.opens e)))
          (λ e. sym (or-false (some (has_id i) s.stored)) ∙ sym (some_append (has_id i) s.stored s.opens ∙ rw e) ∙ live)

      held : some (has_id i) s.stored ≡ true → ltb 0 (length s.stored) ≡ true
      held h = lt-ltb 0 (length s.stored) (some_long (has_id i) s.stored h)

  -- the log stands for it after every plain call that leaves i live
  pub stands_step : (op : Op) → is_round op ≡ false → id_live i (step op s).state ≡ true → s.log.next + one (is_note op) ≤ 18446744073709551615
      → Stands k q (step op s).state.log
  stands_step (call.new capacity) plain after low =
      split (capacity_fits capacity)
      (λ u. absurd (clash after (ap (λ r. id_live i r.state) (new_made capacity s u) ∙ nobody_fresh i capacity)))
      (λ u. rw (new_refused capacity s u) g)
  stands_step (call.add request events now) plain after low = rw (log_kept_lem (call.add request events now) s refl) g
  stands_step (call.resume id request events) plain after low = rw (log_kept_lem (call.resume id request events) s refl) g
  stands_step (call.note endpoint cluster attr) plain after low =
      step_either (λ r. Stands k q r.state.log) (call.note endpoint cluster attr) s
      (λ _. rw (act_note s endpoint cluster attr) (note_stands (omega arith) endpoint cluster attr)) (λ why _. g)
  stands_step (call.report at) plain after low = rw (log_kept_lem (call.report at) s refl) g
  stands_step (call.complete id o) plain after low = rw (log_kept_lem (call.complete id o) s refl) g
  stands_step (call.remove choice reason) plain after low = rw (log_kept_lem (call.remove choice reason) s refl) g
  stands_step call.clear plain after low = rw (log_kept_lem call.clear s refl) g
  stands_step call.purge plain after low = step_either (λ r. Stands k q r.state.log) call.purge s (λ _. rw (act_purge s) purge_stands) (λ why _. g)
  stands_step (call.attribute id endpoint cluster attr) plain after low = rw (log_kept_lem (call.attribute id endpoint cluster attr) s refl) g
  stands_step (call.send_if_empty id kind) plain after low = rw (log_kept_lem (call.send_if_empty id kind) s refl) g
  stands_step (call.next_instant events kind) plain after low = rw (log_kept_lem (call.next_instant events kind) s refl) g
  stands_step (call.any_reportable now events kind) plain after low = rw (log_kept_lem (call.any_reportable now events kind) s refl) g
  stands_step call.next_keep_alive plain after low = rw (log_kept_lem call.next_keep_alive s refl) g
  stands_step (call.statistics fabric) plain after low = rw (log_kept_lem (call.statistics fabric) s refl) g
  stands_step (call.has_subscription fabric peer) plain after low = rw (log_kept_lem (call.has_subscription fabric peer) s refl) g
  stands_step (call.round at outcomes ids) plain after low = absurd (let z : ◌≡◌ {A = ℕ} 0 1 = cc in omega arith)
