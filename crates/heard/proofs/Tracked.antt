-- A note that one subscription has not heard of: the log stands for it, and the subscription has seen less. Both last while it is unheard.
-- Assumes nothing.
use Rattle.std.specs.Prelude.{None}
use mathlib.Core.Path.{◌≡◌, sym, ap, ◌∙◌}
use mathlib.Core.Bool.{Bool, true, false, not, cond, and-false, ◌&&◌, ◌||◌}
use mathlib.Core.List.{[]}
use Prim.Native.Nat.{ℕ, ◌≤◌, ◌<◌}
use native.Mathlib.Omega.{arith}
use borrow.Author.Tests.{le-leb, lt-leb, eqb-true, eqb-false, eq-eqb}
use lib.Arith.{lt_of_le-ne}
use lib.Dec.{eqb, leb}
use Rattle.subscription.specs.declared.Settings.{Settings}
use Rattle.subscription.specs.declared.Subscription.{Subscription}
use Rattle.lists.specs.Search.{some}
use Rattle.changes.specs.Logs.{watermark_of}
use Rattle.subscription.specs.Life.{priming, resumed, closed, keeps}
use Rattle.rules.specs.States.{State, has_id, id_live}
use Rattle.rules.specs.Calls.{Op}
use Rattle.rules.specs.Machine.{refusal, step, ready, next_up, opened_in, open_with}
use Rattle.rules.specs.Rounds.{is_round, handed_id}
use Rattle.heard.specs.Hearing.{hands_out, ends_heard, acts}
use Rattle.rules.specs.Calls as call
use Rattle.lists.proofs.Bools.{split, clash, and_both, and_true, or_neither, or_left, or_right}
use Rattle.lists.proofs.Counts.{some_cons}
use Rattle.subscription.proofs.Laws.{priming_id, resumed_id, opened_id, closed_id}
use Rattle.subscription.proofs.Watermarks.{opened_seen, closed_seen, closed_mark, kept_most}
use Rattle.rules.proofs.Clauses.{has_id_is}
use Rattle.rules.proofs.Acts.{act_report, reported_one}
use Rattle.rules.proofs.Refusals.{unrefused_acts}
use Rattle.rules.proofs.Lives.{lives}
use Rattle.rules.proofs.Nobody.{Spares, spared}

-- it is i, and has seen the note k, or has opened with it before a report of i was opened since
abbrev pub told : ℕ → ℕ → Bool → Subscription → Bool
told i k since x = has_id i x && (leb k x.seen || (not since && leb k x.mark))

module _ (i k : ℕ) where
  -- another one is not told
  not_told : (since : Bool) (x : Subscription) → eqb x.id i ≡ false → told i k since x ≡ false
  not_told since x e = rw (has_id_is i x ∙ e)

  -- nor is one that has seen less and began with less
  not_yet : (since : Bool) (x : Subscription) → leb k x.seen ≡ false → (not since && leb k x.mark) ≡ false → told i k since x ≡ false
  not_yet since x a b = rw (a, b) (and-false (has_id i x))

  -- one that is i and not told has seen less, and began with less unless it was opened since
  pub told_less : (since : Bool) (x : Subscription) → has_id i x ≡ true → told i k since x ≡ false
      → (leb k x.seen ≡ false) × ((not since && leb k x.mark) ≡ false)
  told_less since x e h = or_neither (leb k x.seen) (not since && leb k x.mark) (rw e at h)

  -- with the flag up it is no easier to be told
  told_fewer : (since more : Bool) (x : Subscription) → told i k (since || more) x ≡ true → told i k since x ≡ true
  told_fewer true more x h = h
  told_fewer false false x h = h
  told_fewer false true x h =
      let a = and_both (has_id i x) (leb k x.seen || false) h in
      and_true a.0 (or_left (leb k x.mark) (split (leb k x.seen) (λ e. e) (λ e. absurd (clash a.1 (rw e)))))

  other_id : (j : ℕ) (s : State) → id_live i s ≡ true → id_live j s ≡ false → eqb j i ≡ false
  other_id j s live fresh =
      split (eqb j i) (λ e. absurd (clash live (ap (λ n. id_live n s) (sym (eqb-true j i e)) ∙ fresh))) (λ e. e)

  module _ (since : Bool) where
    opened_untold : (at : Settings) (s : State) → refusal (call.report at) s ≡ None → some (ready at s) s.stored ≡ true
        → told i k since (next_up at s) ≡ false → told i k (since || hands_out i (call.report at) s) (opened_in at s (next_up at s)) ≡ false
    opened_untold at s unrefused found free =
        let x = next_up at s in
        let y = opened_in at s x in
        let same = opened_id x (watermark_of s.log) at.events at.now in
        let answer = unrefused_acts (call.report at) s unrefused ∙ act_report at s ∙ reported_one at s found in
        split (eqb x.id i)
        (λ e. let out : hands_out i (call.report at) s ≡ true =
        ap (λ r. some (eqb i) (handed_id r.answer)) answer ∙ some_cons (eqb i) x.id [] ∙ or_left _ (eq-eqb i x.id (sym (eqb-true x.id i e))) in
        let less = (told_less since x (has_id_is i x ∙ e) free).0 in
        not_yet (since || hands_out i (call.report at) s) y (ap (leb k) (opened_seen x (watermark_of s.log) at.events at.now) ∙ less) (rw (or_right since out)))
        (λ e. not_told (since || hands_out i (call.report at) s) y (ap (λ n. eqb n i) same ∙ e))

    within : (o : ℕ) → eqb o 2 ≡ false → o ≤ 2 → o ≤ 1
    within o e h = omega (arith, lt_of_le-ne h (eqb-false o 2 e))

    -- what it is stored with is below k: a retry stores what it had seen, and any other outcome what its report began with
    stored_below : (x : Subscription) (o : ℕ) → leb k x.seen ≡ false → (not since && leb k x.mark) ≡ false → (since && leb o 1) ≡ false
        → o ≤ 2 → leb k (cond (eqb o 2) x.seen x.mark) ≡ false
    stored_below x o a b quiet h =
        split (eqb o 2) (λ e. rw e a)
        (λ e. rw e (split since (λ t. absurd (clash (le-leb o 1 (within o e h)) (rw t at quiet))) (λ t. rw t at b)))

    closed_untold : 0 < k → (x : Subscription) (id o : ℕ) (more : Bool) → has_id id x ≡ true → told i k since x ≡ false → keeps x o ≡ true
        → (since && (eqb id i && leb o 1)) ≡ false → told i k more (closed x o) ≡ false
    closed_untold pos x id o more met free stays quiet =
        let this : x.id ≡ id = eqb-true x.id id (sym (has_id_is id x) ∙ met) in
        split (eqb id i)
        (λ e. let mine = has_id_is i x ∙ ap (λ n. eqb n i) this ∙ e in
        let less = told_less since x mine free in
        not_yet more (closed x o)
        (ap (leb k) (closed_seen x o) ∙ stored_below x o less.0 less.1 (rw e at quiet) (kept_most x o stays))
        (rw (ap (leb k) (closed_mark x o) ∙ lt-leb k 0 pos) (and-false (not more))))
        (λ e. not_told more (closed x o) (ap (λ n. eqb n i) (closed_id x o ∙ this) ∙ e))

-- what an unheard call brings in, hands out or stores again is not told
module _ (i k : ℕ) (pos : 0 < k) (since : Bool) where
  tells_nobody : (op : Op) (s : State) → id_live i s ≡ true → refusal op s ≡ None → (since && (acts (refusal op s) && ends_heard i op)) ≡ false
      → Spares (told i k since) (told i k (since || hands_out i op s)) op s
  tells_nobody (call.new capacity) s live unrefused quiet = tt
  tells_nobody (call.add request events now) s live unrefused quiet = λ fresh. not_told i k (since || hands_out i (call.add request events now) s) (priming request s.next (watermark_of s.log) events now) (ap (λ n. eqb n i) (priming_id request s.next (watermark_of s.log) events now) ∙ other_id i k s.next s live fresh)
  tells_nobody (call.resume id request events) s live unrefused quiet = λ fresh. not_told i k (since || hands_out i (call.resume id request events) s) (resumed request id (watermark_of s.log) events) (ap (λ n. eqb n i) (resumed_id request id (watermark_of s.log) events) ∙ other_id i k id s live fresh)
  tells_nobody (call.note endpoint cluster attr) s live unrefused quiet = tt
  tells_nobody (call.report at) s live unrefused quiet = λ found free. opened_untold i k since at s unrefused found free
  tells_nobody (call.complete id o) s live unrefused quiet = λ met free stays. closed_untold i k since pos (open_with id s) id o (since || hands_out i (call.complete id o) s) met free stays (rw unrefused at quiet)
  tells_nobody (call.remove choice reason) s live unrefused quiet = tt
  tells_nobody call.clear s live unrefused quiet = tt
  tells_nobody call.purge s live unrefused quiet = tt
  tells_nobody (call.attribute id endpoint cluster attr) s live unrefused quiet = tt
  tells_nobody (call.send_if_empty id kind) s live unrefused quiet = tt
  tells_nobody (call.next_instant events kind) s live unrefused quiet = tt
  tells_nobody (call.any_reportable now events kind) s live unrefused quiet = tt
  tells_nobody call.next_keep_alive s live unrefused quiet = tt
  tells_nobody (call.statistics fabric) s live unrefused quiet = tt
  tells_nobody (call.has_subscription fabric peer) s live unrefused quiet = tt
  tells_nobody (call.round at outcomes ids) s live unrefused quiet = tt

  -- so nobody is told by a call that is not heard, refused or not
  pub untold_step : (op : Op) (s : State) → is_round op ≡ false → id_live i s ≡ true → (since && (acts (refusal op s) && ends_heard i op)) ≡ false
      → lives (told i k since) s ≡ 0 → lives (told i k (since || hands_out i op s)) (step op s).state ≡ 0
  untold_step op s plain live quiet h =
      spared (told i k since) (told i k (since || hands_out i op s)) (λ x. told_fewer i k since (hands_out i op s) x) op s plain
      (λ unrefused. tells_nobody op s live unrefused quiet) h
