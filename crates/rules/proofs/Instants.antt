-- "Any reportable equals "next instant ≤ now" when now < 2^64 − 1 or something is stored; prove that too."
-- The next instant is a least over the stored ones and the last instant: `Least` compares. That a retry is an instant, which the code has by its
-- widths, holds on every history, since it is one when it is made.
-- Assumes nothing.
use Rattle.std.specs.Prelude.{None}
use mathlib.Core.Path.{◌≡◌, ap, ◌∙◌}
use mathlib.Core.Bool.{true, false, not}
use mathlib.Core.List.{List, []}
use mathlib.Core.Logic.{◌⊎◌, inl, inr}
use Prim.Native.Nat.{ℕ, ◌≤◌, ◌<◌}
use native.Mathlib.Omega.{arith}
use borrow.Author.Tests.{not-true, le-ltb}
use lib.Dec.{leb}
use lib.ListN.{length}
use Rattle.lists.proofs.Counts.{count_nil, none_count}
use Rattle.instants.specs.declared.Instant.{Instant}
use Rattle.time.specs.declared.KeepAlive.{KeepAlive}
use Rattle.instants.specs.Instants.{last_instant}
use Rattle.changes.specs.Logs.{watermark_of}
use Rattle.subscription.specs.declared.Subscription.{Subscription}
use Rattle.subscription.specs.Life.{priming, resumed, closed}
use Rattle.subscription.proofs.Laws.{priming_retry, resumed_retry, opened_retry, closed_retry_lem}
use Rattle.rules.specs.States.{State, fresh, capacity_fits}
use Rattle.rules.specs.Calls as call
use Rattle.rules.specs.Calls.{Op}
use Rattle.rules.specs.Histories.{late_retry, retries_fit}
use Rattle.rules.specs.Machine.{next_up, open_with, next_instant_in, any_reportable_in, first_of, objections, refusal, act, step, run}
use Rattle.rules.proofs.Clauses.{refusal_kept, first_none, instant_objects, any_objects}
use Rattle.rules.proofs.Refusals.{unrefused_acts}
use Rattle.rules.proofs.Kept.{always_well_kept}
use Rattle.rules.proofs.Least.{before_last, with_stored}
use Rattle.rules.proofs.Lives.{lives}
use Rattle.rules.proofs.Nobody.{Spares, nobody_ever}

-- The next instant has come exactly where something is reportable, before the last instant, and at it too if something is stored.
pub any_is_next : (now : Instant) (events : ℕ) (kind : KeepAlive) (s : State) → retries_fit s ≡ true
    → (now.ms < 18446744073709551615) ⊎ (0 < length s.stored)
    → any_reportable_in now events kind s ≡ leb (next_instant_in events kind s).ms now.ms
any_is_next now events kind s fit (inl h) = before_last now events kind s h
any_is_next now events kind s fit (inr h) = with_stored now events kind s h (not-true _ fit)

fitting : (x : Subscription) → x.retry.ms ≤ last_instant.ms → late_retry x ≡ false
fitting x h = le-ltb last_instant.ms x.retry.ms h

-- nobody is admitted, handed out or stored again with a retry past the last instant
none_late : (op : Op) (s : State) → Spares late_retry late_retry op s
none_late (call.new capacity) s = tt
none_late (call.add request events now) s = λ _. fitting (priming request s.next _ events now) (omega (arith, priming_retry request s.next (watermark_of s.log) events now))
none_late (call.resume id request events) s = λ _. fitting (resumed request id _ events) (omega (arith, resumed_retry request id (watermark_of s.log) events))
none_late (call.note endpoint cluster attr) s = tt
none_late (call.report at) s = λ _ h. rw (opened_retry (next_up at s) (watermark_of s.log) at.events at.now) h
none_late (call.complete id o) s = λ _ _ _. fitting (closed (open_with id s) o) (closed_retry_lem (open_with id s) o)
none_late (call.remove choice reason) s = tt
none_late call.clear s = tt
none_late call.purge s = tt
none_late (call.attribute id endpoint cluster attr) s = tt
none_late (call.send_if_empty id kind) s = tt
none_late (call.next_instant events kind) s = tt
none_late (call.any_reportable now events kind) s = tt
none_late call.next_keep_alive s = tt
none_late (call.statistics fabric) s = tt
none_late (call.has_subscription fabric peer) s = tt
none_late (call.round at outcomes ids) s = tt

-- Where each retry is an instant, it stays so over every history.
pub retries_last : (ops : List Op) (s : State) → lives late_retry s ≡ 0 → lives late_retry (run ops s) ≡ 0
retries_last = nobody_ever late_retry none_late

-- On every history from a fresh table each retry is an instant.
pub retries_fit_lem : (c : ℕ) (ops : List Op) → retries_fit (run ops (fresh c)) ≡ true
retries_fit_lem c ops =
    let None = retries_last ops (fresh c) (omega (arith, count_nil late_retry)) in
    ap not (none_count late_retry (run ops (fresh c)).stored (omega arith))

-- So there the above holds with no more to ask.
pub any_is_next_ever : (c : ℕ) (ops : List Op) (now : Instant) (events : ℕ) (kind : KeepAlive)
    → (now.ms < 18446744073709551615) ⊎ (0 < length (run ops (fresh c)).stored)
    → any_reportable_in now events kind (run ops (fresh c)) ≡ leb (next_instant_in events kind (run ops (fresh c))).ms now.ms
any_is_next_ever c ops now events kind h = any_is_next now events kind (run ops (fresh c)) (retries_fit_lem c ops) h

-- the two calls answer so
pub any_answers_next : (c : ℕ) (ops : List Op) (now : Instant) (events : ℕ) (kind : KeepAlive) → capacity_fits c ≡ true
    → (now.ms < 18446744073709551615) ⊎ (0 < length (run ops (fresh c)).stored)
    → let s = run ops (fresh c) in let next = next_instant_in events kind s in
    ((step (call.next_instant events kind) s).answer ≡ call.instant next)
    × ((step (call.any_reportable now events kind) s).answer ≡ call.yes_no (leb next.ms now.ms))
unfolding act
any_answers_next c ops now events kind able h =
    let s = run ops (fresh c) in
    let well = always_well_kept c ops able in
    let free : (op : Op) → objections op s ≡ [] → refusal op s ≡ None = λ op e. refusal_kept op s well ∙ ap first_of e ∙ first_none in (
      ap (λ r. r.answer) (unrefused_acts (call.next_instant events kind) s (free (call.next_instant events kind) (instant_objects s events kind))),
      ap (λ r. r.answer) (unrefused_acts (call.any_reportable now events kind) s (free (call.any_reportable now events kind) (any_objects s now events kind)))
          ∙ ap call.yes_no (any_is_next_ever c ops now events kind h),
    )
