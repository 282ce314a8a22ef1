-- Only a note, a purge and a new table touch the log.
-- Assumes nothing.
use mathlib.Core.Path.{◌≡◌, refl}
use mathlib.Core.Bool.{Bool, true, false}
use Prim.Native.Nat.{ℕ}
use native.Mathlib.Omega.{arith}
use Rattle.lists.specs.Search.{some}
use Rattle.lists.proofs.Bools.{split}
use Rattle.rules.specs.States.{State}
use Rattle.rules.specs.Calls as call
use Rattle.rules.specs.Calls.{Settings, Op}
use Rattle.rules.specs.Machine.{added, resumed_to, ready, reported, completed_in, removed, cleared_in, act, step}
use Rattle.rules.proofs.Refusals.{step_either}

-- can the call touch the log; a round is not asked
abbrev pub touches_log : Op → Bool
touches_log (call.new capacity) = true
touches_log (call.add request events now) = false
touches_log (call.resume id request events) = false
touches_log (call.note endpoint cluster attr) = true
touches_log (call.report at) = false
touches_log (call.complete id o) = false
touches_log (call.remove choice reason) = false
touches_log call.clear = false
touches_log call.purge = true
touches_log (call.attribute id endpoint cluster attr) = false
touches_log (call.send_if_empty id kind) = false
touches_log (call.next_instant events kind) = false
touches_log (call.any_reportable now events kind) = false
touches_log call.next_keep_alive = false
touches_log (call.statistics fabric) = false
touches_log (call.has_subscription fabric peer) = false
touches_log (call.round at outcomes ids) = true

reported_log : (at : Settings) (s : State) → (reported at s).state.log ≡ s.log
unfolding reported
reported_log at s = split (some (ready at s) s.stored) (λ e. rw (e, reported)) (λ e. rw (e, reported))

act_log : (op : Op) (s : State) → touches_log op ≡ false → (act op s).state.log ≡ s.log
unfolding act added resumed_to completed_in removed cleared_in
act_log (call.new capacity) s h = absurd (let z : ◌≡◌ {A = ℕ} 0 1 = cc in omega arith)
act_log (call.add request events now) s h = refl
act_log (call.resume id request events) s h = refl
act_log (call.note endpoint cluster attr) s h = absurd (let z : ◌≡◌ {A = ℕ} 0 1 = cc in omega arith)
act_log (call.report at) s h = reported_log at s
act_log (call.complete id o) s h = refl
act_log (call.remove choice reason) s h = refl
act_log call.clear s h = refl
act_log call.purge s h = absurd (let z : ◌≡◌ {A = ℕ} 0 1 = cc in omega arith)
act_log (call.attribute id endpoint cluster attr) s h = refl
act_log (call.send_if_empty id kind) s h = refl
act_log (call.next_instant events kind) s h = refl
act_log (call.any_reportable now events kind) s h = refl
act_log call.next_keep_alive s h = refl
act_log (call.statistics fabric) s h = refl
act_log (call.has_subscription fabric peer) s h = refl
act_log (call.round at outcomes ids) s h = absurd (let z : ◌≡◌ {A = ℕ} 0 1 = cc in omega arith)

pub log_kept_lem : (op : Op) (s : State) → touches_log op ≡ false → (step op s).state.log ≡ s.log
log_kept_lem op s h = step_either (λ r. r.state.log ≡ s.log) op s (λ e. act_log op s h) (λ why e. refl)
