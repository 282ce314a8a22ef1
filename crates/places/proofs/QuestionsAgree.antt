-- The questions to a well-kept table are the machine's at the state that the table stands for.
-- The scans look for, count and compare what the machine does.
-- Assumes nothing.
use Rattle.std.specs.Prelude.{Err}
use mathlib.Core.Path.{◌≡◌, refl, sym, ap, ◌∙◌, fun_ext}
use mathlib.Core.Bool.{true, cond}
use Prim.Native.Nat.{ℕ, ◌-◌}
use native.Mathlib.Omega.{arith}
use lib.Dec.{eqb}
use lib.ListN.{length}
use Rattle.instants.specs.declared.Instant.{Instant}
use Rattle.time.specs.declared.KeepAlive.{KeepAlive}
use Rattle.places.specs.declared.Table.{Table}
use Rattle.lists.specs.Search.{count, least_by}
use Rattle.instants.specs.Instants.{last_instant}
use Rattle.changes.specs.Logs.{newest_of, any_since}
use Rattle.subscription.specs.When.{next_of}
use Rattle.rules.specs.Machine.{outcome, step}
use Rattle.places.specs.Views.{stored_of, view, kept}
use Rattle.places.specs.Tests.{of_fabric, served, next_by}
use Rattle.places.specs.Calls.{asking, any_at, next_at, load_of, has_at}
use Rattle.places.specs.Agreement.{told_says, moment_says, load_says}
use Rattle.rules.specs.Calls as call
use Rattle.changes.proofs.Promises.{newest_any}
use Rattle.rules.proofs.Acts.{act_any, act_next, act_statistics, act_has}
use Rattle.places.proofs.Finding.{stored_there}
use Rattle.places.proofs.Refusing.{kept_counts, counted_fields}
use Rattle.places.proofs.Agreeing.{agreeing}
use Rattle.places.proofs.ReportAgrees.{same_found}

module _ (t : Table) (long : length t.places ≡ 80) (h : kept t ≡ true) where
  pub any_agrees : (now : Instant) (events : ℕ) (kind : KeepAlive)
      → told_says t (any_at t now events kind) ≡ step (call.any_reportable now events kind) (view t)
  unfolding any_at
  any_agrees now events kind =
      agreeing (told_says t) t (call.any_reportable now events kind) Err _ (λ why. refl) h
      (λ _. ap (λ b. outcome (call.yes_no b) (view t)) (same_found t long h (asking now events kind)) ∙ sym (act_any (view t) now events kind))

  same_next : (events : ℕ) (kind : KeepAlive)
      → next_by (asking last_instant events kind) (newest_of t.log) ≡ (λ x. (next_of x (any_since t.log x.seen) events kind).ms)
  unfolding next_by
  same_next events kind = fun_ext (λ x. ap (λ b. (next_of x b events kind).ms) (sym (newest_any t.log x.seen)))

  pub next_agrees : (events : ℕ) (kind : KeepAlive) → moment_says t (next_at t events kind) ≡ step (call.next_instant events kind) (view t)
  unfolding next_at
  next_agrees events kind =
      agreeing (moment_says t) t (call.next_instant events kind) Err _ (λ why. refl) h
      (λ _. ap (λ f. outcome (call.instant (record { ms = least_by f last_instant.ms (stored_of t) })) (view t)) (same_next events kind)
      ∙ sym (act_next (view t) events kind))

  pub has_agrees : (fabric peer : ℕ) → told_says t (has_at t fabric peer) ≡ step (call.has_subscription fabric peer) (view t)
  unfolding has_at served
  has_agrees fabric peer =
      let b = kept_counts t h in
      agreeing (told_says t) t (call.has_subscription fabric peer) Err _ (λ why. refl) h
      (λ _. ap (λ b. outcome (call.yes_no b) (view t)) (stored_there t long (omega arith) (served fabric peer) refl)
      ∙ sym (act_has (view t) fabric peer))

  pub load_agrees : (fabric : ℕ) → load_says t (load_of t fabric) ≡ step (call.statistics fabric) (view t)
  unfolding load_of of_fabric
  load_agrees fabric =
      agreeing (load_says t) t (call.statistics fabric) Err _ (λ why. refl) h
      (λ _. ap (λ n. outcome (call.stats n (cond (eqb fabric 0) 0 (count (of_fabric fabric) (stored_of t))) (t.next - 1)) (view t))
      (sym (counted_fields t long h))
      ∙ sym (act_statistics (view t) fabric))
