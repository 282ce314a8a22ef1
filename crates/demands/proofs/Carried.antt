-- Two more laws of the machine, of the code's answers: any reportable and the next instant, and the counted places.
-- Assumes nothing.
use mathlib.Core.Path.{◌≡◌, sym, ap, ◌∙◌}
use mathlib.Core.Bool.{true, false}
use mathlib.Core.List.{List, []}
use mathlib.Core.Logic.{◌⊎◌, inl, inr, ⊎_elim}
use Prim.Native.Nat.{ℕ, ◌+◌, ◌-◌, ◌<◌}
use native.Mathlib.Omega.{arith}
use lib.Dec.{leb}
use lib.ListN.{length, get_or}
use Rattle.instants.specs.declared.Instant.{Instant}
use Rattle.time.specs.declared.KeepAlive.{KeepAlive}
use Rattle.places.specs.declared.Table.{Table}
use Rattle.lists.specs.Search.{some}
use Rattle.rules.specs.States.{fresh, capacity_fits}
use Rattle.rules.specs.Calls.{Op}
use Rattle.rules.specs.Machine.{first_of, step, run}
use Rattle.rules.specs.Histories.{is_new}
use Rattle.rules.specs.Counts.{admissions, resumptions, endings}
use Rattle.rules.specs.Numbers.{values_of}
use Rattle.places.specs.Views.{stored_of, fresh_table}
use Rattle.demands.specs.Histories.{reply_to, table_after}
use Rattle.rules.specs.Calls as call
use Rattle.rules.proofs.Clauses.{statistics_objects, refusal_kept, first_none}
use Rattle.rules.proofs.Acts.{act_statistics}
use Rattle.rules.proofs.Refusals.{unrefused_acts}
use Rattle.rules.proofs.Kept.{always_well_kept}
use Rattle.rules.proofs.Counts.{places_from_fresh}
use Rattle.rules.proofs.Instants.{any_answers_next}
use Rattle.places.proofs.Tidying.{whole_lasts}
use Rattle.demands.proofs.Histories.{reply_agrees, fresh_whole, history_lasts, history_well, begun, code_states}

module _ (capacity : ℕ) (able : capacity_fits capacity ≡ true) (ops : List Op) where
  abbrev pub come : Table
  come = table_after ops (fresh_table capacity)

  -- what the code answers is the machine's answer
  answered : (op : Op) → (reply_to op come).answer ≡ (step op (run ops (fresh capacity))).answer
  answered op =
      ap (λ o. o.answer)
      (reply_agrees come (history_lasts whole_lasts fresh_whole ops (fresh_table capacity) (fresh_whole capacity))
      (history_well ops (fresh_table capacity) (fresh_whole capacity) (begun capacity able [])) op)
      ∙ ap (λ s. (step op s).answer) (code_states capacity able ops)

  -- "Any reportable equals "next instant ≤ now" when now < 2^64 − 1 or something is stored"
  pub code_any_is_next : (now : Instant) (events : ℕ) (kind : KeepAlive) → (now.ms < 18446744073709551615) ⊎ (0 < length (stored_of come))
      → (reply_to (call.any_reportable now events kind) come).answer
      ≡ call.yes_no (leb (get_or (values_of (reply_to (call.next_instant events kind) come).answer) 0 0) now.ms)
  code_any_is_next now events kind h =
      let held = ap (λ s. length s.stored) (code_states capacity able ops) in
      let w = any_answers_next capacity ops now events kind able (⊎_elim inl (λ e. inr (omega arith)) h) in
      answered (call.any_reportable now events kind)
      ∙ w.1
      ∙ sym (ap (λ a. call.yes_no (leb (get_or (values_of a) 0 0) now.ms)) (answered (call.next_instant events kind) ∙ w.0))

  -- "Counted places .. also equal admissions and resumptions less endings in the history.": the first value of statistics
  pub code_places : (fabric : ℕ) → some is_new ops ≡ false
      → get_or (values_of (reply_to (call.statistics fabric) come).answer) 0 0
      ≡ admissions ops (fresh capacity) + resumptions ops (fresh capacity) - endings ops (fresh capacity)
  code_places fabric h =
      let s = run ops (fresh capacity) in
      let served = refusal_kept (call.statistics fabric) s (always_well_kept capacity ops able) ∙ ap first_of (statistics_objects s fabric) ∙ first_none in
      ap (λ a. get_or (values_of a) 0 0)
      (answered (call.statistics fabric) ∙ ap (λ r. r.answer) (unrefused_acts (call.statistics fabric) s served ∙ act_statistics s fabric))
      ∙ places_from_fresh capacity ops h
