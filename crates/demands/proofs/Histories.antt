-- The code goes as the machine goes: on every history of a whole, well-kept table each answer is the machine's, and the table stands for the
-- machine's state. Every table of a history from a fresh one is tidy, so that the state tells the table.
-- Assumes nothing.
use mathlib.Core.Path.{◌≡◌, sym, ap, ◌∙◌}
use mathlib.Core.Bool.{true, false}
use mathlib.Core.List.{List, [], ◌∷◌}
use Prim.Native.Nat.{ℕ}
use Rattle.places.specs.declared.Table.{Table}
use Rattle.lists.specs.Search.{some}
use Rattle.rules.specs.States.{capacity_fits, fresh, well_kept}
use Rattle.rules.specs.Calls.{Op}
use Rattle.rules.specs.Machine.{outcome, step, run, answers}
use Rattle.rules.specs.Histories.{refused_by}
use Rattle.places.specs.Views.{view, kept, fresh_table}
use Rattle.places.specs.Tidiness.{Whole, Lasting}
use Rattle.demands.specs.Histories.{reply_to, table_after, replies}
use Rattle.rules.specs.Calls as call
use Rattle.rules.proofs.Acts.{run_none, run_more, answers_none, answers_more}
use Rattle.rules.proofs.Kept.{step_well_kept, run_well_kept, fresh_well_kept, never_seven}
use Rattle.places.proofs.NewAgrees.{new_agrees, new_lasts, fresh_view}
use Rattle.places.proofs.AdmissionAgrees.{add_agrees, resume_agrees, note_agrees}
use Rattle.places.proofs.ReportAgrees.{report_agrees}
use Rattle.places.proofs.CompletionAgrees.{complete_agrees, attribute_agrees, send_agrees}
use Rattle.places.proofs.RemovalAgrees.{remove_agrees}
use Rattle.places.proofs.ClearingAgrees.{clear_agrees}
use Rattle.places.proofs.LeastAgrees.{purge_agrees, alive_agrees}
use Rattle.places.proofs.QuestionsAgree.{any_agrees, next_agrees, load_agrees, has_agrees}
use Rattle.places.proofs.Tidying.{whole_lasts, tidy_lasts, fresh_tidy}
use Rattle.places.proofs.Lasting.{note_lasts, report_lasts, add_lasts, resume_lasts, complete_lasts, remove_lasts, clear_lasts, purge_lasts}
use Rattle.places.proofs.TidyViews.{whole_kept, equal_views}
use Rattle.round.proofs.RoundAgrees.{round_agrees}
use Rattle.round.proofs.Lasting.{round_lasts}

-- one call
module _ (t : Table) (w : Whole t) (h : well_kept (view t) ≡ true) where
  well_kept_lem : kept t ≡ true
  well_kept_lem = whole_kept t w ∙ h

  pub reply_agrees : (op : Op) → outcome (reply_to op t).answer (view (reply_to op t).table) ≡ step op (view t)
  unfolding reply_to
  reply_agrees (call.new capacity) = new_agrees t capacity
  reply_agrees (call.add request events now) = add_agrees t w.long well_kept_lem request events now
  reply_agrees (call.resume id request events) = resume_agrees t w.long well_kept_lem id request events
  reply_agrees (call.note e c a) = note_agrees t w.long well_kept_lem e c a
  reply_agrees (call.report at) = report_agrees t w.long well_kept_lem at
  reply_agrees (call.complete id o) = complete_agrees t w.long well_kept_lem id o
  reply_agrees (call.remove choice reason) = remove_agrees t w.long well_kept_lem choice reason
  reply_agrees call.clear = clear_agrees t well_kept_lem
  reply_agrees call.purge = purge_agrees t w.long well_kept_lem
  reply_agrees (call.attribute id e c a) = attribute_agrees t w.long well_kept_lem id e c a
  reply_agrees (call.send_if_empty id kind) = send_agrees t w.long well_kept_lem id kind
  reply_agrees (call.next_instant events kind) = next_agrees t w.long well_kept_lem events kind
  reply_agrees (call.any_reportable now events kind) = any_agrees t w.long well_kept_lem now events kind
  reply_agrees call.next_keep_alive = alive_agrees t w.long well_kept_lem
  reply_agrees (call.statistics fabric) = load_agrees t w.long well_kept_lem fabric
  reply_agrees (call.has_subscription fabric peer) = has_agrees t w.long well_kept_lem fabric peer
  reply_agrees (call.round at outcomes ids) = round_agrees t w.long well_kept_lem at outcomes ids

-- what lasts through every move of the table, and holds of a fresh one, lasts through every history
module _ {P : Table → Type 0} (lasting : Lasting P) (begins : (capacity : ℕ) → P (fresh_table capacity)) where
  pub reply_lasts : (op : Op) (t : Table) → P t → P (reply_to op t).table
  unfolding reply_to
  reply_lasts (call.new capacity) t h = new_lasts P begins t capacity h
  reply_lasts (call.add request events now) t h = add_lasts lasting t h request events now
  reply_lasts (call.resume id request events) t h = resume_lasts lasting t h id request events
  reply_lasts (call.note e c a) t h = note_lasts lasting t h e c a
  reply_lasts (call.report at) t h = report_lasts lasting t h at
  reply_lasts (call.complete id o) t h = complete_lasts lasting t h id o
  reply_lasts (call.remove choice reason) t h = remove_lasts lasting t h choice reason
  reply_lasts call.clear t h = clear_lasts lasting t h
  reply_lasts call.purge t h = purge_lasts lasting t h
  reply_lasts (call.attribute id e c a) t h = h
  reply_lasts (call.send_if_empty id kind) t h = h
  reply_lasts (call.next_instant events kind) t h = h
  reply_lasts (call.any_reportable now events kind) t h = h
  reply_lasts call.next_keep_alive t h = h
  reply_lasts (call.statistics fabric) t h = h
  reply_lasts (call.has_subscription fabric peer) t h = h
  reply_lasts (call.round at outcomes ids) t h = round_lasts lasting t at outcomes ids h

  pub history_lasts : (ops : List Op) (t : Table) → P t → P (table_after ops t)
  unfolding table_after
  history_lasts [] t h = h
  history_lasts (op ∷ ops) t h = history_lasts ops (reply_to op t).table (reply_lasts op t h)

pub fresh_whole : (capacity : ℕ) → Whole (fresh_table capacity)
fresh_whole capacity = (fresh_tidy capacity).whole

-- the state after a call is the machine's
pub reply_state : (op : Op) (t : Table) → Whole t → well_kept (view t) ≡ true → view (reply_to op t).table ≡ (step op (view t)).state
reply_state op t w h = ap (λ o. o.state) (reply_agrees t w h op)

pub reply_well : (op : Op) (t : Table) → Whole t → well_kept (view t) ≡ true → well_kept (view (reply_to op t).table) ≡ true
reply_well op t w h = ap well_kept (reply_state op t w h) ∙ step_well_kept op (view t) h

pub history_states : (ops : List Op) (t : Table) → Whole t → well_kept (view t) ≡ true → view (table_after ops t) ≡ run ops (view t)
unfolding table_after
history_states [] t w h = sym (run_none (view t))
history_states (op ∷ ops) t w h =
    history_states ops (reply_to op t).table (reply_lasts whole_lasts fresh_whole op t w) (reply_well op t w h)
    ∙ ap (run ops) (reply_state op t w h)
    ∙ sym (run_more op ops (view t))

pub history_well : (ops : List Op) (t : Table) → Whole t → well_kept (view t) ≡ true → well_kept (view (table_after ops t)) ≡ true
history_well ops t w h = ap well_kept (history_states ops t w h) ∙ run_well_kept ops (view t) h

pub history_answers : (ops : List Op) (t : Table) → Whole t → well_kept (view t) ≡ true → replies ops t ≡ answers ops (view t)
unfolding replies
history_answers [] t w h = sym (answers_none (view t))
history_answers (op ∷ ops) t w h =
    ap (λ l. (reply_to op t).answer ∷ l)
    (history_answers ops (reply_to op t).table (reply_lasts whole_lasts fresh_whole op t w) (reply_well op t w h)
    ∙ ap (answers ops) (reply_state op t w h))
    ∙ ap (λ o. o.answer ∷ answers ops (step op (view t)).state) (reply_agrees t w h op)
    ∙ sym (answers_more op ops (view t))

-- ---- from a fresh table of document 01

module _ (capacity : ℕ) (able : capacity_fits capacity ≡ true) (ops : List Op) where
  pub begun : well_kept (view (fresh_table capacity)) ≡ true
  begun = ap well_kept (fresh_view capacity) ∙ fresh_well_kept capacity able

  -- the code's table stands for the machine's state
  pub code_states : view (table_after ops (fresh_table capacity)) ≡ run ops (fresh capacity)
  code_states = history_states ops (fresh_table capacity) (fresh_whole capacity) begun ∙ ap (run ops) (fresh_view capacity)

  -- and every answer is the machine's
  pub code_answers : replies ops (fresh_table capacity) ≡ answers ops (fresh capacity)
  code_answers = history_answers ops (fresh_table capacity) (fresh_whole capacity) begun ∙ ap (answers ops) (fresh_view capacity)

  -- number 7 never comes
  pub code_never_seven : some (refused_by 7) (replies ops (fresh_table capacity)) ≡ false
  code_never_seven = ap (some (refused_by 7)) code_answers ∙ never_seven capacity ops able

-- "From a fresh table equal views are equal tables.": whatever the two histories and capacities were
pub state_tells_table : (c d : ℕ) (ops others : List Op)
    → view (table_after ops (fresh_table c)) ≡ view (table_after others (fresh_table d)) → table_after ops (fresh_table c) ≡ table_after others (fresh_table d)
state_tells_table c d ops others e =
    equal_views _ _ (history_lasts tidy_lasts fresh_tidy ops (fresh_table c) (fresh_tidy c))
    (history_lasts tidy_lasts fresh_tidy others (fresh_table d) (fresh_tidy d)) e
