-- What a line does to a table is what document 01's rules do with it at the state that the table stands for, by the laws of agreement of
-- the table's calls; and a whole, well-kept table stays so.
-- Assumes nothing.
use Rattle.std.specs.Prelude.{Option, Some, None, Result, Ok, Err, ⊤}
use Rattle.lists.specs.Search.{one}
use Rattle.refusal.specs.declared.Refusal.{Refusal}
use mathlib.Core.Path.{◌≡◌, refl, sym, ap, ◌∙◌}
use mathlib.Core.Bool.{true}
use Prim.Native.Nat.{ℕ}
use Rattle.instants.specs.Instants.{instant}
use Rattle.time.specs.Intervals.{keep_alive_of}
use Rattle.rules.specs.States.{State, well_kept}
use Rattle.rules.specs.Calls.{Op, Answer}
use Rattle.rules.specs.Machine.{step}
use Rattle.rules.specs.Calls as call
use Rattle.rules.proofs.Kept.{step_well_kept}
use Rattle.places.specs.declared.Table.{Table}
use Rattle.places.specs.declared.Handed.{Handed}
use Rattle.places.specs.Views.{view, kept}
use Rattle.places.specs.Tidiness.{Whole}
use Rattle.places.specs.Calls.{Tabled, new_table, add_to, note_in, report_in, complete_in, attribute_at, next_at}
use Rattle.places.specs.Agreement.{answer_by, says_by, asked_by, hand_out_answer, new_leaves}
use Rattle.places.proofs.NewAgrees.{new_agrees, new_lasts}
use Rattle.places.proofs.AdmissionAgrees.{add_agrees, note_agrees}
use Rattle.places.proofs.ReportAgrees.{report_agrees}
use Rattle.places.proofs.CompletionAgrees.{complete_agrees, attribute_agrees}
use Rattle.places.proofs.QuestionsAgree.{next_agrees}
use Rattle.places.proofs.Lasting.{add_lasts, note_lasts, report_lasts, complete_lasts}
use Rattle.places.proofs.Tidying.{whole_lasts, fresh_tidy}
use Rattle.places.proofs.TidyViews.{whole_kept}
use Rattle.lines.specs.declared.Line.{Line}
use Rattle.lines.specs.declared.Line.TheVariants.{New, Add, Note, Report, Done, Attr, Wake, Bad}
use Rattle.answering.specs.Replies.{told, coded, valued, valued_in, handed_value}
use Rattle.answering.specs.Answers.{request_of, settings_of, renewed_by, renewed_in, added_in, noted_in, reported_in, done_in, answer_in}
use Rattle.answering.specs.Rules.{call_of, reply_of, Said, said_by, line_by, line_step, spoken}

-- an answer's code and value are those of the machine's, where what was answered comes to the same value
module _ {A : Type 0} (f : A → ℕ) (g : A → Answer) (same : (x : A) → told (f x) ≡ reply_of (g x)) where
  replied : (a : Result A Refusal) → coded (valued f a) ≡ reply_of (answer_by g a)
  replied (Ok x) = same x
  replied (Err why) = refl

  -- of a call that changes the table, and of a question
  said : (r : Tabled A) → spoken (valued_in f r) ≡ said_by (says_by g r)
  said r = ap (λ p. record { reply = p; state = view r.table }) (replied r.answer)

  asked : (t : Table) (a : Result A Refusal) → record { reply = coded (valued f a); state = view t } ≡ said_by (asked_by g t a)
  asked t a = ap (λ p. record { reply = p; state = view t }) (replied a)

handed_same : (x : Option Handed) → told (handed_value x) ≡ reply_of (hand_out_answer x)
handed_same (Some x) = refl
handed_same None = refl

-- a new table
renewed_agrees : (t : Table) (capacity : ℕ) → spoken (renewed_in t capacity) ≡ said_by (step (call.new capacity) (view t))
unfolding renewed_in
renewed_agrees t capacity = go (new_table capacity).answer (new_table capacity).table ∙ ap said_by (new_agrees t capacity)
  where
    go : (a : Result ⊤ Refusal) (u : Table)
        → spoken (renewed_by t a u) ≡ record { reply = reply_of (answer_by (λ _. call.number u.capacity) a); state = view (new_leaves a t u) }
    go (Ok done) u = refl
    go (Err why) u = refl

renewed_whole : (t : Table) (capacity : ℕ) → Whole t → Whole (renewed_in t capacity).table
unfolding renewed_in
renewed_whole t capacity h =
    rw (go (new_table capacity).answer (new_table capacity).table) (new_lasts Whole (λ c. (fresh_tidy c).whole) t capacity h)
  where
    go : (a : Result ⊤ Refusal) (u : Table) → (renewed_by t a u).table ≡ new_leaves a t u
    go (Ok done) u = refl
    go (Err why) u = refl

-- what a line does is what the rules do
pub answer_agrees : (t : Table) → Whole t → kept t ≡ true → (l : Line) → spoken (answer_in t l) ≡ line_step l (view t)
unfolding answer_in added_in noted_in reported_in done_in line_step call_of
answer_agrees t whole h (New capacity) = renewed_agrees t capacity
answer_agrees t whole h (Add now fabric peer min max events rx) =
    let request = request_of fabric peer min max rx in
    said (λ id. id) call.number (λ x. refl) (add_to t request events (instant now)) ∙ ap said_by (add_agrees t whole.long h request events (instant now))
answer_agrees t whole h (Note e c a) =
    said (λ x. x.identity) (λ x. call.heard x.identity x.wakes) (λ x. refl) (note_in t e c a) ∙ ap said_by (note_agrees t whole.long h e c a)
answer_agrees t whole h (Report now events icd all) =
    let at = settings_of now events icd all in
    said handed_value hand_out_answer handed_same (report_in t at) ∙ ap said_by (report_agrees t whole.long h at)
answer_agrees t whole h (Done id o) =
    said (λ x. one x.kept) (λ x. call.completed x.kept x.failed) (λ x. refl) (complete_in t id o) ∙ ap said_by (complete_agrees t whole.long h id o)
answer_agrees t whole h (Attr id e c a) =
    asked one call.yes_no (λ b. refl) t (attribute_at t id e c a) ∙ ap said_by (attribute_agrees t whole.long h id e c a)
answer_agrees t whole h (Wake events icd) =
    asked (λ at. at.ms) call.instant (λ at. refl) t (next_at t events (keep_alive_of icd)) ∙ ap said_by (next_agrees t whole.long h events (keep_alive_of icd))
answer_agrees t whole h Bad = refl

pub answer_whole : (t : Table) → Whole t → (l : Line) → Whole (answer_in t l).table
unfolding answer_in added_in noted_in reported_in done_in
answer_whole t whole (New capacity) = renewed_whole t capacity whole
answer_whole t whole (Add now fabric peer min max events rx) = add_lasts whole_lasts t whole (request_of fabric peer min max rx) events (instant now)
answer_whole t whole (Note e c a) = note_lasts whole_lasts t whole e c a
answer_whole t whole (Report now events icd all) = report_lasts whole_lasts t whole (settings_of now events icd all)
answer_whole t whole (Done id o) = complete_lasts whole_lasts t whole id o
answer_whole t whole (Attr id e c a) = whole
answer_whole t whole (Wake events icd) = whole
answer_whole t whole Bad = whole

line_kept : (op : Option Op) (s : State) → well_kept s ≡ true → well_kept (line_by op s).state ≡ true
line_kept None s h = h
line_kept (Some op) s h = step_well_kept op s h

pub answer_kept : (t : Table) → Whole t → kept t ≡ true → (l : Line) → kept (answer_in t l).table ≡ true
unfolding line_step
answer_kept t whole h l =
    whole_kept (answer_in t l).table (answer_whole t whole l)
    ∙ ap (λ (s : Said). well_kept s.state) (answer_agrees t whole h l)
    ∙ line_kept (call_of l) (view t) (sym (whole_kept t whole) ∙ h)
