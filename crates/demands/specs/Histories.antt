-- Histories of the code: the calls of table and round, one after another, each by the definition that its contract names. Answers are told in
-- the machine's words.
-- Assumes nothing.
use Rattle.std.specs.Prelude.{List, [], ◌∷◌, Result, ⊤}
use Rattle.refusal.specs.declared.Refusal.{Refusal}
use Rattle.places.specs.declared.Table.{Table}
use Rattle.rules.specs.Calls.{Op, Answer}
use Rattle.places.specs.Calls.{Tabled, new_table, add_to, resume_in, note_in, report_in, complete_in, remove_in, clear_in, purge_in, attribute_at, send_at, next_at, any_at, alive_at, load_of, has_at}
use Rattle.places.specs.Agreement.{answer_by, new_leaves, hand_out_answer}
use Rattle.round.specs.Rounds.{round_of}
use Rattle.round.specs.Agreement.{rounding_answer}
use Rattle.rules.specs.Calls as call

-- an answer, and the table after it
pub record Reply : Type 0 where
  pub answer : Answer
  pub table : Table

abbrev pub reply : Answer → Table → Reply
reply answer t = record { answer = answer; table = t }

-- of a call that changes the table, and of a question, which leaves it as it is; f says the answer in the machine's words
abbrev pub changed : {A : Type 0} → (A → Answer) → Tabled A → Reply
changed f r = reply (answer_by f r.answer) r.table

abbrev pub asked : {A : Type 0} → (A → Answer) → Result A Refusal → Table → Reply
asked f a t = reply (answer_by f a) t

-- what the code answers and leaves; a new table stands in place of the one that was there, unless it is refused
unfoldable pub reply_to : Op → Table → Reply
reply_to (call.new capacity) t =
    let made : Tabled ⊤ = new_table capacity in
    reply (answer_by (λ _. call.number made.table.capacity) made.answer) (new_leaves made.answer t made.table)
reply_to (call.add request events now) t = changed call.number (add_to t request events now)
reply_to (call.resume id request events) t = changed call.number (resume_in t id request events)
reply_to (call.note e c a) t = changed (λ x. call.heard x.identity x.wakes) (note_in t e c a)
reply_to (call.report at) t = changed hand_out_answer (report_in t at)
reply_to (call.complete id o) t = changed (λ x. call.completed x.kept x.failed) (complete_in t id o)
reply_to (call.remove choice reason) t = changed call.yes_no (remove_in t choice reason)
reply_to call.clear t = changed call.yes_no (clear_in t)
reply_to call.purge t = changed (λ _. call.done) (purge_in t)
reply_to (call.attribute id e c a) t = asked call.yes_no (attribute_at t id e c a) t
reply_to (call.send_if_empty id kind) t = asked call.yes_no (send_at t id kind) t
reply_to (call.next_instant events kind) t = asked call.instant (next_at t events kind) t
reply_to (call.any_reportable now events kind) t = asked call.yes_no (any_at t now events kind) t
reply_to call.next_keep_alive t = asked call.keep_alive (alive_at t) t
reply_to (call.statistics fabric) t = asked (λ x. call.stats x.places x.fabric x.established) (load_of t fabric) t
reply_to (call.has_subscription fabric peer) t = asked call.yes_no (has_at t fabric peer) t
reply_to (call.round at outcomes ids) t =
    reply (rounding_answer (round_of t at outcomes ids).0.answer (round_of t at outcomes ids).1) (round_of t at outcomes ids).0.table

-- the table after a history
unfoldable pub table_after : List Op → Table → Table
table_after [] t = t
table_after (op ∷ ops) t = table_after ops (reply_to op t).table

-- and what was answered
unfoldable pub replies : List Op → Table → List Answer
replies [] t = []
replies (op ∷ ops) t = (reply_to op t).answer ∷ replies ops (reply_to op t).table
