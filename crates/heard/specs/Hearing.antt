-- The words of demand 3's first half: the notes of a history, and whether a subscription has heard of a note in it.
-- Assumes nothing.
use Rattle.std.specs.Prelude.{Bool, true, false, not, ◌&&◌, ◌||◌, List, [], ◌∷◌, ℕ, eqb, leb, Option, Some, None}
use Rattle.refusal.specs.declared.Refusal.{Refusal}
use Rattle.lists.specs.Search.{some, count}
use Rattle.rules.specs.States.{State, id_live}
use Rattle.rules.specs.Calls.{Op}
use Rattle.rules.specs.Machine.{refusal, step}
use Rattle.rules.specs.Rounds.{handed_id, plainly}
use Rattle.rules.specs.Calls as call

-- is the call a note
abbrev pub is_note : Op → Bool
is_note (call.new capacity) = false
is_note (call.add request events now) = false
is_note (call.resume id request events) = false
is_note (call.note endpoint cluster attr) = true
is_note (call.report at) = false
is_note (call.complete id o) = false
is_note (call.remove choice reason) = false
is_note call.clear = false
is_note call.purge = false
is_note (call.attribute id endpoint cluster attr) = false
is_note (call.send_if_empty id kind) = false
is_note (call.next_instant events kind) = false
is_note (call.any_reportable now events kind) = false
is_note call.next_keep_alive = false
is_note (call.statistics fabric) = false
is_note (call.has_subscription fabric peer) = false
is_note (call.round at outcomes ids) = false

-- the notes of a history
abbrev pub notes_in : List Op → ℕ
notes_in ops = count is_note ops

-- does the call hand i out
abbrev pub hands_out : ℕ → Op → State → Bool
hands_out i op s = some (eqb i) (handed_id (step op s).answer)

-- is it the completion of i "as sent or unsent"
abbrev pub ends_heard : ℕ → Op → Bool
ends_heard i (call.new capacity) = false
ends_heard i (call.add request events now) = false
ends_heard i (call.resume id request events) = false
ends_heard i (call.note endpoint cluster attr) = false
ends_heard i (call.report at) = false
ends_heard i (call.complete id o) = eqb id i && leb o 1
ends_heard i (call.remove choice reason) = false
ends_heard i call.clear = false
ends_heard i call.purge = false
ends_heard i (call.attribute id endpoint cluster attr) = false
ends_heard i (call.send_if_empty id kind) = false
ends_heard i (call.next_instant events kind) = false
ends_heard i (call.any_reportable now events kind) = false
ends_heard i call.next_keep_alive = false
ends_heard i (call.statistics fabric) = false
ends_heard i (call.has_subscription fabric peer) = false
ends_heard i (call.round at outcomes ids) = false

-- a call that is refused ends nothing
abbrev pub acts : Option Refusal → Bool
acts None = true
acts (Some why) = false

-- i stays live through these calls, and none of them ends as sent or unsent a report of it that was opened in them; the flag says that one
-- was opened so far. An id is given again only where it is not live, so that i is one and the same subscription throughout
unfoldable pub unheard_by : ℕ → Bool → List Op → State → Bool
unheard_by i since [] s = id_live i s
unheard_by i since (op ∷ ops) s =
    id_live i s
    && (not (since && (acts (refusal op s) && ends_heard i op)) && unheard_by i (since || hands_out i op s) ops (step op s).state)

-- i has not heard of what was noted before this history: "until a report opened after the note ends as sent or unsent", or it ends. Rounds are
-- told as the reports and completions that they are
abbrev pub unheard : ℕ → List Op → State → Bool
unheard i ops s = unheard_by i false (plainly ops s) s
