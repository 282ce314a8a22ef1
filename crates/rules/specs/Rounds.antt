-- A round as the calls that it stands for, and a history with its rounds told so: "reports and completes at one instant, taking outcomes in turn .. until Nothing or the outcomes end".
-- Assumes nothing.
use Rattle.std.specs.Prelude.{Bool, true, false, List, [], ◌∷◌, ◌++◌, ℕ, Option, Some, None}
use Rattle.refusal.specs.declared.Refusal.{Refusal}
use Rattle.lists.specs.Search.{some}
use Rattle.rules.specs.States.{State}
use Rattle.rules.specs.Calls as call
use Rattle.rules.specs.Calls.{Settings, Op, Answer}
use Rattle.rules.specs.Machine.{refusal, ready, next_up, reported, completed_in, step}

-- a report and its completion for each outcome, while somebody is reportable
unfoldable pub calls_of : Settings → List ℕ → State → List Op
calls_of at [] s = []
calls_of at (o ∷ os) s =
    elim (some (ready at s) s.stored) [
      | true ↦ call.report at ∷ call.complete (next_up at s).id o ∷ calls_of at os (completed_in (next_up at s).id o (reported at s).state).state
      | false ↦ []
    ]

-- who was handed out, in order
abbrev pub handed_id : Answer → List ℕ
handed_id (call.refused why) = []
handed_id call.done = []
handed_id (call.number k) = []
handed_id (call.heard identity wakes) = []
handed_id call.nothing = []
handed_id (call.handed id rx) = id ∷ []
handed_id (call.completed stays failed) = []
handed_id (call.yes_no b) = []
handed_id (call.instant i) = []
handed_id (call.keep_alive i) = []
handed_id (call.stats places of_fabric established) = []
handed_id (call.rounded hand_outs silent ids) = []

unfoldable pub handed_ids : List Answer → List ℕ
handed_ids [] = []
handed_ids (a ∷ rest) = handed_id a ++ handed_ids rest

-- by whether a call is a round
abbrev pub by_round : {A : Type 0} → Op → (Settings → List ℕ → List ℕ → A) → A → A
by_round (call.new capacity) f a = a
by_round (call.add request events now) f a = a
by_round (call.resume id request events) f a = a
by_round (call.note endpoint cluster attr) f a = a
by_round (call.report at) f a = a
by_round (call.complete id o) f a = a
by_round (call.remove choice reason) f a = a
by_round call.clear f a = a
by_round call.purge f a = a
by_round (call.attribute id endpoint cluster attr) f a = a
by_round (call.send_if_empty id kind) f a = a
by_round (call.next_instant events kind) f a = a
by_round (call.any_reportable now events kind) f a = a
by_round call.next_keep_alive f a = a
by_round (call.statistics fabric) f a = a
by_round (call.has_subscription fabric peer) f a = a
by_round (call.round at outcomes ids) f a = f at outcomes ids

abbrev pub is_round : Op → Bool
is_round op = by_round op (λ at outcomes ids. true) false

-- a round that is refused is no call at all
abbrev pub round_calls : Option Refusal → Settings → List ℕ → State → List Op
round_calls None at outcomes s = calls_of at outcomes s
round_calls (Some why) at outcomes s = []

-- the calls that a call stands for
unfoldable pub calls_for : Op → State → List Op
calls_for op s = by_round op (λ at outcomes ids. round_calls (refusal (call.round at outcomes ids) s) at outcomes s) (op ∷ [])

-- a history with its rounds told as the reports and completions that they are
unfoldable pub plainly : List Op → State → List Op
plainly [] s = []
plainly (op ∷ ops) s = calls_for op s ++ plainly ops (step op s).state
