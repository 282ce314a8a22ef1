-- "Counted places = stored + open, and also equal admissions and resumptions less endings in the history.": how many each call admits, resumes
-- and ends, by what document 01 says of it, and how many a history does.
-- Assumes nothing.
use Rattle.std.specs.Prelude.{Bool, true, false, not, ◌||◌, List, [], ◌∷◌, ℕ, ◌+◌, length, Option, Some, None}
use Rattle.refusal.specs.declared.Refusal.{Refusal}
use Rattle.lists.specs.Search.{one, some, count}
use Rattle.subscription.specs.Life.{keeps}
use Rattle.choices.specs.Choices.{chosen}
use Rattle.rules.specs.States.{State}
use Rattle.rules.specs.Calls as call
use Rattle.rules.specs.Calls.{Settings, Op}
use Rattle.rules.specs.Machine.{refusal, ready, next_up, reported, open_with, cancelled, completed_in, step}

-- ---- one call

-- "Add takes the next id, makes a priming": one admission
unfoldable pub admits : Op → State → ℕ
admits (call.new capacity) s = 0
admits (call.add request events now) s = 1
admits (call.resume id request events) s = 0
admits (call.note endpoint cluster attr) s = 0
admits (call.report at) s = 0
admits (call.complete id o) s = 0
admits (call.remove choice reason) s = 0
admits call.clear s = 0
admits call.purge s = 0
admits (call.attribute id endpoint cluster attr) s = 0
admits (call.send_if_empty id kind) s = 0
admits (call.next_instant events kind) s = 0
admits (call.any_reportable now events kind) s = 0
admits call.next_keep_alive s = 0
admits (call.statistics fabric) s = 0
admits (call.has_subscription fabric peer) s = 0
admits (call.round at outcomes ids) s = 0

-- "Resume .. stores at the end": one resumption
unfoldable pub resumes : Op → State → ℕ
resumes (call.new capacity) s = 0
resumes (call.add request events now) s = 0
resumes (call.resume id request events) s = 1
resumes (call.note endpoint cluster attr) s = 0
resumes (call.report at) s = 0
resumes (call.complete id o) s = 0
resumes (call.remove choice reason) s = 0
resumes call.clear s = 0
resumes call.purge s = 0
resumes (call.attribute id endpoint cluster attr) s = 0
resumes (call.send_if_empty id kind) s = 0
resumes (call.next_instant events kind) s = 0
resumes (call.any_reportable now events kind) s = 0
resumes call.next_keep_alive s = 0
resumes (call.statistics fabric) s = 0
resumes (call.has_subscription fabric peer) s = 0
resumes (call.round at outcomes ids) s = 0

-- "3 failed and 4 abandoned: dropped."; "if never reported, it is dropped instead"; "A cancelled report is dropped under each outcome."
abbrev pub drops : ℕ → ℕ → State → Bool
drops id o s = cancelled (open_with id s) s || not (keeps (open_with id s) o)

-- a round "reports and completes", and each completion may drop
unfoldable pub round_ends : Settings → List ℕ → State → ℕ
round_ends at [] s = 0
round_ends at (o ∷ os) s =
    elim (some (ready at s) s.stored) [
      | true ↦ one (drops (next_up at s).id o (reported at s).state)
          + round_ends at os (completed_in (next_up at s).id o (reported at s).state).state
      | false ↦ 0
    ]

-- a completion ends what it drops, a removal the stored ones that the choice takes, clear all stored ones. A report that was cancelled ends at
-- its completion.
unfoldable pub ends : Op → State → ℕ
ends (call.new capacity) s = 0
ends (call.add request events now) s = 0
ends (call.resume id request events) s = 0
ends (call.note endpoint cluster attr) s = 0
ends (call.report at) s = 0
ends (call.complete id o) s = one (drops id o s)
ends (call.remove choice reason) s = count (chosen choice) s.stored
ends call.clear s = length s.stored
ends call.purge s = 0
ends (call.attribute id endpoint cluster attr) s = 0
ends (call.send_if_empty id kind) s = 0
ends (call.next_instant events kind) s = 0
ends (call.any_reportable now events kind) s = 0
ends call.next_keep_alive s = 0
ends (call.statistics fabric) s = 0
ends (call.has_subscription fabric peer) s = 0
ends (call.round at outcomes ids) s = round_ends at outcomes s

-- ---- a history

-- a refused call "alters nothing"
abbrev pub unless : Option Refusal → ℕ → ℕ
unless None n = n
unless (Some why) n = 0

-- how many all calls of the history make together
unfoldable pub total : (Op → State → ℕ) → List Op → State → ℕ
total f [] s = 0
total f (op ∷ ops) s = unless (refusal op s) (f op s) + total f ops (step op s).state

abbrev pub admissions : List Op → State → ℕ
admissions ops s = total admits ops s

abbrev pub resumptions : List Op → State → ℕ
resumptions ops s = total resumes ops s

abbrev pub endings : List Op → State → ℕ
endings ops s = total ends ops s
