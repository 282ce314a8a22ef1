-- The words in which the machine's theorems speak of refusals and histories.
-- Assumes nothing.
use Rattle.std.specs.Prelude.{◌≡◌, Bool, false, not, List, map, ℕ, eqb, ltb, Option, Some, None}
use Rattle.refusal.specs.declared.Refusal.{Refusal}
use Rattle.refusal.specs.Numbers.{number_of}
use Rattle.lists.specs.Search.{some}
use Rattle.instants.specs.Instants.{last_instant}
use Rattle.subscription.specs.declared.Subscription.{Subscription}
use Rattle.rules.specs.States.{State}
use Rattle.rules.specs.Calls.{Op, Answer}
use Rattle.rules.specs.Numbers.{refusal_of}
use Rattle.rules.specs.Machine.{takes_state, run, answers}

-- the call is refused with this number
abbrev pub numbered : ℕ → Option Refusal → Bool
numbered n None = false
numbered n (Some why) = eqb (number_of why) n

-- the answer is the refusal with this number
abbrev pub refused_by : ℕ → Answer → Bool
refused_by n a = numbered n (refusal_of a)

-- "An instant is a u64 of milliseconds.": no stored one waits for a retry past the last of them
abbrev pub late_retry : Subscription → Bool
late_retry x = ltb last_instant.ms x.retry.ms

abbrev pub retries_fit : State → Bool
retries_fit s = not (some late_retry s.stored)

-- the only call that takes no state
abbrev pub is_new : Op → Bool
is_new op = not (takes_state op)

-- calls with the answers beside them
abbrev pub Diary : Type 0
Diary = List (Op × Answer)

-- from the state each call is answered as the diary has it
abbrev pub GoesBy : Diary → State → Type 0
GoesBy d s = answers (map (λ l. l.0) d) s ≡ map (λ l. l.1) d

-- the state after the calls
abbrev pub after : Diary → State → State
after d s = run (map (λ l. l.0) d) s
