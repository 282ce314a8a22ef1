-- Document 01's number and values of each answer: 0 and what is told where the call acted, the refusal's number and no value where it was refused.
-- Assumes nothing.
use Rattle.std.specs.Prelude.{List, [], ◌∷◌, ℕ, Option, Some, None}
use Rattle.lists.specs.Search.{one}
use Rattle.refusal.specs.declared.Refusal.{Refusal}
use Rattle.refusal.specs.Numbers.{number_of}
use Rattle.rules.specs.Calls as call
use Rattle.rules.specs.Calls.{Answer}

-- the number of a refusal, and 0 for none
abbrev pub number_in : Option Refusal → ℕ
number_in None = 0
number_in (Some why) = number_of why

-- why the call was refused, if it was
abbrev pub refusal_of : Answer → Option Refusal
refusal_of (call.refused why) = Some why
refusal_of call.done = None
refusal_of (call.number k) = None
refusal_of (call.heard identity wakes) = None
refusal_of call.nothing = None
refusal_of (call.handed id rx) = None
refusal_of (call.completed stays failed) = None
refusal_of (call.yes_no b) = None
refusal_of (call.instant i) = None
refusal_of (call.keep_alive i) = None
refusal_of (call.stats places of_fabric established) = None
refusal_of (call.rounded hand_outs silent ids) = None

-- the answer's number
abbrev pub code_of : Answer → ℕ
code_of a = number_in (refusal_of a)

-- what it tells, 1 for yes; of "Nothing" and of no instant there is nothing to tell
abbrev pub values_of : Answer → List ℕ
values_of (call.refused why) = []
values_of call.done = []
values_of (call.number k) = k ∷ []
values_of (call.heard identity wakes) = identity ∷ one wakes ∷ []
values_of call.nothing = []
values_of (call.handed id rx) = id ∷ rx ∷ []
values_of (call.completed stays failed) = one stays ∷ one failed ∷ []
values_of (call.yes_no b) = one b ∷ []
values_of (call.instant i) = i.ms ∷ []
values_of (call.keep_alive None) = []
values_of (call.keep_alive (Some i)) = i.ms ∷ []
values_of (call.stats places of_fabric established) = places ∷ of_fabric ∷ established ∷ []
values_of (call.rounded hand_outs silent ids) = hand_outs ∷ one silent ∷ ids
