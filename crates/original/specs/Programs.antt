-- Programs in place of the code, and what demand 2 asks of one: the answers of the original on every history of the domain. Below stand the
-- wrong programs that document 01 names, "What a reader may rely on".
-- Assumes nothing.
use Rattle.std.specs.Prelude.{◌≡◌, Bool, true, false, cond, List, [], ◌∷◌, ℕ}
use Rattle.refusal.specs.declared.Refusal.{Refusal}
use Rattle.rules.specs.States.{State, capacity_fits}
use Rattle.rules.specs.Calls as call
use Rattle.rules.specs.Calls.{Op, Answer}
use Rattle.rules.specs.Machine.{step}
use Rattle.rules.specs.Rounds.{is_round}
use Rattle.original.specs.Table.{new_table}
use Rattle.original.specs.Calls.{answered}
use Rattle.original.specs.Demand.{InDomain}

-- a program over states of its own: what it answers, and its state then
abbrev pub Program : Type 0 → Type 0
Program S = Op → S → Answer × S

module _ {S : Type 0} where
  -- its answers on a history
  unfoldable pub told : Program S → List Op → S → List Answer
  told p [] s = []
  told p (op ∷ ops) s = (p op s).0 ∷ told p ops (p op s).1

  -- its state after it
  unfoldable pub reached : Program S → List Op → S → S
  reached p [] s = s
  reached p (op ∷ ops) s = reached p ops (p op s).1

  -- demand 2 of its answers, from the state with which it begins at a capacity
  abbrev pub Meets : (ℕ → S) → Program S → Type 0
  Meets begin p =
      (capacity : ℕ) → capacity_fits capacity ≡ true → (ops : List Op) → InDomain capacity ops
      → told p ops (begin capacity) ≡ answered ops (new_table capacity)

-- document 01's machine
abbrev pub the_machine : Program State
the_machine op s = ((step op s).answer, (step op s).state)

-- "refusing everything", whatever the refusal is
abbrev pub refuses_everything : Refusal → Program State
refuses_everything why op s = (call.refused why, s)

-- "one constant answer", whatever it is, with a state that moves as it should
abbrev pub one_answer : Answer → Program State
one_answer a op s = (a, (step op s).state)

-- another count in the answer of a round
abbrev pub recount : ℕ → Answer → Answer
recount n (call.refused why) = call.refused why
recount n call.done = call.done
recount n (call.number k) = call.number k
recount n (call.heard identity wakes) = call.heard identity wakes
recount n call.nothing = call.nothing
recount n (call.handed id rx) = call.handed id rx
recount n (call.completed stays failed) = call.completed stays failed
recount n (call.yes_no b) = call.yes_no b
recount n (call.instant i) = call.instant i
recount n (call.keep_alive i) = call.keep_alive i
recount n (call.stats places of_fabric established) = call.stats places of_fabric established
recount n (call.rounded hand_outs silent ids) = call.rounded n silent ids

-- "a made-up round count", whatever it is
abbrev pub made_up_count : ℕ → Program State
made_up_count n op s = (recount n (step op s).answer, (step op s).state)

-- "doing nothing": every answer is right for a table that nothing was done to
abbrev pub does_nothing : Program State
does_nothing op s = ((step op s).answer, s)

-- "working in the first round only": after the first round, rounds hand out nobody; the flag says that there was one
abbrev pub first_round_only : Program (State × Bool)
first_round_only op (s, before) =
    cond (is_round op)
    (cond before (recount 0 (step op s).answer, (s, true)) ((step op s).answer, ((step op s).state, true)))
    ((step op s).answer, ((step op s).state, before))

-- is the call a question about an attribute
abbrev pub is_attribute : Op → Bool
is_attribute (call.new capacity) = false
is_attribute (call.add request events now) = false
is_attribute (call.resume id request events) = false
is_attribute (call.note endpoint cluster attr) = false
is_attribute (call.report at) = false
is_attribute (call.complete id outcome) = false
is_attribute (call.remove choice reason) = false
is_attribute call.clear = false
is_attribute call.purge = false
is_attribute (call.attribute id endpoint cluster attr) = true
is_attribute (call.send_if_empty id kind) = false
is_attribute (call.next_instant events kind) = false
is_attribute (call.any_reportable now events kind) = false
is_attribute call.next_keep_alive = false
is_attribute (call.statistics fabric) = false
is_attribute (call.has_subscription fabric peer) = false
is_attribute (call.round at outcomes ids) = false

-- "Yes to every attribute", whoever is asked
abbrev pub yes_to_every_attribute : Program State
yes_to_every_attribute op s = (cond (is_attribute op) (call.yes_no true) (step op s).answer, (step op s).state)
