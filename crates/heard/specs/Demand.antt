-- Demand 3, as it is proved: the statements alone, each hypothesis under the customer's words. The words in which they are told are in Hearing
-- and Playing.
-- Assumes nothing.
use Rattle.std.specs.Prelude.{◌≡◌, true, false, ◌&&◌, List, map, ℕ, ◌+◌, ◌≤◌, ◌<◌, eqb, length, None}
use Rattle.std.proofs.lemmas.List.Edits.{sets}
use Rattle.subscription.specs.declared.Settings.{Settings}
use Rattle.lists.specs.Search.{some, distinct}
use Rattle.entries.specs.Paths.{entry, covers}
use Rattle.rules.specs.States.{State, fresh, capacity_fits, report_open, has_id, id_live}
use Rattle.rules.specs.Calls.{Op}
use Rattle.rules.specs.Machine.{refusal, outcome, step, run}
use Rattle.heard.specs.Hearing.{notes_in, unheard}
use Rattle.heard.specs.Playing.{Turn, play, bare, odd, notes_during, cramped, allowed_by}
use Rattle.rules.specs.Calls as call

-- the state after a history from a fresh table, and a note then
abbrev pub noted : ℕ → List Op → ℕ → ℕ → ℕ → State
noted capacity before endpoint cluster attr = (step (call.note endpoint cluster attr) (run before (fresh capacity))).state

-- "No change goes unheard."
abbrev pub UnheardStaysYes : Type 0
UnheardStaysYes =
    (capacity : ℕ) (before since : List Op) (endpoint cluster attr i e c a : ℕ)
    -- "From a fresh table"
    → capacity_fits capacity ≡ true
    -- "with fewer than 2^64 − 1 notes"
    → notes_in before + 1 + notes_in since < 18446744073709551615
    -- "once a note is made while a subscription is live"
    → id_live i (run before (fresh capacity)) ≡ true
    -- "until a report opened after the note ends as sent or unsent", or it ends
    → unheard i since (noted capacity before endpoint cluster attr) ≡ true
    -- "about an attribute under that note"
    → covers (entry endpoint cluster attr 0) (entry e c a 0) ≡ true
    -- "every question to its open report", or priming
    → some (has_id i) (run since (noted capacity before endpoint cluster attr)).opens ≡ true
    -- "is answered yes"
    → (step (call.attribute i e c a) (run since (noted capacity before endpoint cluster attr))).answer ≡ call.yes_no true

-- ---- the round

-- where a round begins
pub record RoundBegins (at : Settings) (s : State) : Type 0 where
  -- "at one instant at least 65,535 s before the last"
  pub early : at.now.ms + 65535000 ≤ 18446744073709551615
  -- "no report open at its start"
  pub shut : report_open s ≡ false
  -- "all intervals at least 1 s", of those that are stored
  pub apart : some cramped s.stored ≡ false

-- "It hands out nobody twice, falls silent after at most as many hand-outs as were stored"; and with as many turns it is not cut short
abbrev pub NobodyTwice : Type 0
NobodyTwice =
    (capacity : ℕ) (before : List Op) (at : Settings) (turns : List Turn)
    → capacity_fits capacity ≡ true
    → RoundBegins at (run before (fresh capacity))
    -- "each report ended as sent, retry, failed or abandoned"
    → some odd turns ≡ false
    → (distinct (λ id. id) (play at turns (run before (fresh capacity))).out ≡ true)
    × (length (play at turns (run before (fresh capacity))).out ≤ length (run before (fresh capacity)).stored)
    × (length (run before (fresh capacity)).stored ≤ length turns → (play at turns (run before (fresh capacity))).silent ≡ true)

-- "has by then handed out everyone stored whom an earlier unheard note concerns and whose allowed instant had come"
abbrev pub RoundHears : Type 0
RoundHears =
    (capacity : ℕ) (before since : List Op) (endpoint cluster attr i : ℕ) (at : Settings) (turns : List Turn)
    → capacity_fits capacity ≡ true
    → notes_in before + 1 + notes_in since + notes_during turns < 18446744073709551615
    -- "an earlier unheard note concerns"
    → id_live i (run before (fresh capacity)) ≡ true
    → unheard i since (noted capacity before endpoint cluster attr) ≡ true
    → RoundBegins at (run since (noted capacity before endpoint cluster attr))
    → some odd turns ≡ false
    -- "stored .. and whose allowed instant had come"
    → some (λ x. has_id i x && allowed_by at.now x) (run since (noted capacity before endpoint cluster attr)).stored ≡ true
    -- "falls silent"
    → (play at turns (run since (noted capacity before endpoint cluster attr))).silent ≡ true
    -- "has by then handed out"
    → some (λ y. eqb y i) (play at turns (run since (noted capacity before endpoint cluster attr))).out ≡ true

-- the round call is the round with nothing in between: it answers how many it handed out and whether it fell silent, and writes whom
abbrev pub RoundCallPlays : Type 0
RoundCallPlays =
    (at : Settings) (outcomes ids : List ℕ) (s : State)
    → refusal (call.round at outcomes ids) s ≡ None
    → step (call.round at outcomes ids) s
    ≡ outcome
    (call.rounded (length (play at (map (bare at.events) outcomes) s).out) (play at (map (bare at.events) outcomes) s).silent
    (sets ids 0 (play at (map (bare at.events) outcomes) s).out))
    (play at (map (bare at.events) outcomes) s).state
