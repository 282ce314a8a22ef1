-- Demand 3 of the code, from a fresh table: what crate heard states of the machine, of the definitions that the contracts of table and round name.
-- Assumes nothing.
use Rattle.std.specs.Prelude.{◌≡◌, true, false, ◌&&◌, List, map, ℕ, ◌+◌, ◌≤◌, ◌<◌, eqb, length}
use Rattle.std.proofs.lemmas.List.Edits.{sets}
use Rattle.subscription.specs.declared.Settings.{Settings}
use Rattle.places.specs.declared.Table.{Table}
use Rattle.lists.specs.Search.{some, distinct}
use Rattle.entries.specs.Paths.{entry, covers}
use Rattle.rules.specs.States.{capacity_fits, has_id, id_live}
use Rattle.rules.specs.Calls.{Op}
use Rattle.rules.specs.Numbers.{code_of}
use Rattle.heard.specs.Hearing.{notes_in, unheard}
use Rattle.heard.specs.Playing.{Turn, bare, odd, notes_during, allowed_by}
use Rattle.heard.specs.Demand.{RoundBegins}
use Rattle.places.specs.Views.{view, stored_of, opens_of, fresh_table}
use Rattle.demands.specs.Histories.{reply_to, table_after}
use Rattle.demands.specs.Playing.{play}
use Rattle.rules.specs.Calls as call

-- the table after a history from a fresh one, and after a note then
abbrev pub come : ℕ → List Op → Table
come capacity before = table_after before (fresh_table capacity)

abbrev pub noted : ℕ → List Op → ℕ → ℕ → ℕ → Table
noted capacity before endpoint cluster attr = (reply_to (call.note endpoint cluster attr) (come capacity before)).table

-- "once a note is made while a subscription is live, every question to its open report about an attribute under that note is answered yes"
abbrev pub UnheardStaysYes : Type 0
UnheardStaysYes =
    (capacity : ℕ) (before since : List Op) (endpoint cluster attr i e c a : ℕ)
    → capacity_fits capacity ≡ true
    → notes_in before + 1 + notes_in since < 18446744073709551615
    → id_live i (view (come capacity before)) ≡ true
    → unheard i since (view (noted capacity before endpoint cluster attr)) ≡ true
    → covers (entry endpoint cluster attr 0) (entry e c a 0) ≡ true
    → some (has_id i) (opens_of (table_after since (noted capacity before endpoint cluster attr))) ≡ true
    → (reply_to (call.attribute i e c a) (table_after since (noted capacity before endpoint cluster attr))).answer ≡ call.yes_no true

-- "It hands out nobody twice, falls silent after at most as many hand-outs as were stored"
abbrev pub NobodyTwice : Type 0
NobodyTwice =
    (capacity : ℕ) (before : List Op) (at : Settings) (turns : List Turn)
    → capacity_fits capacity ≡ true
    → RoundBegins at (view (come capacity before))
    → some odd turns ≡ false
    → (distinct (λ id. id) (play at turns (come capacity before)).out ≡ true)
    × (length (play at turns (come capacity before)).out ≤ length (stored_of (come capacity before)))
    × (length (stored_of (come capacity before)) ≤ length turns → (play at turns (come capacity before)).silent ≡ true)

-- "and has by then handed out everyone stored whom an earlier unheard note concerns and whose allowed instant had come"
abbrev pub RoundHears : Type 0
RoundHears =
    (capacity : ℕ) (before since : List Op) (endpoint cluster attr i : ℕ) (at : Settings) (turns : List Turn)
    → capacity_fits capacity ≡ true
    → notes_in before + 1 + notes_in since + notes_during turns < 18446744073709551615
    → id_live i (view (come capacity before)) ≡ true
    → unheard i since (view (noted capacity before endpoint cluster attr)) ≡ true
    → RoundBegins at (view (table_after since (noted capacity before endpoint cluster attr)))
    → some odd turns ≡ false
    → some (λ x. has_id i x && allowed_by at.now x) (stored_of (table_after since (noted capacity before endpoint cluster attr))) ≡ true
    → (play at turns (table_after since (noted capacity before endpoint cluster attr))).silent ≡ true
    → some (λ y. eqb y i) (play at turns (table_after since (noted capacity before endpoint cluster attr))).out ≡ true

-- the round call, where it is not refused, answers how many the round handed out and whether it fell silent, and writes whom
abbrev pub RoundCallPlays : Type 0
RoundCallPlays =
    (capacity : ℕ) (before : List Op) (at : Settings) (outcomes ids : List ℕ)
    → capacity_fits capacity ≡ true
    → code_of (reply_to (call.round at outcomes ids) (come capacity before)).answer ≡ 0
    → (reply_to (call.round at outcomes ids) (come capacity before)).answer
    ≡ call.rounded (length (play at (map (bare at.events) outcomes) (come capacity before)).out)
    (play at (map (bare at.events) outcomes) (come capacity before)).silent
    (sets ids 0 (play at (map (bare at.events) outcomes) (come capacity before)).out)
