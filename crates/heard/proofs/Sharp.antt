-- The statements of demand 3 are sharp: for each hypothesis a history in which the others hold and the conclusion fails, computed.
-- Assumes nothing.
use mathlib.Core.Path.{◌≡◌, refl}
use mathlib.Core.Bool.{true, false}
use mathlib.Core.List.{List, [], ◌∷◌}
use Prim.Native.Nat.{ℕ, ◌+◌}
use Rattle.lists.specs.Search.{some}
use Rattle.instants.specs.Instants.{instant}
use Rattle.rules.specs.States.{State, fresh, report_open, id_live}
use Rattle.rules.specs.Calls.{Op}
use Rattle.rules.specs.Machine.{step, run}
use Rattle.rules.specs.Rounds.{calls_of, calls_for, plainly}
use Rattle.heard.specs.Hearing.{unheard, unheard_by}
use Rattle.heard.specs.Playing.{Turn, noting, bare, play, odd, cramped}
use Rattle.heard.specs.Demand.{noted}
use Rattle.rules.specs.Calls as call
use Rattle.rules.proofs.Computing.{all_rules}
use Rattle.heard.proofs.Witness.{at, request, before}

-- ---- the first half

-- one screen
abbrev alone : List Op
alone = call.add request 0 (instant 1000) ∷ call.complete 1 0 ∷ []

-- a report opened after the note was sent: the next one does not tell of it again
abbrev sent : List Op
sent = call.report (at 2000) ∷ call.complete 1 0 ∷ call.note 1 1 1 ∷ call.report (at 4000) ∷ []

pub heard_is_heard : (id_live 1 (run alone (fresh 2)) ≡ true)
    × (unheard 1 sent (noted 2 alone 3 6 0) ≡ false)
    × ((step (call.attribute 1 3 6 0) (run sent (noted 2 alone 3 6 0))).answer ≡ call.yes_no false)
unfolding all_rules calls_of calls_for plainly unheard_by
heard_is_heard = (refl, refl, refl)

-- one that was not live when the note was made is not told of it
abbrev late : List Op
late = call.add request 0 (instant 1000) ∷ call.complete 1 0 ∷ call.note 1 1 1 ∷ call.report (at 4000) ∷ []

pub came_too_late : (id_live 1 (run [] (fresh 2)) ≡ false)
    × ((step (call.attribute 1 3 6 0) (run late (noted 2 [] 3 6 0))).answer ≡ call.yes_no false)
unfolding all_rules
came_too_late = (refl, refl)

-- nor is any of a path that is not under the note
abbrev waits : List Op
waits = call.report (at 2000) ∷ []

pub not_under_it : (unheard 1 waits (noted 2 alone 3 6 0) ≡ true)
    × ((step (call.attribute 1 3 6 1) (run waits (noted 2 alone 3 6 0))).answer ≡ call.yes_no false)
unfolding all_rules calls_of calls_for plainly unheard_by
not_under_it = (refl, refl)

-- ---- the round

-- a note while the report is open, and one more turn
abbrev twice : ℕ → List Turn
twice outcome = record { events = 0; outcome = outcome; during = noting 9 9 9 ∷ []; after = [] } ∷ bare 0 0 ∷ []

-- one screen with these intervals, stored with a report sent at one second
abbrev stored : ℕ → ℕ → State
stored shortest longest =
    run
    (call.add (record { peer = 7; shortest = shortest; longest = longest; rx = 0; fabric = 1 }) 0 (instant 1000) ∷ call.complete 1 0 ∷ [])
    (fresh 2)

-- one millisecond past the time bound: the gate overflows, and the same one is handed out again
pub past_the_bound : (18446744073644016616 + 65535000 ≡ 18446744073709551615 + 1)
    × (report_open (stored 65535 65535) ≡ false)
    × (some cramped (stored 65535 65535).stored ≡ false)
    × (some odd (twice 0) ≡ false)
    × ((play (at 18446744073644016616) (twice 0) (stored 65535 65535)).out ≡ (1 ∷ 1 ∷ []))
unfolding all_rules play
past_the_bound = (refl, refl, refl, refl, refl)

-- at the bound it is not
pub at_the_bound : (play (at 18446744073644016615) (twice 0) (stored 65535 65535)).out ≡ (1 ∷ [])
unfolding all_rules play
at_the_bound = refl

-- an outcome of unsent leaves it free to speak
pub unsent_twice : (some cramped (stored 1 60).stored ≡ false)
    × (some odd (twice 1) ≡ true)
    × ((play (at 61000) (twice 1) (stored 1 60)).out ≡ (1 ∷ 1 ∷ []))
unfolding all_rules play
unsent_twice = (refl, refl, refl)

-- a minimum interval of 0 does
pub interval_of_nothing : (some cramped (stored 0 60).stored ≡ true)
    × (some odd (twice 0) ≡ false)
    × ((play (at 61000) (twice 0) (stored 0 60)).out ≡ (1 ∷ 1 ∷ []))
unfolding all_rules play
interval_of_nothing = (refl, refl, refl)

-- with a report open at its start it neither hands out nor falls silent
abbrev opened : State
opened = run (call.report (at 2000) ∷ []) (noted 2 before 3 6 0)

pub open_at_the_start : (report_open opened ≡ true)
    × ((play (at 2000) (bare 0 0 ∷ bare 0 0 ∷ bare 0 0 ∷ []) opened).out ≡ [])
    × ((play (at 2000) (bare 0 0 ∷ bare 0 0 ∷ bare 0 0 ∷ []) opened).silent ≡ false)
unfolding all_rules play
open_at_the_start = (refl, refl, refl)

-- cut short it has not handed out everyone
pub cut_short : ((play (at 2000) (bare 0 0 ∷ []) (noted 2 before 3 6 0)).out ≡ (1 ∷ []))
    × ((play (at 2000) (bare 0 0 ∷ []) (noted 2 before 3 6 0)).silent ≡ false)
unfolding all_rules play
cut_short = (refl, refl)

-- whoever may not speak yet is not handed out
pub not_allowed_yet : ((play (at 1999) (bare 0 0 ∷ []) (noted 2 before 3 6 0)).out ≡ [])
    × ((play (at 1999) (bare 0 0 ∷ []) (noted 2 before 3 6 0)).silent ≡ true)
unfolding all_rules play
not_allowed_yet = (refl, refl)

-- nor is anybody whom no unheard note concerns
pub nothing_owed : ((play (at 2000) (bare 0 0 ∷ []) (stored 1 60)).out ≡ [])
    × ((play (at 2000) (bare 0 0 ∷ []) (stored 1 60)).silent ≡ true)
unfolding all_rules play
nothing_owed = (refl, refl)
