-- The statements of demand 3 are not empty: histories that meet every hypothesis at once, computed.
-- Assumes nothing.
use mathlib.Core.Path.{◌≡◌, refl}
use mathlib.Core.Bool.{true, false}
use mathlib.Core.List.{List, [], ◌∷◌}
use Prim.Native.Nat.{ℕ}
use native.Mathlib.Omega.{arith}
use lib.Dec.{eqb}
use Rattle.time.specs.declared.KeepAlive.TheVariants.{Default}
use Rattle.subscription.specs.declared.Request.{Request}
use Rattle.subscription.specs.declared.Settings.{Settings}
use Rattle.lists.specs.Search.{some}
use Rattle.instants.specs.Instants.{instant}
use Rattle.rules.specs.States.{fresh}
use Rattle.rules.specs.Calls.{Op}
use Rattle.rules.specs.Machine.{step, run}
use Rattle.rules.specs.Rounds.{calls_of, calls_for, plainly}
use Rattle.heard.specs.Hearing.{unheard_by}
use Rattle.heard.specs.Playing.{Turn, noting, bare, play}
use Rattle.heard.specs.Demand.{noted}
use Rattle.rules.specs.Calls as call
use Rattle.rules.proofs.Computing.{all_rules}
use Rattle.heard.proofs.Unheard.{unheard_stays_yes}
use Rattle.heard.proofs.Rounds.{round_nobody_twice, round_hears}

-- a screen that wants a report every minute, and no more than one a second
abbrev pub request : Request
request = record { peer = 7; shortest = 1; longest = 60; rx = 0; fabric = 1 }

abbrev pub at : ℕ → Settings
at ms = record { now = instant ms; events = 0; kind = Default; all = false }

-- two of them are stored
abbrev pub before : List Op
before =
    call.add request 0 (instant 1000) ∷ call.complete 1 0 ∷ call.add request 0 (instant 1000) ∷ call.complete 2 0 ∷ []

-- a round that tries the first in vain, a note while nothing is open, a call that is refused, and the second is open
abbrev since : List Op
since =
    call.round (at 2000) (2 ∷ []) (9 ∷ []) ∷ call.note 1 1 1 ∷ call.complete 9 0 ∷ call.report (at 4000) ∷ []

pub yes_to_the_second : (step (call.attribute 2 3 6 0) (run since (noted 2 before 3 6 0))).answer ≡ call.yes_no true
unfolding all_rules calls_of calls_for plainly unheard_by
yes_to_the_second = unheard_stays_yes 2 before since 3 6 0 2 3 6 0 refl (omega arith) refl refl refl refl

-- a round with a note in its first report: the first is sent, the second fails, and it is silent
abbrev turns : List Turn
turns = record { events = 0; outcome = 0; during = noting 9 9 9 ∷ []; after = [] } ∷ bare 0 3 ∷ bare 0 0 ∷ []

pub second_handed_out : some (λ y. eqb y 2) (play (at 5000) turns (noted 2 before 3 6 0)).out ≡ true
unfolding all_rules calls_of calls_for plainly unheard_by play
second_handed_out =
    round_hears 2 before [] 3 6 0 2 (at 5000) turns refl (omega arith) refl refl
    (record { early = omega arith; shut = refl; apart = refl }) refl refl refl

pub each_once : (play (at 5000) turns (run before (fresh 2))).silent ≡ true
unfolding all_rules play
each_once = (round_nobody_twice 2 before (at 5000) turns refl (record { early = omega arith; shut = refl; apart = refl }) refl).2 (omega arith)
