-- The words of demand 3's second half: a round as the customer tells it, reports at one instant, each ended by an outcome, with notes and purges
-- in between. The round call is the one with nothing in between.
-- Assumes nothing.
use Rattle.std.specs.Prelude.{Bool, true, false, not, ◌&&◌, ◌||◌, List, [], ◌∷◌, map, ℕ, ◌+◌, eqb, leb}
use Rattle.instants.specs.declared.Instant.{Instant}
use Rattle.subscription.specs.declared.Settings.{Settings}
use Rattle.subscription.specs.declared.Subscription.{Subscription}
use Rattle.subscription.specs.When.{allowed_of}
use Rattle.rules.specs.States.{State}
use Rattle.rules.specs.Calls.{Op, Answer}
use Rattle.rules.specs.Machine.{step, run}
use Rattle.rules.specs.Rounds.{handed_id}
use Rattle.heard.specs.Hearing.{notes_in}
use Rattle.rules.specs.Calls as call

-- "only notes and purges in between"
pub data Between : Type 0 where
  noting : (endpoint cluster attr : ℕ) → Between
  purging : Between

abbrev pub as_call : Between → Op
as_call (noting endpoint cluster attr) = call.note endpoint cluster attr
as_call purging = call.purge

abbrev pub between : List Between → State → State
between bs s = run (map as_call bs) s

-- a turn: the event number of the report, the outcome that ends it, what happens while it is open, and what before the next
pub record Turn : Type 0 where
  pub events : ℕ
  pub outcome : ℕ
  pub during : List Between
  pub after : List Between

-- "settings fixed": the keep-alive kind and the all flag
abbrev pub with_events : Settings → ℕ → Settings
with_events at events = record { now = at.now; events = events; kind = at.kind; all = at.all }

-- the report of this id ends
abbrev pub turned : ℕ → Turn → State → State
turned id u s = between u.after (step (call.complete id u.outcome) (between u.during s)).state

-- a round: whom it handed out, the state then, and whether it fell silent
pub record Played : Type 0 where
  pub out : List ℕ
  pub state : State
  pub silent : Bool

-- "silent": report answers Nothing
abbrev pub says_nothing : Answer → Bool
says_nothing (call.refused why) = false
says_nothing call.done = false
says_nothing (call.number n) = false
says_nothing (call.heard identity wakes) = false
says_nothing call.nothing = true
says_nothing (call.handed id rx) = false
says_nothing (call.completed stays failed) = false
says_nothing (call.yes_no b) = false
says_nothing (call.instant i) = false
says_nothing (call.keep_alive i) = false
says_nothing (call.stats places of_fabric established) = false
says_nothing (call.rounded hand_outs silent ids) = false

abbrev pub nobody : List ℕ → Bool
nobody [] = true
nobody (id ∷ ids) = false

abbrev pub whom : List ℕ → ℕ
whom [] = 0
whom (id ∷ ids) = id

abbrev pub also : ℕ → Played → Played
also id p = record { out = id ∷ p.out; state = p.state; silent = p.silent }

-- turn after turn, until a report hands nobody out; where the turns end, one more report would tell whether it is silent
unfoldable pub play : Settings → List Turn → State → Played
play at [] s = record { out = []; state = s; silent = says_nothing (step (call.report at) s).answer }
play at (u ∷ us) s =
    elim (nobody (handed_id (step (call.report (with_events at u.events)) s).answer)) [
      | true ↦ record { out = []; state = s; silent = says_nothing (step (call.report (with_events at u.events)) s).answer }
      | false ↦ also (whom (handed_id (step (call.report (with_events at u.events)) s).answer))
          (play at us
          (turned (whom (handed_id (step (call.report (with_events at u.events)) s).answer)) u
          (step (call.report (with_events at u.events)) s).state))
    ]

-- "each report ended as sent, retry, failed or abandoned"
abbrev pub plain_outcome : ℕ → Bool
plain_outcome o = eqb o 0 || (leb 2 o && leb o 4)

-- an outcome that is none of these
abbrev pub odd : Turn → Bool
odd u = not (plain_outcome u.outcome)

-- the notes in between
abbrev pub notes_during : List Turn → ℕ
notes_during [] = 0
notes_during (u ∷ us) = notes_in (map as_call u.during) + notes_in (map as_call u.after) + notes_during us

-- "all intervals at least 1 s", and of sixteen bits; of the maximum nothing more is needed
abbrev pub spaced : Subscription → Bool
spaced x = leb 1 x.shortest && (leb x.shortest 65535 && leb x.longest 65535)

abbrev pub cramped : Subscription → Bool
cramped x = not (spaced x)

-- "whose allowed instant had come"
abbrev pub allowed_by : Instant → Subscription → Bool
allowed_by now x = leb (allowed_of x).ms now.ms

-- the turn of a round call: nothing in between
abbrev pub bare : ℕ → ℕ → Turn
bare events outcome = record { events = events; outcome = outcome; during = []; after = [] }
