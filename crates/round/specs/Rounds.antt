-- What a round of the table answers and leaves: the table's reports and completions in turn. Its refusals are the machine's at the state that
-- the table stands for; that the rest is too is proved in `proofs/`.
-- Assumes nothing.
use Rattle.std.specs.Prelude.{Bool, true, false, Option, Some, None, Result, Ok, Err, not, ◌||◌, List, [], ◌∷◌, ℕ, ◌+◌, eqb, length, set}
use Rattle.lists.specs.Search.{some}
use Rattle.refusal.specs.declared.Refusal.{Refusal}
use Rattle.subscription.specs.declared.Settings.{Settings}
use Rattle.places.specs.declared.Table.{Table}
use Rattle.places.specs.declared.Handed.{Handed}
use Rattle.round.specs.declared.Ending.{Ending}
use Rattle.places.specs.Views.{refusal_at}
use Rattle.places.specs.Calls.{Tabled, tabled, refused_in, settled_by, report_in, complete_in}
use Rattle.rules.specs.Machine.{bad_outcome}
use Rattle.rules.specs.Calls as call

-- "outcome above 4 (in a round: anywhere in its slice, reached or not)", "unequal round slices"
abbrev pub bad_slices : List ℕ → ℕ → Bool
bad_slices outcomes places = some bad_outcome outcomes || not (eqb (length outcomes) places)

-- is a report refused
abbrev pub refuses : Result (Option Handed) Refusal → Bool
refuses (Ok x) = false
refuses (Err why) = true

unfoldable pub is_shut : Table → Settings → Bool
is_shut t at = refuses (report_in t at).answer

-- "nothing stored is reportable then": a report would answer Nothing
abbrev pub says_nothing : Result (Option Handed) Refusal → Bool
says_nothing (Ok (Some x)) = false
says_nothing (Ok None) = true
says_nothing (Err why) = false

unfoldable pub is_silent : Table → Settings → Bool
is_silent t at = says_nothing (report_in t at).answer

-- whom a turn handed out, if anybody, and the table once the report has ended
pub record Turn : Type 0 where
  pub handed : Option ℕ
  pub table : Table

abbrev pub turned : Option ℕ → Table → Turn
turned handed table = record { handed = handed; table = table }

-- a report that hands somebody out is ended by its outcome
abbrev pub turn_after : Result (Option Handed) Refusal → Table → ℕ → Turn
turn_after (Ok (Some x)) t o = turned (Some x.id) (complete_in t x.id o).table
turn_after (Ok None) t o = turned None t
turn_after (Err why) t o = turned None t

unfoldable pub turn_of : Table → Settings → ℕ → Turn
turn_of t at o = turn_after (report_in t at).answer (report_in t at).table o

-- how many were handed out, and the table then
pub record Served : Type 0 where
  pub handouts : ℕ
  pub table : Table

abbrev pub stood : ℕ → Table → Served
stood handouts table = record { handouts = handouts; table = table }

-- "taking outcomes in turn .. and writing ids .. until Nothing or the outcomes end": n were handed out so far
unfoldable pub served : Settings → List ℕ → ℕ → List ℕ → Table → Served × List ℕ
served at [] n ids t = (stood n t, ids)
served at (o ∷ os) n ids t =
    let next : Turn = turn_of t at o in
    elim next.handed [
      | Some id ↦ served at os (n + 1) (set ids n id) next.table
      | None ↦ (stood n next.table, ids)
    ]

-- "It answers the number of hand-outs it made, and whether nothing stored is reportable then. Ids beyond that number stay."
abbrev pub made : Settings → Served × List ℕ → Tabled Ending × List ℕ
made at r = (tabled (Ok (record { handouts = r.0.handouts; silent = is_silent r.0.table at })) r.0.table, r.1)

-- "Round .. reports and completes at one instant": the answer, the table and the ids after it
unfoldable pub round_of : Table → Settings → List ℕ → List ℕ → Tabled Ending × List ℕ
round_of t at outcomes ids =
    settled_by (refusal_at (call.round at outcomes ids) t) (λ why. (refused_in t why, ids)) (made at (served at outcomes 0 ids t))
