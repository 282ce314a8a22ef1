-- A round of the code as the customer tells it: reports at one instant, each ended by an outcome, with notes and purges in between, by the
-- definitions that the contracts name. The machine's is in crate heard.
-- Assumes nothing.
use Rattle.std.specs.Prelude.{Bool, true, false, List, [], ◌∷◌, map, ℕ}
use Rattle.subscription.specs.declared.Settings.{Settings}
use Rattle.places.specs.declared.Table.{Table}
use Rattle.rules.specs.Rounds.{handed_id}
use Rattle.heard.specs.Playing.{as_call, Turn, with_events, says_nothing, nobody, whom}
use Rattle.demands.specs.Histories.{Reply, reply_to, table_after}
use Rattle.rules.specs.Calls as call

-- whom it handed out, the table then, and whether it fell silent
pub record Played : Type 0 where
  pub out : List ℕ
  pub table : Table
  pub silent : Bool

abbrev pub also : ℕ → Played → Played
also id p = record { out = id ∷ p.out; table = p.table; silent = p.silent }

-- the report of this id ends, with what happens while it is open and after it
abbrev pub turned : ℕ → Turn → Table → Table
turned id u t = table_after (map as_call u.after) (reply_to (call.complete id u.outcome) (table_after (map as_call u.during) t)).table

-- the report of a turn
abbrev pub reported : Settings → Turn → Table → Reply
reported at u t = reply_to (call.report (with_events at u.events)) t

-- turn after turn, until a report hands nobody out; where the turns end, one more report would tell whether it is silent
unfoldable pub play : Settings → List Turn → Table → Played
play at [] t = record { out = []; table = t; silent = says_nothing (reply_to (call.report at) t).answer }
play at (u ∷ us) t =
    elim (nobody (handed_id (reported at u t).answer)) [
      | true ↦ record { out = []; table = t; silent = says_nothing (reported at u t).answer }
      | false ↦ also (whom (handed_id (reported at u t).answer))
          (play at us (turned (whom (handed_id (reported at u t).answer)) u (reported at u t).table))
    ]
