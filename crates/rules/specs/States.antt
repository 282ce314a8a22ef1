-- The state of the machine: document 01's table, on lists. The records are the code's own structs; where they lie in an array is not said here.
-- Assumes nothing.
use Rattle.std.specs.Prelude.{Bool, not, ◌&&◌, ◌||◌, List, [], ◌++◌, ℕ, ◌+◌, eqb, leb, length}
use Rattle.lists.specs.Search.{some, count, distinct}
use Rattle.changes.specs.declared.ChangedAttrs.{ChangedAttrs}
use Rattle.changes.specs.Logs.{kept, fresh_log}
use Rattle.subscription.specs.declared.Subscription.{Subscription}

-- "A table has 80 places, .. of which a capacity from 1 to 80 may be used. Stored subscriptions have an order. .. Many primings may be open but
-- only one report."
pub record State : Type 0 where
  pub capacity : ℕ
  -- the next id
  pub next : ℕ
  -- the reason with which the open report was cancelled, 0 for none
  pub cancel : ℕ
  -- the stored ones, in their order
  pub stored : List Subscription
  -- the open report and the primings, the newest first
  pub opens : List Subscription
  pub log : ChangedAttrs

-- "all empty in a fresh state"
abbrev pub fresh : ℕ → State
fresh capacity = record { capacity = capacity; next = 1; cancel = 0; stored = []; opens = []; log = fresh_log }

-- "Live means stored, priming or reporting."
abbrev pub live_ones : State → List Subscription
live_ones s = s.stored ++ s.opens

-- "Counted places = stored + open"
unfoldable pub counted : State → ℕ
counted s = length s.stored + length s.opens

-- of an open one: is it the report, and not a priming
abbrev pub is_report : Subscription → Bool
is_report x = x.reporting

abbrev pub is_priming : Subscription → Bool
is_priming x = not x.reporting

-- "a report is open"
unfoldable pub report_open : State → Bool
report_open s = some is_report s.opens

-- "the id to be used is live"
unfoldable pub has_id : ℕ → Subscription → Bool
has_id id x = eqb x.id id

abbrev pub id_live : ℕ → State → Bool
id_live id s = some (has_id id) (live_ones s)

-- "capacity 1..80"
abbrev pub capacity_fits : ℕ → Bool
capacity_fits capacity = leb 1 capacity && leb capacity 80

abbrev pub fabric_zero : Subscription → Bool
fabric_zero x = eqb x.fabric 0

-- "Well kept: capacity 1..80; counted places at most capacity; at most 16 entries; next identity not 0; live ids distinct; live fabrics not 0;
-- at most one open report; a cancel reason only with it."
unfoldable pub well_kept : State → Bool
well_kept s =
    capacity_fits s.capacity
    && (leb (counted s) s.capacity
    && (kept s.log
    && (distinct (λ x. x.id) (live_ones s)
    && (not (some fabric_zero (live_ones s))
    && (leb (count is_report s.opens) 1 && (eqb s.cancel 0 || report_open s))))))
