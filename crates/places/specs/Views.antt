-- The table as the code holds it, and the state of the machine that it stands for. The stored ones are the first places, in their order; the
-- open ones are the last places, the newest first. What stands between them means nothing.
-- Assumes nothing.
use Rattle.std.specs.Prelude.{Bool, not, ◌&&◌, List, ◌∷◌, ℕ, ◌+◌, ◌-◌, leb, take, drop, replicate, Option}
use Rattle.refusal.specs.declared.Refusal.{Refusal}
use Rattle.refusal.specs.declared.Refusal.TheVariants.{NotWellKept}
use Rattle.subscription.specs.declared.Subscription.{Subscription}
use Rattle.places.specs.declared.Table.{Table}
use Rattle.lists.specs.Search.{first}
use Rattle.changes.specs.Logs.{fresh_log}
use Rattle.subscription.specs.Life.{blank}
use Rattle.rules.specs.States.{State, well_kept}
use Rattle.rules.specs.Calls.{Op}
use Rattle.rules.specs.Machine.{first_of, objections}

-- the stored ones, in their order
abbrev pub stored_of : Table → List Subscription
stored_of t = take t.stored t.places

-- the open report and the primings, the newest first
abbrev pub opens_of : Table → List Subscription
opens_of t = drop (80 - t.opens) t.places

-- the place of the first open one that p holds of, or the number of places where there is none
abbrev pub first_open : Table → (Subscription → Bool) → ℕ
first_open t p = 80 - t.opens + first p (opens_of t)

-- the state that a table stands for
abbrev pub view : Table → State
view t =
    record { capacity = t.capacity; next = t.next; cancel = t.cancel; stored = stored_of t; opens = opens_of t; log = t.log }

-- "A table has 80 places, all empty in a fresh state"
abbrev pub fresh_table : ℕ → Table
fresh_table capacity = record {
  places = replicate 80 blank;
  log = fresh_log;
  stored = 0;
  opens = 0;
  next = 1;
  capacity = capacity;
  cancel = 0;
}

-- "Well kept": the counts are within the capacity, and the state that the table stands for is well kept
unfoldable pub kept : Table → Bool
kept t = leb (t.stored + t.opens) t.capacity && well_kept (view t)

-- the refusal of a call that takes the table: 7 first, then the machine's objections in their order
unfoldable pub refusal_at : Op → Table → Option Refusal
refusal_at op t = first_of ((not (kept t), NotWellKept) ∷ objections op (view t))
