-- How the table changes, place by place: a stored one goes, one is stored, one opens, an open one goes. A place that is vacated is blank.
-- Assumes nothing.
use Rattle.std.specs.Prelude.{Bool, true, false, List, ◌++◌, ℕ, zero, suc, ◌+◌, ◌-◌, drop, get_or, set, replicate}
use Rattle.changes.specs.declared.ChangedAttrs.{ChangedAttrs}
use Rattle.subscription.specs.declared.Subscription.{Subscription}
use Rattle.places.specs.declared.Table.{Table}
use Rattle.subscription.specs.Life.{blank}

-- the table with other places and counts
abbrev pub with_places : Table → List Subscription → ℕ → ℕ → Table
with_places t places stored opens = record {
  places = places;
  log = t.log;
  stored = stored;
  opens = opens;
  next = t.next;
  capacity = t.capacity;
  cancel = t.cancel;
}

-- with another next id
abbrev pub with_next_id : Table → ℕ → Table
with_next_id t next = record {
  places = t.places;
  log = t.log;
  stored = t.stored;
  opens = t.opens;
  next = next;
  capacity = t.capacity;
  cancel = t.cancel;
}

-- with another cancel reason
abbrev pub with_reason : Table → ℕ → Table
with_reason t cancel = record {
  places = t.places;
  log = t.log;
  stored = t.stored;
  opens = t.opens;
  next = t.next;
  capacity = t.capacity;
  cancel = cancel;
}

-- with another log
abbrev pub with_log : Table → ChangedAttrs → Table
with_log t log = record {
  places = t.places;
  log = log;
  stored = t.stored;
  opens = t.opens;
  next = t.next;
  capacity = t.capacity;
  cancel = t.cancel;
}

-- of places whose first n are held: the last of them fills place i, and its own is blank
abbrev pub swapped : List Subscription → ℕ → ℕ → List Subscription
swapped places n i = set (set places i (get_or places (n - 1) blank)) (n - 1) blank

-- the stored one at i is taken out
unfoldable pub taken_out : Table → ℕ → Table
taken_out t i = with_places t (swapped t.places t.stored i) (t.stored - 1) t.opens

-- one more is stored, at the end
unfoldable pub stored_last : Table → Subscription → Table
stored_last t x = with_places t (set t.places t.stored x) (t.stored + 1) t.opens

-- one more is open
unfoldable pub opened_up : Table → Subscription → Table
opened_up t x = with_places t (set t.places (79 - t.opens) x) t.stored (t.opens + 1)

-- the open one at place j is taken out: the newest fills its place
unfoldable pub closed_at : Table → ℕ → Table
closed_at t j =
    with_places t (set (set t.places j (get_or t.places (80 - t.opens) blank)) (80 - t.opens) blank) t.stored (t.opens - 1)

-- swap removal of each of the first n that p holds of, from i on; the first number is how many are still to be looked at
pub record Held : Type 0 where
  pub places : List Subscription
  pub count : ℕ

unfoldable pub swept_from : (Subscription → Bool) → ℕ → ℕ → ℕ → List Subscription → Held
swept_from p zero i n places = record { places = places; count = n }
swept_from p (suc f) i n places =
    elim (p (get_or places i blank)) [
      | true ↦ swept_from p f i (n - 1) (swapped places n i)
      | false ↦ swept_from p f (i + 1) n places
    ]

-- every stored one that p holds of is taken out
unfoldable pub swept_out : (Subscription → Bool) → Table → Table
swept_out p t =
    with_places t (swept_from p t.stored 0 t.stored t.places).places (swept_from p t.stored 0 t.stored t.places).count
    t.opens

-- every stored one is taken out
unfoldable pub emptied : Table → Table
emptied t = with_places t (replicate t.stored blank ++ drop t.stored t.places) 0 t.opens
