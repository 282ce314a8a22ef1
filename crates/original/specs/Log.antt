-- `ChangedAttrs` of subscriptions.rs, function by function: the log of changes.
-- Assumes nothing.
use Rattle.std.specs.Prelude.{Bool, true, false, cond, ◌&&◌, List, [], ◌∷◌, ◌++◌, ℕ, zero, suc, max, eqb, leb, ltb, length, Option, Some, None, slice_get}
use Rattle.lists.specs.Search.{some, count}
use Rattle.entries.specs.declared.ChangedAttr.{ChangedAttr}
use Rattle.original.specs.Std.{unwrap_or, wrapping_add, wrapping_sub, swap_remove, push, find_mut, remove_while}
use Rattle.original.specs.Entries.{wildcard_endpoint, wildcard_cluster, wildcard_attr, concrete, with_change_id, matches, covers, coarsen}

-- `MAX_CHANGED_ATTRS`
abbrev pub max_changed_attrs : ℕ
max_changed_attrs = 16

-- `struct ChangedAttrs`
pub record ChangedAttrs : Type 0 where
  pub next_change_id : ℕ
  pub entries : List ChangedAttr

-- `ChangedAttrs::new`
abbrev pub new_log : ChangedAttrs
new_log = record { next_change_id = 1; entries = [] }

-- `ChangedAttrs::watermark`
abbrev pub watermark : ChangedAttrs → ℕ
watermark g = wrapping_sub 64 g.next_change_id 1

-- `ChangedAttrs::contains_since`
unfoldable pub contains_since : ChangedAttrs → ℕ → ℕ → ℕ → ℕ → Bool
contains_since g endpoint cluster attr since = some (λ x. ltb since x.identity && matches x endpoint cluster attr) g.entries

-- `ChangedAttrs::any_since`
unfoldable pub any_since : ChangedAttrs → ℕ → Bool
any_since g since = some (λ x. ltb since x.identity) g.entries

-- `ChangedAttrs::purge_up_to`
unfoldable pub purge_up_to : ℕ → ChangedAttrs → ChangedAttrs
purge_up_to threshold g =
    cond (eqb threshold 0) g
    (record {
      next_change_id = g.next_change_id;
      entries = remove_while (length g.entries) (λ x. leb x.identity threshold) 0 g.entries;
    })

-- `ChangedAttrs::clear`
abbrev pub clear_log : ChangedAttrs → ChangedAttrs
clear_log g = record { next_change_id = g.next_change_id; entries = [] }

-- ---- `ChangedAttrs::promote_largest_group`

-- how many entries the coarsened pivot covers; a pivot that cannot be coarsened is passed over
abbrev pub covered : Option ChangedAttr → List ChangedAttr → ℕ
covered None entries = 0
covered (Some coarsened) entries = count (covers coarsened) entries

-- the loop over the pivots, with `best_count` and `best_pivot`
unfoldable pub best_pivot : ℕ → List ChangedAttr → List ChangedAttr → ℕ → Option ChangedAttr → Option ChangedAttr
best_pivot level entries [] best_count best = best
best_pivot level entries (pivot ∷ rest) best_count best =
    elim (ltb best_count (covered (coarsen level pivot) entries)) [
      | true ↦ best_pivot level entries rest (covered (coarsen level pivot) entries) (Some pivot)
      | false ↦ best_pivot level entries rest best_count best
    ]

-- the loop that removes what the coarsened pivot covers and keeps the greatest `change_id` of it: that, and the entries that are left
unfoldable pub collapse : ℕ → ChangedAttr → ℕ → ℕ → List ChangedAttr → ℕ × List ChangedAttr
collapse zero coarsened i max_change_id entries = (max_change_id, entries)
collapse (suc n) coarsened i max_change_id entries =
    elim (slice_get entries i) [
      | None ↦ (max_change_id, entries)
      | Some x ↦ elim (covers coarsened x) [
        | true ↦ collapse n coarsened i (cond (ltb max_change_id x.identity) x.identity max_change_id) (swap_remove i entries)
        | false ↦ collapse n coarsened (suc i) max_change_id entries
      ]
    ]

-- the coarsened pivot at the end, with that `change_id`
abbrev pub collapsed : ChangedAttr → ℕ × List ChangedAttr → List ChangedAttr
collapsed coarsened left = left.1 ++ (with_change_id left.0 coarsened ∷ [])

-- the best pivot, coarsened
abbrev pub coarsened_by : ℕ → Option ChangedAttr → Option ChangedAttr
coarsened_by level None = None
coarsened_by level (Some pivot) = coarsen level pivot

-- its group collapsed
abbrev pub promoted : Option ChangedAttr → List ChangedAttr → Option (List ChangedAttr)
promoted None entries = None
promoted (Some coarsened) entries = Some (collapsed coarsened (collapse (length entries) coarsened 0 0 entries))

-- the entries after a promotion, or nothing where it answers false
unfoldable pub promote_largest_group : ℕ → List ChangedAttr → Option (List ChangedAttr)
promote_largest_group level entries = promoted (coarsened_by level (best_pivot level entries entries 1 None)) entries

-- ---- `ChangedAttrs::promote_and_insert`

-- "If an existing entry already covers `new`, just refresh its change ID."
abbrev pub refresh : ChangedAttr → List ChangedAttr → Option (List ChangedAttr)
refresh new entries = find_mut (λ x. covers x new) (with_change_id new.identity) entries

-- `!self.promote_largest_group(1) && !self.promote_largest_group(2)`: the entries after the one that promoted
abbrev pub or_promote : Option (List ChangedAttr) → Option (List ChangedAttr) → Option (List ChangedAttr)
or_promote None second = second
or_promote (Some entries) second = Some entries

-- its `loop`: the number is how many turns are left to it
unfoldable pub promote_and_insert : ℕ → ChangedAttr → List ChangedAttr → List ChangedAttr
promote_and_insert zero new entries = entries
promote_and_insert (suc n) new entries =
    elim (refresh new entries) [
      | Some refreshed ↦ refreshed
      | None ↦ elim (push max_changed_attrs new entries) [
        | Some pushed ↦ pushed
        | None ↦ elim (or_promote (promote_largest_group 1 entries) (promote_largest_group 2 entries)) [
          | Some fewer ↦ promote_and_insert n new fewer
          | None ↦ concrete wildcard_endpoint wildcard_cluster wildcard_attr new.identity ∷ []
        ]
      ]
    ]

-- ---- `ChangedAttrs::record_raw`

-- what becomes of the entries; a full log has sixteen entries, so that seventeen turns are more than the loop above takes
unfoldable pub recorded : ChangedAttr → List ChangedAttr → List ChangedAttr
recorded new entries =
    elim (refresh new entries) [
      | Some refreshed ↦ refreshed
      | None ↦ unwrap_or (push max_changed_attrs new (remove_while (length entries) (covers new) 0 entries))
          (promote_and_insert 17 new (remove_while (length entries) (covers new) 0 entries))
    ]

-- the answered `change_id` is the `next_change_id` before
unfoldable pub record_raw : ChangedAttr → ChangedAttrs → ChangedAttrs
record_raw new g =
    record {
      next_change_id = max (wrapping_add 64 g.next_change_id 1) 1;
      entries = recorded (with_change_id g.next_change_id new) g.entries;
    }

-- `ChangedAttrs::record`
abbrev pub record_concrete : ℕ → ℕ → ℕ → ChangedAttrs → ChangedAttrs
record_concrete endpoint cluster attr g = record_raw (concrete endpoint cluster attr 0) g

-- `ChangedAttrs::record_wildcard`
abbrev pub record_wildcard : Option ℕ → Option ℕ → ChangedAttrs → ChangedAttrs
record_wildcard endpoint cluster g =
    record_raw (concrete (unwrap_or endpoint wildcard_endpoint) (unwrap_or cluster wildcard_cluster) wildcard_attr 0) g
