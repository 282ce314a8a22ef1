-- The original, computed: document 01's trace lines and its marked examples of the log, and small histories in which a rule shows.
-- Assumes nothing.
use mathlib.Core.Path.{◌≡◌, refl}
use mathlib.Core.Bool.{true, false}
use mathlib.Core.List.{List, [], ◌∷◌, ◌++◌, map}
use Prim.Native.Nat.{ℕ}
use Rattle.entries.specs.declared.ChangedAttr.{ChangedAttr}
use Rattle.refusal.specs.declared.Refusal.TheVariants.{Full}
use Rattle.time.specs.declared.KeepAlive.TheVariants.{Default}
use Rattle.instants.specs.Instants.{instant}
use Rattle.rules.specs.Calls as call
use Rattle.rules.specs.Calls.{Op}
use Rattle.rules.specs.Histories.{Diary}
use Rattle.rules.proofs.Thirteen.{thirteen_lines}
use Rattle.original.specs.Entries.{wildcard_endpoint, wildcard_cluster, wildcard_attr, concrete}
use Rattle.original.specs.Log.{record_concrete}
use Rattle.original.specs.Table.{new_table}
use Rattle.original.specs.Calls.{after}
use Rattle.original.proofs.Computing.{original_rules}
use Rattle.original.proofs.Outside.{request, at, stored, Answers}

-- ---- the trace lines of document 01

pub thirteen_lines_lem : Answers thirteen_lines
unfolding original_rules
thirteen_lines_lem = refl

-- ---- the log

-- the entries after the notes
abbrev entries_after : List Op → List ChangedAttr
entries_after ops = (after ops (new_table 80)).changed_attrs.entries

abbrev sixteen : List ℕ
sixteen = 0 ∷ 1 ∷ 2 ∷ 3 ∷ 4 ∷ 5 ∷ 6 ∷ 7 ∷ 8 ∷ 9 ∷ 10 ∷ 11 ∷ 12 ∷ 13 ∷ 14 ∷ 15 ∷ []

abbrev eight : List ℕ
eight = 0 ∷ 1 ∷ 2 ∷ 3 ∷ 4 ∷ 5 ∷ 6 ∷ 7 ∷ []

-- P8: the attributes of a cluster become one entry
pub cluster_folds : entries_after (map (λ a. call.note 1 6 a) sixteen ++ (call.note 2 6 0 ∷ []))
    ≡ concrete 1 6 wildcard_attr 16 ∷ concrete 2 6 0 17 ∷ []
unfolding original_rules
cluster_folds = refl

-- P9: the clusters of an endpoint become one entry
pub endpoint_folds : entries_after (map (λ c. call.note 1 c 0) sixteen ++ (call.note 1 17 0 ∷ []))
    ≡ concrete 1 wildcard_cluster wildcard_attr 17 ∷ []
unfolding original_rules
endpoint_folds = refl

-- P10: where nothing folds, everything does
pub everything_folds : entries_after (map (λ e. call.note e 6 0) sixteen ++ (call.note 17 6 0 ∷ []))
    ≡ concrete wildcard_endpoint wildcard_cluster wildcard_attr 17 ∷ []
unfolding original_rules
everything_folds = refl

-- of two groups of one size the first folds, and the last entries have filled its places
pub first_of_two_folds : entries_after (map (λ a. call.note 1 6 a) eight ++ map (λ a. call.note 1 7 a) eight ++ (call.note 2 6 0 ∷ []))
    ≡ concrete 1 7 7 16
    ∷ concrete 1 7 6 15
    ∷ concrete 1 7 5 14
    ∷ concrete 1 7 4 13
    ∷ concrete 1 7 3 12
    ∷ concrete 1 7 2 11
    ∷ concrete 1 7 1 10
    ∷ concrete 1 7 0 9
    ∷ concrete 1 6 wildcard_attr 8
    ∷ concrete 2 6 0 17
    ∷ []
unfolding original_rules
first_of_two_folds = refl

-- the identity after the last is 1
pub identity_after_the_last : record_concrete 3 6 0 (record { next_change_id = 18446744073709551615; entries = [] })
    ≡ record { next_change_id = 1; entries = concrete 3 6 0 18446744073709551615 ∷ [] }
unfolding original_rules
identity_after_the_last = refl

-- ---- the table

-- a table of one place is full with one
abbrev one_place : Diary
one_place =
    (call.new 1, call.number 1)
    ∷ (call.add request 0 (instant 1000), call.number 1)
    ∷ (call.add request 0 (instant 1000), call.refused Full)
    ∷ (call.resume 9 request 0, call.refused Full)
    ∷ []

pub one_place_lem : Answers one_place
unfolding original_rules
one_place_lem = refl

-- a change that a priming has not seen is not purged, and is told it later
abbrev purge_waits : Diary
purge_waits =
    stored 1
    ++ ((call.add request 0 (instant 1000), call.number 2)
    ∷ (call.note 3 6 0, call.heard 1 true)
    ∷ (call.report (at 2000), call.handed 1 5)
    ∷ (call.complete 1 0, call.completed true false)
    ∷ (call.purge, call.done)
    ∷ (call.complete 2 0, call.completed true false)
    ∷ (call.report (at 2000), call.handed 2 5)
    ∷ [])

pub purge_waits_lem : Answers purge_waits
unfolding original_rules
purge_waits_lem = refl

-- what everybody has seen is purged
pub purge_takes :
    entries_after
    (call.add request 0 (instant 1000)
    ∷ call.complete 1 0
    ∷ call.note 3 6 0
    ∷ call.report (at 2000)
    ∷ call.complete 1 0
    ∷ call.purge
    ∷ []) ≡ []
unfolding original_rules
purge_takes = refl

-- who may speak and has nothing to say is not reportable
abbrev nothing_to_say : Diary
nothing_to_say = stored 1 ++ ((call.any_reportable (instant 2500) 0 Default, call.yes_no false) ∷ [])

pub nothing_to_say_lem : Answers nothing_to_say
unfolding original_rules
nothing_to_say_lem = refl
