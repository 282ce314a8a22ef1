-- What a note does to the list of entries, as document 01 has it, "Change held". The array that holds them is `Places`' matter.
-- Assumes nothing.
use Rattle.std.specs.Prelude.{Bool, cond, List, [], ◌∷◌, ◌++◌, ℕ, max, ltb, length, fold, Option, Some, None}
use Rattle.entries.specs.declared.ChangedAttr.{ChangedAttr}
use Rattle.entries.specs.declared.Level.{Level}
use Rattle.entries.specs.declared.Level.TheVariants.{Cluster, Endpoint}
use Rattle.notes.specs.declared.Group.{Group}
use Rattle.lists.specs.Search.{some, count, change_first}
use Rattle.lists.specs.Removal.{sweep}
use Rattle.entries.specs.Paths.{with_identity, all_wild, blank, over, under, candidate}

-- "Sixteen entries"
abbrev pub capacity : ℕ
capacity = 16

-- "the first entry that covers the note takes its identity"
unfoldable pub refreshed : ChangedAttr → List ChangedAttr → List ChangedAttr
refreshed n l = change_first (over n) (with_identity n.identity) l

-- "the first entry that covers the note takes its identity, and that is all; else .. the note goes at the end"
unfoldable pub placed : ChangedAttr → List ChangedAttr → List ChangedAttr
placed n l = cond (some (over n) l) (refreshed n l) (l ++ (n ∷ []))

-- the candidate and how many of the entries it covers; no candidate covers none
abbrev pub sized : List ChangedAttr → Option ChangedAttr → Group
sized l (Some by) = record { by = by; size = count (under by) l }
sized l None = record { by = blank; size = 0 }

-- the group that an entry stands for
unfoldable pub group_of : Level → List ChangedAttr → ChangedAttr → Group
group_of level l x = sized l (candidate level x)

-- "covering most entries wins, .. the earliest on a tie"
unfoldable pub larger : Group → Group → Group
larger a b = cond (ltb a.size b.size) b a

-- the winner among a group and those of the entries to come
unfoldable pub largest_from : Level → List ChangedAttr → Group → List ChangedAttr → Group
largest_from level l best m = fold (λ b x. larger b (group_of level l x)) best m

-- "The candidate covering most entries wins, at least two": a winner of size 1 is none
unfoldable pub largest : Level → List ChangedAttr → Group
largest level l = largest_from level l (record { by = blank; size = 1 }) l

-- "their greatest identity", of the entries that p holds of; 0 where there is none
unfoldable pub newest : (ChangedAttr → Bool) → List ChangedAttr → ℕ
newest p [] = 0
newest p (x ∷ xs) = max (cond (p x) x.identity 0) (newest p xs)

-- "Covered entries go by swap removal and the candidate goes at the end with their greatest identity."
unfoldable pub folded : ChangedAttr → List ChangedAttr → List ChangedAttr
folded by l = sweep (under by) l ++ (with_identity (newest (under by) l) by ∷ [])

-- "one fold: .. Level 2 is tried only if level 1 finds none. .. Then the note is placed as above; if neither level finds a group, the held
-- becomes one all-wild entry with the note's identity."
unfoldable pub crowded : ChangedAttr → List ChangedAttr → List ChangedAttr
crowded n l =
    cond (ltb 1 (largest Cluster l).size) (placed n (folded (largest Cluster l).by l))
    (cond (ltb 1 (largest Endpoint l).size) (placed n (folded (largest Endpoint l).by l)) (all_wild n.identity ∷ []))

-- "the note goes at the end; with 16 still held, one fold"
unfoldable pub inserted : ChangedAttr → List ChangedAttr → List ChangedAttr
inserted n l = cond (ltb (length l) capacity) (l ++ (n ∷ [])) (crowded n l)

-- "the first entry that covers the note takes its identity, and that is all; else entries that the note covers are removed, scanning from
-- the front by swap removal"
unfoldable pub entered : ChangedAttr → List ChangedAttr → List ChangedAttr
entered n l = cond (some (over n) l) (refreshed n l) (inserted n (sweep (under n) l))
