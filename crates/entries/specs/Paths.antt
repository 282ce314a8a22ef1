-- Entries of the change log, when one covers another, and the coarser one that can stand for it, as document 01 has it, "Change log". What
-- a log does with them is not said here.
-- Assumes nothing.
use Rattle.std.specs.Prelude.{Bool, not, cond, ◌&&◌, ◌||◌, ℕ, eqb, leb, ltb, Option, Some, None}
use Rattle.entries.specs.declared.ChangedAttr.{ChangedAttr}
use Rattle.entries.specs.declared.Rule.{Rule}
use Rattle.entries.specs.declared.Rule.TheVariants.{Over, Under, UpTo, Above, Since}
use Rattle.entries.specs.declared.Level.{Level}
use Rattle.entries.specs.declared.Level.TheVariants.{Cluster, Endpoint}

-- "endpoint, cluster, attribute, identity"
abbrev pub entry : ℕ → ℕ → ℕ → ℕ → ChangedAttr
entry endpoint cluster attr identity = record { identity = identity; cluster = cluster; attr = attr; endpoint = endpoint }

-- the same path with another identity
abbrev pub with_identity : ℕ → ChangedAttr → ChangedAttr
with_identity identity x = entry x.endpoint x.cluster x.attr identity

-- "65,535 or 4,294,967,295 in its field means every value."
abbrev pub wild_endpoint : ℕ
wild_endpoint = 65535

abbrev pub wild_cluster : ℕ
wild_cluster = 4294967295

abbrev pub wild_attr : ℕ
wild_attr = 4294967295

-- "one all-wild entry"
abbrev pub all_wild : ℕ → ChangedAttr
all_wild identity = entry wild_endpoint wild_cluster wild_attr identity

-- what stands in a place that holds no entry
abbrev pub blank : ChangedAttr
blank = entry 0 0 0 0

-- "A field covers another if it is wild, or neither is wild and they are equal"
unfoldable pub field_covers : ℕ → ℕ → ℕ → Bool
field_covers wild a b = eqb a wild || (not (eqb b wild) && eqb a b)

-- "an entry covers if all three fields do."
unfoldable pub covers : ChangedAttr → ChangedAttr → Bool
covers a b =
    field_covers wild_endpoint a.endpoint b.endpoint
    && (field_covers wild_cluster a.cluster b.cluster && field_covers wild_attr a.attr b.attr)

-- "wild or equal"
unfoldable pub field_matches : ℕ → ℕ → ℕ → Bool
field_matches wild a b = eqb a wild || eqb a b

-- "is wild or equal in each field."
unfoldable pub matches : ChangedAttr → ChangedAttr → Bool
matches a b =
    field_matches wild_endpoint a.endpoint b.endpoint
    && (field_matches wild_cluster a.cluster b.cluster && field_matches wild_attr a.attr b.attr)

-- "entry that covers the note"
unfoldable pub over : ChangedAttr → ChangedAttr → Bool
over n x = covers x n

-- "entries that the note covers"
unfoldable pub under : ChangedAttr → ChangedAttr → Bool
under n x = covers n x

-- "entries with identity ≤ T"
unfoldable pub up_to : ℕ → ChangedAttr → Bool
up_to t x = leb x.identity t

-- "entry with an identity above S"
unfoldable pub above : ℕ → ChangedAttr → Bool
above s x = ltb s x.identity

-- "entry with an identity above S is wild or equal in each field": S is the identity beside the path
unfoldable pub since : ChangedAttr → ChangedAttr → Bool
since path x = ltb path.identity x.identity && matches x path

-- what a scan is after, for each rule of the code
abbrev pub holds : Rule → ChangedAttr → Bool
holds (Over e) = over e
holds (Under e) = under e
holds (UpTo t) = up_to t
holds (Above s) = above s
holds (Since path) = since path

-- "level 1 makes a candidate of endpoint and cluster from each entry where neither is wild; level 2 of endpoint alone where it isn't wild."
unfoldable pub candidate : Level → ChangedAttr → Option ChangedAttr
candidate Cluster x =
    cond (eqb x.endpoint wild_endpoint || eqb x.cluster wild_cluster) None (Some (entry x.endpoint x.cluster wild_attr 0))
candidate Endpoint x = cond (eqb x.endpoint wild_endpoint) None (Some (entry x.endpoint wild_cluster wild_attr 0))
