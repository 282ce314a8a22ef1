-- `ChangedAttr` of subscriptions.rs, function by function: one entry of the log of changes. Its `change_id` is the identity.
-- Assumes nothing.
use Rattle.std.specs.Prelude.{Bool, true, false, cond, ◌&&◌, ◌||◌, ℕ, eqb, Option, Some, None}
use Rattle.entries.specs.declared.ChangedAttr.{ChangedAttr}

-- `WILDCARD_ENDPOINT`
abbrev pub wildcard_endpoint : ℕ
wildcard_endpoint = 65535

-- `WILDCARD_CLUSTER`
abbrev pub wildcard_cluster : ℕ
wildcard_cluster = 4294967295

-- `WILDCARD_ATTR`
abbrev pub wildcard_attr : ℕ
wildcard_attr = 4294967295

-- `ChangedAttr::concrete`
abbrev pub concrete : ℕ → ℕ → ℕ → ℕ → ChangedAttr
concrete endpoint cluster attr change_id = record { endpoint = endpoint; cluster = cluster; attr = attr; identity = change_id }

-- an assignment to `change_id`
abbrev pub with_change_id : ℕ → ChangedAttr → ChangedAttr
with_change_id change_id x = concrete x.endpoint x.cluster x.attr change_id

-- `ChangedAttr::is_endpoint_wildcard`
abbrev pub is_endpoint_wildcard : ChangedAttr → Bool
is_endpoint_wildcard x = eqb x.endpoint wildcard_endpoint

-- `ChangedAttr::is_cluster_wildcard`
abbrev pub is_cluster_wildcard : ChangedAttr → Bool
is_cluster_wildcard x = eqb x.cluster wildcard_cluster

-- `ChangedAttr::is_attr_wildcard`
abbrev pub is_attr_wildcard : ChangedAttr → Bool
is_attr_wildcard x = eqb x.attr wildcard_attr

-- `ChangedAttr::matches`
unfoldable pub matches : ChangedAttr → ℕ → ℕ → ℕ → Bool
matches x endpoint cluster attr =
    (is_endpoint_wildcard x || eqb x.endpoint endpoint)
    && (is_cluster_wildcard x || eqb x.cluster cluster)
    && (is_attr_wildcard x || eqb x.attr attr)

-- `cov` in `ChangedAttr::covers`
abbrev pub cov : ℕ → Bool → ℕ → Bool → Bool
cov a a_wild b b_wild = cond a_wild true (cond b_wild false (eqb a b))

-- `ChangedAttr::covers`
unfoldable pub covers : ChangedAttr → ChangedAttr → Bool
covers x other =
    cov x.endpoint (is_endpoint_wildcard x) other.endpoint (is_endpoint_wildcard other)
    && cov x.cluster (is_cluster_wildcard x) other.cluster (is_cluster_wildcard other)
    && cov x.attr (is_attr_wildcard x) other.attr (is_attr_wildcard other)

-- `ChangedAttr::coarsen`, whose third case is `unreachable!`
unfoldable pub coarsen : ℕ → ChangedAttr → Option ChangedAttr
coarsen level x =
    cond (eqb level 1)
    (cond (is_endpoint_wildcard x || is_cluster_wildcard x) None (Some (concrete x.endpoint x.cluster wildcard_attr 0)))
    (cond (eqb level 2)
    (cond (is_endpoint_wildcard x) None (Some (concrete x.endpoint wildcard_cluster wildcard_attr 0)))
    None)
