-- Covering is an order: each entry covers itself, and what covers a coverer covers. To match a path is to cover it. Floors above cite these
-- laws and open no definition of this crate.
-- Assumes nothing.
use mathlib.Core.Path.{◌≡◌, refl, sym, ◌∙◌}
use mathlib.Core.Bool.{true, not, cond, ◌&&◌, ◌||◌}
use mathlib.Core.Logic.{⊎_elim}
use Prim.Native.Nat.{ℕ}
use borrow.Author.Tests.{eqb-true, eqb-false, eq-eqb, ne_eqb}
use lib.Dec.{eqb, leb, ltb}
use Rattle.entries.specs.declared.ChangedAttr.{ChangedAttr}
use Rattle.entries.specs.declared.Level.TheVariants.{Cluster, Endpoint}
use Rattle.std.specs.Prelude.{Some, None}
use Rattle.entries.specs.Paths.{entry, with_identity, all_wild, wild_endpoint, wild_cluster, wild_attr, field_covers, field_matches, covers, matches, over, under, up_to, above, since, candidate}
use Rattle.lists.proofs.Bools.{split, and_both, and_true, or_either, or_left}

module _ (wild : ℕ) where
  -- the field is wild or equal: that neither is wild adds nothing
  pub field_same : (a b : ℕ) → field_matches wild a b ≡ field_covers wild a b
  unfolding field_matches field_covers
  field_same a b =
      split (eqb a wild)
      (λ t. rw t)
      (λ t. split (eqb b wild)
      (λ u. rw (t, u) (ne_eqb a b (λ e. eqb-false a wild t (e ∙ eqb-true b wild u))))
      (λ u. rw (t, u)))

  field_self : (a : ℕ) → field_matches wild a a ≡ true
  unfolding field_matches
  field_self a = split (eqb a wild) (λ t. rw t) (λ t. rw t (eq-eqb a a refl))

  field_trans : (a b c : ℕ) → field_matches wild a b ≡ true → field_matches wild b c ≡ true → field_matches wild a c ≡ true
  unfolding field_matches
  field_trans a b c h k =
      ⊎_elim
      (λ e. or_left (eqb a c) e)
      (λ e. let same : a ≡ b = eqb-true a b e in rw same k)
      (or_either (eqb a wild) (eqb a b) h)

-- an entry matches a path exactly where it covers it
pub matches_covers : (a b : ChangedAttr) → matches a b ≡ covers a b
unfolding matches covers
matches_covers a b =
    rw (
      field_same wild_endpoint a.endpoint b.endpoint,
      field_same wild_cluster a.cluster b.cluster,
      field_same wild_attr a.attr b.attr,
    )

pub covers_self : (a : ChangedAttr) → covers a a ≡ true
unfolding matches
covers_self a =
    sym (matches_covers a a)
    ∙ and_true (field_self wild_endpoint a.endpoint) (and_true (field_self wild_cluster a.cluster) (field_self wild_attr a.attr))

matches_trans : (a b c : ChangedAttr) → matches a b ≡ true → matches b c ≡ true → matches a c ≡ true
unfolding matches
matches_trans a b c h k =
    let p = and_both _ _ h in
    let q = and_both _ _ k in
    let p' = and_both _ _ p.1 in
    let q' = and_both _ _ q.1 in
    and_true (field_trans wild_endpoint a.endpoint b.endpoint c.endpoint p.0 q.0)
    (and_true (field_trans wild_cluster a.cluster b.cluster c.cluster p'.0 q'.0)
    (field_trans wild_attr a.attr b.attr c.attr p'.1 q'.1))

pub covers_trans : (a b c : ChangedAttr) → covers a b ≡ true → covers b c ≡ true → covers a c ≡ true
covers_trans a b c h k = sym (matches_covers a c) ∙ matches_trans a b c (matches_covers a b ∙ h) (matches_covers b c ∙ k)

-- the all-wild entry covers everything
pub wild_covers : (k : ℕ) (q : ChangedAttr) → covers (all_wild k) q ≡ true
unfolding covers field_covers
wild_covers k q = refl

-- ---- what a scan is after, as tests on the entry

module _ (n x : ChangedAttr) where
  pub over_covers : over n x ≡ covers x n
  unfolding over
  over_covers = refl

  pub under_covers : under n x ≡ covers n x
  unfolding under
  under_covers = refl

  -- a path is changed since an identity by the entries that cover it and are newer
  pub since_covers : since n x ≡ (ltb n.identity x.identity && covers x n)
  unfolding since
  since_covers = rw (matches_covers x n)

-- covering is a matter of the paths: the identities are no part of them
pub path_covers : (j k : ℕ) (a b : ChangedAttr) → covers (with_identity j a) (with_identity k b) ≡ covers a b
unfolding covers
path_covers j k a b = refl

pub up_to_at : (t : ℕ) (x : ChangedAttr) → up_to t x ≡ leb x.identity t
unfolding up_to
up_to_at t x = refl

pub above_at : (s : ℕ) (x : ChangedAttr) → above s x ≡ ltb s x.identity
unfolding above
above_at s x = refl

-- ---- the definitions as tests on fields

pub field_covers_at : (wild a b : ℕ) → field_covers wild a b ≡ (eqb a wild || (not (eqb b wild) && eqb a b))
unfolding field_covers
field_covers_at wild a b = refl

pub covers_at : (a b : ChangedAttr)
    → covers a b
    ≡ (field_covers wild_endpoint a.endpoint b.endpoint
    && (field_covers wild_cluster a.cluster b.cluster && field_covers wild_attr a.attr b.attr))
unfolding covers
covers_at a b = refl

pub field_matches_at : (wild a b : ℕ) → field_matches wild a b ≡ (eqb a wild || eqb a b)
unfolding field_matches
field_matches_at wild a b = refl

pub since_at : (path x : ChangedAttr)
    → since path x
    ≡ (ltb path.identity x.identity
    && (field_matches wild_endpoint x.endpoint path.endpoint
    && (field_matches wild_cluster x.cluster path.cluster && field_matches wild_attr x.attr path.attr)))
unfolding since matches
since_at path x = refl

pub candidate_cluster : (x : ChangedAttr)
    → candidate Cluster x
    ≡ cond (eqb x.endpoint wild_endpoint || eqb x.cluster wild_cluster) None (Some (entry x.endpoint x.cluster wild_attr 0))
unfolding candidate
candidate_cluster x = refl

pub candidate_endpoint : (x : ChangedAttr)
    → candidate Endpoint x ≡ cond (eqb x.endpoint wild_endpoint) None (Some (entry x.endpoint wild_cluster wild_attr 0))
unfolding candidate
candidate_endpoint x = refl
