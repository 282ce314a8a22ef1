-- One entry: the Rust's covering, matching and coarsening are document 01's.
-- Assumes nothing.
use mathlib.Core.Path.{◌≡◌, refl, sym, ◌∙◌, fun_ext}
use mathlib.Core.Bool.{Bool, true, false, cond, not, ◌&&◌, ◌||◌, and_assoc}
use Prim.Native.Nat.{ℕ}
use lib.Dec.{eqb, leb, ltb}
use Rattle.entries.specs.declared.ChangedAttr.{ChangedAttr}
use Rattle.entries.specs.declared.Level.{Level}
use Rattle.entries.specs.declared.Level.TheVariants.{Cluster, Endpoint}
use Rattle.entries.specs.Paths as paths
use Rattle.entries.specs.Paths.{entry, wild_endpoint, wild_cluster, wild_attr, field_covers, over, under, up_to, above, since, candidate}
use Rattle.entries.proofs.Covering.{over_covers, under_covers, up_to_at, above_at, field_covers_at, covers_at, field_matches_at, since_at, candidate_cluster, candidate_endpoint}
use Rattle.original.specs.Entries.{cov, covers, matches, coarsen}

-- ---- covering and matching

cov_same : (wild a b : ℕ) → cov a (eqb a wild) b (eqb b wild) ≡ field_covers wild a b
cov_same wild a b = go (eqb a wild) (eqb b wild) ∙ sym (field_covers_at wild a b)
  where
    go : (u v : Bool) → cond u true (cond v false (eqb a b)) ≡ (u || (not v && eqb a b))
    go true v = refl
    go false true = refl
    go false false = refl

pub covers_same : (x y : ChangedAttr) → covers x y ≡ paths.covers x y
unfolding covers
covers_same x y =
    rw (
      cov_same wild_endpoint x.endpoint y.endpoint,
      cov_same wild_cluster x.cluster y.cluster,
      cov_same wild_attr x.attr y.attr,
    )
    (and_assoc (field_covers wild_endpoint x.endpoint y.endpoint) (field_covers wild_cluster x.cluster y.cluster)
    (field_covers wild_attr x.attr y.attr)
    ∙ sym (covers_at x y))

-- the entries that a note or a coarser entry covers, and those that cover it
pub under_same : (n : ChangedAttr) → covers n ≡ under n
under_same n = fun_ext (λ x. covers_same n x ∙ sym (under_covers n x))

pub over_same : (n : ChangedAttr) → (λ x. covers x n) ≡ over n
over_same n = fun_ext (λ x. covers_same x n ∙ sym (over_covers n x))

pub since_same : (e c a s : ℕ) → (λ x. ltb s x.identity && matches x e c a) ≡ since (entry e c a s)
unfolding matches
since_same e c a s =
    fun_ext
    (λ x. rw (
      since_at (entry e c a s) x,
      field_matches_at wild_endpoint x.endpoint e,
      field_matches_at wild_cluster x.cluster c,
      field_matches_at wild_attr x.attr a,
    ) (rw (and_assoc (eqb x.endpoint wild_endpoint || eqb x.endpoint e))))

pub above_same : (s : ℕ) → (λ x. ltb s x.identity) ≡ above s
above_same s = fun_ext (λ x. sym (above_at s x))

pub up_to_same : (t : ℕ) → (λ x. leb x.identity t) ≡ up_to t
up_to_same t = fun_ext (λ x. sym (up_to_at t x))

-- ---- coarsening

-- the Rust's number of a level
abbrev pub number : Level → ℕ
number Cluster = 1
number Endpoint = 2

pub coarsen_same : (level : Level) (x : ChangedAttr) → coarsen (number level) x ≡ candidate level x
unfolding coarsen
coarsen_same Cluster x = sym (candidate_cluster x)
coarsen_same Endpoint x = sym (candidate_endpoint x)
