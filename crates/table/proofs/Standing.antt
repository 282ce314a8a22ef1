-- What stands in the way of a call, read off what its tests answered.
-- Assumes nothing.
use Rattle.std.specs.Bool.{⊤}
use Rattle.std.specs.Option.{ok_or}
use Rattle.std.proofs.Common.{◌≡◌, ℕ, ◌+◌, ◌≤◌, Bool, true, false, cond, List, [], Option, Some, None, Result, Ok, Err, refl, ap, ◌∙◌, arith}
use Rattle.refusal.specs.declared.Refusal.{Refusal}
use Rattle.refusal.specs.declared.Refusal.TheVariants.{NotWellKept}
use Rattle.places.specs.declared.Table.{Table}
use Rattle.places.specs.Views.{view, kept, refusal_at}
use Rattle.rules.specs.Machine.{Objection, first_of, objections}
use Rattle.rules.proofs.Clauses.{first_none}
use Rattle.rules.specs.Calls.{Op}
use Rattle.places.proofs.Refusing.{kept_counts, past_kept, unkept}
use Rattle.table.specs.Scans.{verdict_of, well_kept}

module _ (t : Table) where
  -- a table whose test passed is well kept
  pub well : {u : ⊤} → well_kept t ≡ Ok u → kept t ≡ true
  unfolding well_kept
  well e = go (kept t) e
    where
      go : (b : Bool) {u : ⊤} → ◌≡◌ {A = Result ⊤ Refusal} (cond b (Ok tt) (Err NotWellKept)) (Ok u) → b ≡ true
      go true e = refl
      go false e = absurd (let z : ◌≡◌ {A = ℕ} 0 1 = cc in omega arith)

  -- of one whose test did not, every call is refused so
  pub unwell : {why : Refusal} → well_kept t ≡ Err why → (op : Op) → refusal_at op t ≡ Some why
  unfolding well_kept
  unwell e op = unkept t (go (kept t) e).0 op ∙ (go (kept t) e).1
    where
      go : (b : Bool) {why : Refusal} → ◌≡◌ {A = Result ⊤ Refusal} (cond b (Ok tt) (Err NotWellKept)) (Err why)
          → (b ≡ false) × (Some NotWellKept ≡ Some why)
      go true e = absurd (let z : ◌≡◌ {A = ℕ} 0 1 = cc in omega arith)
      go false e = (refl, cc)

-- of a well-kept table the counts fit, and a call is refused for the first of its objections, if it has one
module _ (t : Table) {u : ⊤} (e : well_kept t ≡ Ok u) where
  pub counts : t.stored + t.opens ≤ 80
  counts = kept_counts t (well t e)

  pub refused : (op : Op) {l : List Objection} → objections op (view t) ≡ l → refusal_at op t ≡ first_of l
  refused op f = past_kept t (well t e) op ∙ ap first_of f

  pub unrefused : (op : Op) → objections op (view t) ≡ [] → refusal_at op t ≡ None
  unrefused op f = refused op f ∙ first_none

-- nothing stands in the way
pub clear : (o : Option Refusal) {u : ⊤} → verdict_of o ≡ Ok u → o ≡ None
clear None e = refl
clear (Some why) e = absurd (let z : ◌≡◌ {A = ℕ} 0 1 = cc in omega arith)

-- or a refusal does
pub stands : (o : Option Refusal) {why : Refusal} → verdict_of o ≡ Err why → o ≡ Some why
stands None e = absurd (let z : ◌≡◌ {A = ℕ} 0 1 = cc in omega arith)
stands (Some w) e = cc

-- what was found, or the refusal in its place
module _ {A : Type 0} (o : Option A) (why : Refusal) where
  pub some_of : {x : A} → ok_or o why ≡ Ok x → o ≡ Some x
  some_of e = go o e
    where
      go : (o : Option A) {x : A} → ok_or o why ≡ Ok x → o ≡ Some x
      go None e = absurd (let z : ◌≡◌ {A = ℕ} 0 1 = cc in omega arith)
      go (Some y) e = cc

  pub none_of : {w : Refusal} → ok_or o why ≡ Err w → (o ≡ None) × (w ≡ why)
  none_of e = go o e
    where
      go : (o : Option A) {w : Refusal} → ok_or o why ≡ Err w → (o ≡ None) × (w ≡ why)
      go None e = (refl, cc)
      go (Some y) e = absurd (let z : ◌≡◌ {A = ℕ} 0 1 = cc in omega arith)
