-- What is known of many fields: each number is within its width, since each is put where its width stands; a part with no byte has no
-- fields; and how a field leads on to the next.
-- Assumes nothing.
use Rattle.std.specs.Prelude.{Option, Some, None}
use mathlib.Core.Path.{◌≡◌, refl, ap, ◌∙◌}
use mathlib.Core.Bool.{Bool, true, false, cond}
use mathlib.Core.List.{List, [], ◌∷◌}
use Prim.Native.Nat.{ℕ, zero, suc, ◌+◌, ◌-◌, ◌≤◌, ◌<◌}
use native.Mathlib.Nat.{add-zero, zero-add}
use native.Mathlib.Omega.{arith}
use lib.Dec.{eqb, leb}
use lib.ListN.{length, drop, get_or, set, replicate}
use borrow.Author.Tests.{eq-eqb, ne_eqb}
use Rattle.fields.specs.Fields.{field_of, last, more, front, decimal}
use Rattle.fields.specs.Rows.{places, numbers_next, numbers_by, numbers_from, numbers_of, Fit}
use Rattle.fields.specs.declared.Field.{Field}
use Rattle.fields.proofs.Fields.{value_of, next_of, field_bounds}

zeros : (n k : ℕ) → ◌≡◌ {A = ℕ} (get_or (replicate n 0) k 0) 0
zeros zero k = refl
zeros (suc n) zero = refl
zeros (suc n) (suc k) = zeros n k

zeros_fit : (ws : List ℕ) → Fit ws (replicate places 0)
zeros_fit ws k = omega (arith, zeros places k)

at_most_set : (v : List ℕ) (j k x b : ℕ) → get_or v k 0 ≤ b → (k ≡ j → x ≤ b) → get_or (set v j x) k 0 ≤ b
at_most_set [] j k x b h q = h
at_most_set (a ∷ l) zero zero x b h q = q refl
at_most_set (a ∷ l) zero (suc k) x b h q = h
at_most_set (a ∷ l) (suc j) zero x b h q = h
at_most_set (a ∷ l) (suc j) (suc k) x b h q = at_most_set l j k x b h (λ e. q (ap suc e))

-- the widths ws stand from the place j on among `full`
abbrev Stand : List ℕ → ℕ → List ℕ → Type 0
Stand ws j full = (k : ℕ) → get_or ws k 0 ≡ get_or full (j + k) 0

-- the numbers, if there are some, are each within its width
abbrev AllFit : List ℕ → Option (List ℕ) → Type 0
AllFit ws None = Unit
AllFit ws (Some v) = Fit ws v

module _ (full : List ℕ) where
  fit_set : (v : List ℕ) (j x : ℕ) → Fit full v → x ≤ get_or full j 0 → Fit full (set v j x)
  fit_set v j x f h k = at_most_set v j k x (get_or full k 0) (f k) (λ e. rw e h)

  by_next : (go : ℕ → Option (List ℕ)) (ws v : List ℕ) (n : Option ℕ) → Fit full v → ((next : ℕ) → AllFit full (go next))
      → AllFit full (numbers_next go ws v n)
  by_next go ws v None fit on = last (eqb (length ws) 0)
    where
      last : (t : Bool) → AllFit full (cond t (Some v) None)
      last true = fit
      last false = tt
  by_next go ws v (Some next) fit on = on next

  by_field : (go : ℕ → ℕ → Option (List ℕ)) (ws v : List ℕ) (j : ℕ) (f : Option Field) → Fit full v → value_of f ≤ get_or full j 0
      → ((x next : ℕ) → x ≤ get_or full j 0 → AllFit full (go x next))
      → AllFit full (numbers_by go ws v j f)
  by_field go ws v j None fit h on = tt
  by_field go ws v j (Some f) fit h on =
      by_next (go f.value) ws (set v j f.value) f.next (fit_set v j f.value fit h) (λ next. on f.value next h)

  from_fit : (ws v : List ℕ) (j : ℕ) (s : List ℕ) → Stand ws j full → Fit full v → AllFit full (numbers_from ws v j s)
  unfolding numbers_from
  from_fit [] v j s stand fit = tt
  from_fit (w ∷ ws) v j s stand fit =
      let e : w ≡ get_or full j 0 = stand 0 ∙ ap (λ (n : ℕ). get_or full n 0) (add-zero j) in
      by_field _ ws v j (field_of w s) fit (rw (← e) (field_bounds w s).0)
      λ x next h. from_fit ws (set v j x) (j + 1) (drop next s)
      (λ k. let n : j + suc k ≡ j + 1 + k = omega arith in stand (suc k) ∙ ap (λ (i : ℕ). get_or full i 0) n)
      (fit_set v j x fit h)

of_fit : (ws s : List ℕ) → AllFit ws (numbers_of ws s)
unfolding numbers_of
of_fit ws s = go (leb (length ws) places)
  where
    go : (t : Bool) → AllFit ws (cond t (numbers_from ws (replicate places 0) 0 s) None)
    go true = from_fit ws ws (replicate places 0) 0 s (λ k. rw zero-add) (zeros_fit ws)
    go false = tt

-- each number is within its width
pub numbers_fit : (v ws s : List ℕ) → Some v ≡ numbers_of ws s → Fit ws v
numbers_fit v ws s e = rw (← e) at (of_fit ws s)

-- nothing is no field, and so no line's rest
pub numbers_nothing : (ws : List ℕ) → numbers_of ws [] ≡ None
unfolding numbers_of numbers_from field_of front decimal
numbers_nothing [] = refl
numbers_nothing (w ∷ ws) = go (leb (length (w ∷ ws)) places)
  where
    go : (t : Bool) → ◌≡◌ {A = Option (List ℕ)} (cond t None None) None
    go true = refl
    go false = refl

-- the part behind a field's comma begins in the part that the field is read from
pub part_begins : (w next : ℕ) (s : List ℕ) (f : Field) → Some f ≡ field_of w s → f.next ≡ Some next → next ≤ length s
part_begins w next s f e g =
    let k : next_of (field_of w s) ≤ length s = (field_bounds w s).1 in rw (← e, g) at k

-- whether a width is left behind the place j
pub none_left : (j n : ℕ) → j + 1 ≡ n → eqb (n - (j + 1)) 0 ≡ true
none_left j n e = eq-eqb (n - (j + 1)) 0 (omega arith)

pub some_left : (j n : ℕ) → j < n → (j + 1 ≡ n → ⊥) → eqb (n - (j + 1)) 0 ≡ false
some_left j n h ne = ne_eqb (n - (j + 1)) 0 (λ z. ne (omega arith))

-- few enough widths are read from the first place on
pub numbers_begin : (ws s : List ℕ) → leb (length ws) places ≡ true → numbers_of ws s ≡ numbers_from ws (replicate places 0) 0 s
unfolding numbers_of
numbers_begin ws s h = rw h

-- a field for the first width, and a last field for the last one
pub numbers_more : (w : ℕ) (ws v : List ℕ) (j x next : ℕ) (s : List ℕ) → field_of w s ≡ Some (more x next)
    → numbers_from (w ∷ ws) v j s ≡ numbers_from ws (set v j x) (j + 1) (drop next s)
unfolding numbers_from
numbers_more w ws v j x next s e = rw e

pub numbers_last : (w : ℕ) (v : List ℕ) (j x : ℕ) (s : List ℕ) → field_of w s ≡ Some (last x)
    → numbers_from (w ∷ []) v j s ≡ Some (set v j x)
unfolding numbers_from
numbers_last w v j x s e = rw e
