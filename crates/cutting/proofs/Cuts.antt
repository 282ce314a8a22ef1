-- Laws of the plain cut and of its judging: a byte that ends no line goes in front of what follows it, and what makes a line bad.
-- Assumes nothing.
use mathlib.Core.Path.{◌≡◌, refl, ap, ◌∙◌}
use mathlib.Core.Bool.{Bool, true, false, ◌&&◌, ◌||◌, or-true, and-false}
use mathlib.Core.List.{List, [], ◌∷◌, ◌++◌}
use Prim.Native.Nat.{ℕ, ◌≤◌, ◌<◌}
use native.Mathlib.Omega.{arith}
use lib.Dec.{eqb}
use lib.ListN.{length}
use borrow.Author.Tests.{ne_eqb, le-leb, lt-leb, eqb-false}
use Rattle.fields.specs.Bytes.{CR, LF}
use Rattle.lists.proofs.Bools.{or_neither}
use Rattle.cutting.specs.Cuts.{onto, cut, holds_lone, whole, bad, judge}

-- the bytes q in front of the first line
abbrev pub prepend : List ℕ → List (List ℕ) → List (List ℕ)
prepend [] ls = ls
prepend (b ∷ q) ls = onto b (prepend q ls)

pub prepend_snoc : (q : List ℕ) (b : ℕ) (ls : List (List ℕ)) → prepend (q ++ (b ∷ [])) ls ≡ prepend q (onto b ls)
prepend_snoc [] b ls = refl
prepend_snoc (x ∷ q) b ls = ap (onto x) (prepend_snoc q b ls)

pub prepend_cons : (q l : List ℕ) (ls : List (List ℕ)) → prepend q (l ∷ ls) ≡ (q ++ l) ∷ ls
prepend_cons [] l ls = refl
prepend_cons (x ∷ q) l ls = ap (onto x) (prepend_cons q l ls)

pub prepend_none : (q : List ℕ) → 0 < length q → prepend q [] ≡ q ∷ []
prepend_none [] h = let o : ⊥ = omega arith in absurd o
prepend_none (x ∷ []) h = refl
prepend_none (x ∷ y ∷ q) h = ap (onto x) (prepend_none (y ∷ q) (omega arith))

-- where no line ends, a byte goes in front of what follows it
cut_on : (b c : ℕ) (s : List ℕ) → (eqb b CR && eqb c LF) ≡ false → cut (b ∷ c ∷ s) ≡ onto b (cut (c ∷ s))
unfolding cut
cut_on b c s e = ap (λ (t : Bool). elim t as (λ x. List (List ℕ)) [ true ↦ [] ∷ cut s | false ↦ onto b (cut (c ∷ s)) ]) e

pub cut_onto : (b : ℕ) (s : List ℕ) → (b ≡ CR → ⊥) → cut (b ∷ s) ≡ onto b (cut s)
unfolding cut
cut_onto b [] h = refl
cut_onto b (c ∷ s) h = cut_on b c s (rw (ne_eqb b CR h))

pub cut_lone : (b c : ℕ) (s : List ℕ) → (c ≡ LF → ⊥) → cut (b ∷ c ∷ s) ≡ onto b (cut (c ∷ s))
cut_lone b c s h = cut_on b c s (rw (ne_eqb c LF h, and-false))

-- a line is bad by a lone CR or LF in it, or by its length
abbrev pub Lone : ℕ → Type 0
Lone b = (eqb b CR || eqb b LF) ≡ true

pub holds_lone_lem : (q : List ℕ) (b : ℕ) (x : List ℕ) → Lone b → holds_lone (q ++ (b ∷ x)) ≡ true
unfolding holds_lone
holds_lone_lem [] b x h = rw h
holds_lone_lem (y ∷ q) b x h = rw (holds_lone_lem q b x h, or-true)

pub holds_none : (q : List ℕ) (b : ℕ) → holds_lone q ≡ false → (b ≡ LF → ⊥) → (b ≡ CR → ⊥) → holds_lone (q ++ (b ∷ [])) ≡ false
unfolding holds_lone
holds_none [] b h f g = rw (ne_eqb b CR g, ne_eqb b LF f)
holds_none (y ∷ q) b h f g =
    let p = or_neither (eqb y CR || eqb y LF) (holds_lone q) h in rw p.0 (holds_none q b p.1 f g)

pub judge_lone : (limit : ℕ) (l : List ℕ) → holds_lone l ≡ true → judge limit l ≡ bad
unfolding judge
judge_lone limit [] h = refl
judge_lone limit (b ∷ l) h = rw (h, and-false)

pub judge_long : (limit : ℕ) (l : List ℕ) → limit < length l → judge limit l ≡ bad
unfolding judge
judge_long limit [] h = refl
judge_long limit (b ∷ l) h = rw (lt-leb (length (b ∷ l)) limit h)

pub judge_whole : (limit : ℕ) (l : List ℕ) → 0 < length l → length l ≤ limit → holds_lone l ≡ false → judge limit l ≡ whole l
unfolding judge
judge_whole limit [] p h f = let o : ⊥ = omega arith in absurd o
judge_whole limit (b ∷ l) p h f = rw (le-leb (length (b ∷ l)) limit h, f)

-- a line that holds no CR and no LF, with a CRLF behind it, is cut off whole
pub cut_line : (l s : List ℕ) → holds_lone l ≡ false → cut (l ++ (CR ∷ LF ∷ s)) ≡ l ∷ cut s
unfolding cut holds_lone
cut_line [] s h = refl
cut_line (b ∷ l) s h =
    let p = or_neither (eqb b CR || eqb b LF) (holds_lone l) h in
    cut_onto b (l ++ (CR ∷ LF ∷ s)) (eqb-false b CR (or_neither (eqb b CR) (eqb b LF) p.0).0) ∙ ap (onto b) (cut_line l s p.1)

pub lone_append : (l m : List ℕ) → holds_lone l ≡ false → holds_lone m ≡ false → holds_lone (l ++ m) ≡ false
unfolding holds_lone
lone_append [] m h k = k
lone_append (b ∷ l) m h k =
    let p = or_neither (eqb b CR || eqb b LF) (holds_lone l) h in rw p.0 (lone_append l m p.1 k)

-- a byte that is neither, alone and in front of others
pub lone_cons : (b : ℕ) (l : List ℕ) → (b ≡ CR → ⊥) → (b ≡ LF → ⊥) → holds_lone l ≡ false → holds_lone (b ∷ l) ≡ false
unfolding holds_lone
lone_cons b l f g h = rw (ne_eqb b CR f, ne_eqb b LF g) h

pub lone_nil : holds_lone [] ≡ false
unfolding holds_lone
lone_nil = refl
