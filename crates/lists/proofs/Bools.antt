-- Going by cases on a test, and what two joined tests say.
-- Assumes nothing.
use mathlib.Core.Path.{◌≡◌, refl}
use mathlib.Core.Bool.{Bool, true, false, ◌&&◌, ◌||◌}
use mathlib.Core.Logic.{◌⊎◌, inl, inr}
use Prim.Native.Nat.{ℕ}
use native.Mathlib.Omega.{arith}

-- by what a test says
pub split : {C : Type 0} (b : Bool) → (b ≡ true → C) → (b ≡ false → C) → C
split true f g = f refl
split false f g = g refl

-- no test says both
pub clash : {b : Bool} → b ≡ true → b ≡ false → ⊥
clash e f = let z : ◌≡◌ {A = ℕ} 0 1 = cc in omega arith

pub and_both : (a b : Bool) → (a && b) ≡ true → (a ≡ true) × (b ≡ true)
and_both true b h = (refl, h)
and_both false b h = absurd (clash h refl)

pub and_left : (a b : Bool) → (a && b) ≡ true → a ≡ true
and_left a b h = (and_both a b h).0

pub and_right : (a b : Bool) → (a && b) ≡ true → b ≡ true
and_right a b h = (and_both a b h).1

pub and_true : {a b : Bool} → a ≡ true → b ≡ true → (a && b) ≡ true
and_true e f = rw (e, f)

pub or_either : (a b : Bool) → (a || b) ≡ true → (a ≡ true) ⊎ (b ≡ true)
or_either true b h = inl refl
or_either false b h = inr h

pub or_left : {a : Bool} (b : Bool) → a ≡ true → (a || b) ≡ true
or_left b e = rw e

pub or_right : (a : Bool) {b : Bool} → b ≡ true → (a || b) ≡ true
or_right true e = refl
or_right false e = e

pub or_neither : (a b : Bool) → (a || b) ≡ false → (a ≡ false) × (b ≡ false)
or_neither true b h = absurd (clash refl h)
or_neither false b h = (refl, h)

-- what holds of the one whenever it holds of the other cannot fail of it alone
pub not_so : {a b : Bool} → (a ≡ true → b ≡ true) → b ≡ false → a ≡ false
not_so {a} f h = split a (λ t. absurd (clash (f t) h)) (λ n. n)
