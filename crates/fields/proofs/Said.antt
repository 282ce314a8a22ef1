-- A text that says a number: how it grows by a digit, and that the field reader reads it.
-- Assumes nothing.
use Rattle.std.specs.Prelude.{Some}
use mathlib.Core.Path.{◌≡◌, refl, sym, ap, ◌∙◌}
use mathlib.Core.Bool.{not, ◌&&◌, true, false}
use mathlib.Core.List.{List, [], ◌∷◌, ◌++◌, append-nil}
use Prim.Native.Nat.{ℕ, ◌+◌, ◌-◌, ◌*◌, ◌≤◌, ◌<◌}
use native.Mathlib.Omega.{arith}
use lib.Dec.{eqb, leb}
use lib.ListN.{length, length-append}
use borrow.Author.Tests.{ne_eqb, lt-ltb, le-ltb, le-leb, leb-true}
use Rattle.fields.specs.Bytes.{comma, zero_digit, nine_digit}
use Rattle.fields.specs.Fields.{digit, digits, decimal, number_from, number_of, front, last, more, field_of}
use Rattle.lists.proofs.Bools.{and_both}

-- a digit more
number_snoc : (v : ℕ) (a : List ℕ) (b : ℕ) → number_from v (a ++ (b ∷ [])) ≡ number_from v a * 10 + (b - zero_digit)
unfolding number_from
number_snoc v [] b = refl
number_snoc v (x ∷ a) b = number_snoc (v * 10 + (x - zero_digit)) a b

digits_snoc : (a : List ℕ) (b : ℕ) → digits a ≡ true → digit b ≡ true → digits (a ++ (b ∷ [])) ≡ true
unfolding digits
digits_snoc [] b h e = rw e
digits_snoc (x ∷ a) b h e = let p = and_both (digit x) (digits a) h in rw p.0 (digits_snoc a b p.1 e)

decimal_snoc : (a : List ℕ) (b : ℕ) → decimal a ≡ true → 0 < number_of a → digit b ≡ true → decimal (a ++ (b ∷ [])) ≡ true
unfolding decimal number_from digits
decimal_snoc [] b h p e = e
decimal_snoc (x ∷ []) b h p e = let n : eqb x zero_digit ≡ false = ne_eqb x zero_digit (λ z. omega arith) in rw (h, n, e)
decimal_snoc (x ∷ y ∷ a) b h p e =
    let q = and_both (digit x && not (eqb x zero_digit)) (digits (y ∷ a)) h in rw q.0 (digits_snoc (y ∷ a) b q.1 e)

decimal_digits : (a : List ℕ) → decimal a ≡ true → digits a ≡ true
unfolding decimal digits
decimal_digits [] h = refl
decimal_digits (x ∷ []) h = rw h
decimal_digits (x ∷ y ∷ a) h =
    let q = and_both (digit x && not (eqb x zero_digit)) (digits (y ∷ a)) h in
    rw (and_both (digit x) (not (eqb x zero_digit)) q.0).0 q.1

-- digits are before a comma
front_digits : (a l : List ℕ) → digits a ≡ true → front (a ++ l) ≡ a ++ front l
unfolding digits front
front_digits [] l h = refl
front_digits (x ∷ a) l h =
    let p = and_both (digit x) (digits a) h in let g = leb-true zero_digit x (and_both (leb zero_digit x) (leb x nine_digit) p.0).0 in
    let n : eqb x comma ≡ false = ne_eqb x comma (λ z. omega arith) in
    rw (n, front_digits a l p.1)

-- the text a says n
pub record Says (a : List ℕ) (n : ℕ) : Type 0 where
  pub plain : decimal a ≡ true
  pub number : number_of a ≡ n

digit_of : (d : ℕ) → d < 10 → digit (zero_digit + d) ≡ true
digit_of d h = rw (le-leb zero_digit (zero_digit + d) (omega arith), le-leb (zero_digit + d) nine_digit (omega arith))

-- one digit, and one more behind a number that is not 0
pub says_digit : (d : ℕ) → d < 10 → Says ((zero_digit + d) ∷ []) d
unfolding decimal number_from
says_digit d h = record { plain = digit_of d h; number = omega arith }

pub says_more : (a : List ℕ) (n d : ℕ) → Says a n → 0 < n → d < 10 → Says (a ++ ((zero_digit + d) ∷ [])) (n * 10 + d)
says_more a n d p h k =
    record {
      plain = decimal_snoc a (zero_digit + d) p.plain (omega (arith, p.number)) (digit_of d k);
      number = omega (arith, p.number, number_snoc 0 a (zero_digit + d));
    }

module _ (most n : ℕ) (a : List ℕ) (fits : n ≤ most) (p : Says a n) where
  -- before a comma, and at the end of a line
  pub read_more : (l : List ℕ) → field_of most (a ++ (comma ∷ l)) ≡ Some (more n (length a + 1))
  unfolding field_of front
  read_more l =
      let e : front (a ++ (comma ∷ l)) ≡ a = front_digits a (comma ∷ l) (decimal_digits a p.plain) ∙ append-nil a in
      let k : length a < length (a ++ (comma ∷ l)) = omega (arith, length-append a (comma ∷ l)) in
      rw (e, p.plain, p.number, le-leb n most fits, lt-ltb _ _ k)

  pub read_last : field_of most a ≡ Some (last n)
  unfolding field_of front
  read_last =
      let e : front a ≡ a = ap front (sym (append-nil a)) ∙ front_digits a [] (decimal_digits a p.plain) ∙ append-nil a in
      rw (e, p.plain, p.number, le-leb n most fits, le-ltb (length a) (length a) (omega arith))
