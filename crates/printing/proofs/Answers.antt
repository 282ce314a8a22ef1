-- What the printer's proofs cite: the digits of a number are those of its tenth and its last one, as long as the count of digits allowed
-- is not used up; and texts that are put one behind another are put as one.
-- Assumes nothing.
use mathlib.Core.Path.{◌≡◌, refl, sym, ap, ◌∙◌}
use mathlib.Core.Bool.{Bool, true, false, cond}
use mathlib.Core.List.{List, [], ◌∷◌, ◌++◌, append_assoc}
use Prim.Native.Nat.{ℕ, zero, suc, ◌+◌, ◌*◌, ◌/◌, ◌%◌, ◌^◌, ◌≤◌, ◌<◌}
use native.Mathlib.Nat.{add-zero, add-suc, suc-add}
use native.Mathlib.Omega.{arith}
use lib.Dec.{leb, ltb}
use lib.ListN.{length, set, length-append}
use lib.Seq.{sets, length-sets}
use borrow.Author.Tests.{lt-ltb, le-ltb, le-leb}
use Rattle.fields.specs.Bytes.{comma, zero_digit, CR, LF}
use Rattle.printing.specs.Inner.{Put}
use Rattle.printing.specs.Answers.{digits_by, digits_of, answer_line, answer_of, put_of, field_room, answer_room}

-- numbers of at most f + 1 digits are below this
abbrev pub limit : ℕ → ℕ
limit zero = 10
limit (suc f) = 10 * limit f

-- one more digit allowed changes nothing
enough : (f n : ℕ) → n < limit f → digits_by (suc f) n ≡ digits_by (suc (suc f)) n
unfolding digits_by
enough zero n h = simp (lt-ltb n 10 h)
enough (suc f) n h =
    ap (λ (l : List ℕ). cond (ltb n 10) ((zero_digit + n) ∷ []) (l ++ ((zero_digit + n % 10) ∷ []))) (enough f (n / 10) (omega arith))

pub digits_small : (n : ℕ) → n < 10 → digits_of n ≡ (zero_digit + n) ∷ []
unfolding digits_of digits_by
digits_small n h = simp (lt-ltb n 10 h)

pub digits_more : (n : ℕ) → 10 ≤ n → n < 2 ^ 64 → digits_of n ≡ digits_of (n / 10) ++ ((zero_digit + n % 10) ∷ [])
unfolding digits_of digits_by
digits_more n h b =
    ap (λ (t : Bool). cond t ((zero_digit + n) ∷ []) (digits_by 19 (n / 10) ++ ((zero_digit + n % 10) ∷ []))) (le-ltb n 10 h)
    ∙ ap (λ (l : List ℕ). l ++ ((zero_digit + n % 10) ∷ [])) (enough 18 (n / 10) (omega arith))

pub length_small : (n : ℕ) → n < 10 → length (digits_of n) ≡ 1
length_small n h = rw (digits_small n h)

pub length_more : (n : ℕ) → 10 ≤ n → n < 2 ^ 64 → length (digits_of n) ≡ length (digits_of (n / 10)) + 1
length_more n h b = rw (digits_more n h b) (length-append (digits_of (n / 10)) ((zero_digit + n % 10) ∷ []))

at_most : (f n : ℕ) → length (digits_by f n) ≤ f
unfolding digits_by
at_most zero n = omega arith
at_most (suc f) n = go (ltb n 10) (at_most f (n / 10))
  where
    go : (t : Bool) → length (digits_by f (n / 10)) ≤ f
        → length (cond t ((zero_digit + n) ∷ []) (digits_by f (n / 10) ++ ((zero_digit + n % 10) ∷ []))) ≤ suc f
    go true h = omega arith
    go false h = omega (arith, length-append (digits_by f (n / 10)) ((zero_digit + n % 10) ∷ []))

pub twenty : (n : ℕ) → length (digits_of n) ≤ 20
unfolding digits_of
twenty n = at_most 20 n

pub sets_append : (l : List ℕ) (i : ℕ) (a b : List ℕ) → sets l i (a ++ b) ≡ sets (sets l i a) (i + length a) b
sets_append l i [] b = rw add-zero
sets_append l i (x ∷ a) b = sets_append (set l i x) (suc i) a b ∙ rw (add-suc, suc-add)

pub put_all : (room : ℕ) (out : List ℕ) (at : ℕ) (text : List ℕ) → at + room ≤ length out → put_of room out at text ≡ (at + length text, sets out at text)
unfolding put_of
put_all room out at text h = simp (le-leb (at + room) (length out) h)

pub put_none : (room : ℕ) (out : List ℕ) (at : ℕ) (text : List ℕ) → leb (at + room) (length out) ≡ false → (at, out) ≡ put_of room out at text
unfolding put_of
put_none room out at text e = rw e

-- what is put where there is room, and what is put behind it
module _ {out : List ℕ} {at : ℕ} {text : List ℕ} {next : ℕ} {out' : List ℕ} where
  pub put_is : (room : ℕ) → at + room ≤ length out → Put out at text next out' → (next, out') ≡ put_of room out at text
  put_is room h p = rw (p.ends, p.holds) (sym (put_all room out at text h))

  pub put_was : (room : ℕ) → at + room ≤ length out → (next, out') ≡ put_of room out at text → Put out at text next out'
  put_was room h e =
      let p = e ∙ put_all room out at text h in
      record { ends = ap (λ (q : ℕ × List ℕ). q.0) p; holds = ap (λ (q : ℕ × List ℕ). q.1) p }

  pub put_then : Put out at text next out' → {text' : List ℕ} {last : ℕ} {out'' : List ℕ} → Put out' next text' last out''
      → Put out at (text ++ text') last out''
  put_then p {text'} q =
      record {
        ends = omega (arith, p.ends, q.ends, length-append text text');
        holds = q.holds ∙ rw (p.holds, p.ends) (sym (sets_append out at text text'));
      }

  pub put_byte : Put out at text next out' → (b : ℕ) → Put out at (text ++ (b ∷ [])) (next + 1) (set out' next b)
  put_byte p b = put_then p (record { ends = refl; holds = refl })

  pub put_length : Put out at text next out' → length out' ≡ length out
  put_length p = ap length p.holds ∙ length-sets out at text

-- a number with a byte behind it
abbrev field : ℕ → ℕ → List ℕ
field n b = digits_of n ++ (b ∷ [])

pub field_length : (n b : ℕ) → length (field n b) ≤ field_room
field_length n b = omega (arith, length-append (digits_of n) (b ∷ []), twenty n)

-- three of them where there is room for an answer
module _ (out : List ℕ) (at n₁ n₂ n₃ b₁ b₂ b₃ : ℕ) (room : at + answer_room ≤ length out) where
  abbrev two : List ℕ
  two = field n₁ b₁ ++ field n₂ b₂

  two_length : length two ≤ field_room + field_room
  two_length = omega (arith, length-append (field n₁ b₁) (field n₂ b₂), field_length n₁ b₁, field_length n₂ b₂)

  pub three_length : length (two ++ field n₃ b₃) < answer_room
  three_length = omega (arith, length-append two (field n₃ b₃), two_length, field_length n₃ b₃)

  pub three_put : {k₁ k₂ k₃ : ℕ} {o₁ o₂ o₃ : List ℕ}
      → (k₁, o₁) ≡ put_of field_room out at (field n₁ b₁)
      → (k₂, o₂) ≡ put_of field_room o₁ k₁ (field n₂ b₂)
      → (k₃, o₃) ≡ put_of field_room o₂ k₂ (field n₃ b₃)
      → Put out at (two ++ field n₃ b₃) k₃ o₃
  three_put e₁ e₂ e₃ =
      let p₁ : Put out at (field n₁ b₁) _ _ = put_was field_room (omega arith) e₁ in
      let p₂ : Put out at two _ _ = put_then p₁ (put_was field_room (omega (arith, p₁.ends, put_length p₁, field_length n₁ b₁)) e₂) in
      put_then p₂ (put_was field_room (omega (arith, p₂.ends, put_length p₂, two_length)) e₃)

pub answer_text : (number code value : ℕ)
    → (((digits_of number ++ (comma ∷ [])) ++ (digits_of code ++ (comma ∷ []))) ++ (digits_of value ++ (CR ∷ []))) ++ (LF ∷ []) ≡ answer_of number code value
unfolding answer_of answer_line
answer_text number code value = simp append_assoc
