-- The byte steps find the lines of the plain definition. At each byte the line so far is q, with a CR behind it that may wait; either q
-- stands whole among the held bytes, or it is bad whatever follows. So what is found of the rest is what `cut` makes of q and the rest.
-- Assumes nothing.
use mathlib.Core.Path.{◌≡◌, refl, sym, ap, ◌∙◌}
use mathlib.Core.Bool.{Bool, true, false}
use mathlib.Core.List.{List, [], ◌∷◌, ◌++◌, map, append-nil, append_assoc}
use Prim.Native.Nat.{ℕ, suc, ◌+◌, ◌-◌, ◌≤◌, ◌<◌}
use native.Mathlib.Numerals.{add-one}
use native.Mathlib.Omega.{arith}
use lib.Dec.{eqb, leb}
use lib.ListN.{length, length-append, length-set, take, set}
use lib.Seq.{take-nil, take-suc-set}
use borrow.Author.Tests.{eq-eqb, ne_eqb, eqb-true, eqb-false, leb-true, leb-false}
use Rattle.fields.specs.Bytes.{CR, LF}
use Rattle.cutting.specs.Cuts.{onto, cut, holds_lone, Text, bad, judge, texts_of}
use Rattle.cutting.specs.Steps.{fresh_of, spoilt_of, waiting_of, holding_of, ending_of, text_in, found, after, found_in}
use Rattle.cutting.specs.declared.Reading.{Reading}
use Rattle.cutting.proofs.Steps.{step_stopped, step_ended, step_lone_LF, step_lone_CR, step_waits, step_behind, step_held, step_full, close_stopped, close_CR, close_bad, close_none, close_whole, found_next}
use Rattle.cutting.proofs.Cuts.{prepend, prepend_snoc, prepend_cons, prepend_none, cut_onto, cut_lone, Lone, holds_lone_lem, holds_none, judge_lone, judge_long, judge_whole}

-- a line that begins with q is bad, whatever follows
pub record Foul (limit : ℕ) (q : List ℕ) : Type 0 where
  pub some : 0 < length q
  pub stays : (x : List ℕ) → judge limit (q ++ x) ≡ bad

foul_now : {limit : ℕ} {q : List ℕ} → Foul limit q → judge limit q ≡ bad
foul_now {limit} {q} f = ap (judge limit) (sym (append-nil q)) ∙ f.stays []

module _ (limit : ℕ) (q : List ℕ) (b : ℕ) where
  snoc_some : 0 < length (q ++ (b ∷ []))
  snoc_some = omega (arith, length-append q (b ∷ []))

  foul_on : Foul limit q → Foul limit (q ++ (b ∷ []))
  foul_on f = record { some = snoc_some; stays = λ x. rw append_assoc (f.stays (b ∷ x)) }

  foul_lone : Lone b → Foul limit (q ++ (b ∷ []))
  foul_lone h =
      record { some = snoc_some; stays = λ x. rw append_assoc (judge_lone limit (q ++ (b ∷ x)) (holds_lone_lem q b x h)) }

  foul_long : limit ≤ length q → Foul limit (q ++ (b ∷ []))
  foul_long h =
      record {
        some = snoc_some;
        stays = λ x. rw append_assoc (judge_long limit (q ++ (b ∷ x)) (omega (arith, length-append q (b ∷ x))));
      }

-- q stands among the held bytes and is no bad line yet
pub record Fair (r : Reading) (held q : List ℕ) : Type 0 where
  pub good : r.bad ≡ false
  pub count : r.len ≡ length q
  pub bytes : take (length q) held ≡ q
  pub fits : length q ≤ length held
  pub plain : holds_lone q ≡ false

-- what a reading holds of the line so far
pub data Kept (r : Reading) (held q : List ℕ) : Type 0 where
  fair : Fair r held q → Kept r held q
  foul : r.bad ≡ true → Foul (length held) q → Kept r held q

-- the line that ends with what is held is the line so far, judged
ending_is : (r : Reading) (held q : List ℕ) → Kept r held q → text_in held (ending_of r) ≡ judge (length held) q ∷ []
unfolding judge
ending_is r held q (foul b f) = rw (b, foul_now f)
ending_is r held [] (fair f) = rw (f.good, eq-eqb r.len 0 f.count)
ending_is r held (x ∷ q) (fair f) =
    let n : eqb r.len 0 ≡ false = ne_eqb r.len 0 (λ z. omega (arith, f.count)) in
    rw (f.good, n, judge_whole (length held) (x ∷ q) (omega arith) f.fits f.plain, f.count, f.bytes)

-- a CR that waits stands in front of what follows
abbrev pending : Bool → List ℕ → List ℕ
pending true s = CR ∷ s
pending false s = s

-- the lines that may still be read, judged
abbrev judged : Reading → List ℕ → List (List ℕ) → List Text
judged r held ls = take (r.most - r.number) (map (judge (length held)) ls)

abbrev Finds : List ℕ → Type 0
Finds s = (r : Reading) (held q : List ℕ) → Kept r held q → found_in r held s ≡ judged r held (prepend q (cut (pending r.cr s)))

stopped : (r : Reading) (held s : List ℕ) → r.most ≤ r.number → found_in r held s ≡ []
unfolding found_in found after
stopped r held [] h = rw (close_stopped r h)
stopped r held (b ∷ s) h = found_next r held b s _ held (step_stopped r held b h) ∙ stopped r held s h

one_more : (r : Reading) → r.number < r.most → r.most - r.number ≡ suc (r.most - (r.number + 1))
one_more r h = omega arith

-- one line, and no more
last_line : (r : Reading) (held l : List ℕ) → r.number < r.most → judged r held (l ∷ []) ≡ judge (length held) l ∷ []
last_line r held l h = rw (one_more r h) (ap (λ (t : List Text). judge (length held) l ∷ t) (take-nil (r.most - (r.number + 1))))

-- the end of the input
module _ (r : Reading) (held : List ℕ) (going : r.number < r.most) where
  end_CR : (q : List ℕ) → r.cr ≡ true → found_in r held [] ≡ judged r held (prepend q (cut (CR ∷ [])))
  unfolding found_in found after cut
  end_CR q c =
      rw (close_CR r going c, prepend_cons q (CR ∷ []) [])
      (sym (last_line r held (q ++ (CR ∷ [])) going ∙ ap (λ (t : Text). t ∷ []) (foul_now (foul_lone (length held) q CR refl))))

  end_else : (q : List ℕ) → Kept r held q → r.cr ≡ false → found_in r held [] ≡ judged r held (prepend q [])
  unfolding found_in found after
  end_else q (foul b f) c =
      rw (close_bad r going c b, prepend_none q f.some)
      (sym (last_line r held q going ∙ ap (λ (t : Text). t ∷ []) (foul_now f)))
  end_else [] (fair f) c = rw (close_none r going c f.good f.count, take-nil)
  end_else (x ∷ q) (fair f) c =
      let w = judge_whole (length held) (x ∷ q) (omega arith) f.fits f.plain in
      rw (close_whole r going c f.good (λ z. omega (arith, f.count)), prepend_none (x ∷ q) (omega arith), f.count, f.bytes)
      (sym (last_line r held (x ∷ q) going ∙ ap (λ (t : Text). t ∷ []) w))

-- what a reading holds after a step
fresh_kept : (most number : ℕ) (held : List ℕ) → Kept (fresh_of most number) held []
unfolding holds_lone
fresh_kept most number held = fair (record { good = refl; count = refl; bytes = refl; fits = omega arith; plain = refl })

waiting_kept : {r : Reading} {held q : List ℕ} → Kept r held q → Kept (waiting_of r) held q
waiting_kept (foul b f) = foul b f
waiting_kept (fair f) =
    fair (record { good = f.good; count = f.count; bytes = f.bytes; fits = f.fits; plain = f.plain })

full_foul : (r : Reading) (held q : List ℕ) (b : ℕ) → Kept r held q → length held ≤ r.len → Foul (length held) (q ++ (b ∷ []))
full_foul r held q b (foul x f) h = foul_on (length held) q b f
full_foul r held q b (fair f) h = foul_long (length held) q b (omega (arith, f.count))

holding_kept : (r : Reading) (held q : List ℕ) (b : ℕ) → Kept r held q → r.len < length held → (b ≡ LF → ⊥) → (b ≡ CR → ⊥)
    → Kept (holding_of r (r.len + 1)) (set held r.len b) (q ++ (b ∷ []))
holding_kept r held q b (foul x f) h other plain = foul x (rw length-set (foul_on (length held) q b f))
holding_kept r held q b (fair f) h other plain =
    let n : length (q ++ (b ∷ [])) ≡ r.len + 1 = length-append q (b ∷ []) ∙ ap (λ (k : ℕ). k + 1) (sym f.count) in
    let t : take r.len held ≡ q = rw f.count f.bytes in
    fair (record {
      good = f.good;
      count = sym n;
      bytes = rw (n, add-one) (take-suc-set held r.len b h ∙ ap (λ (l : List ℕ). l ++ (b ∷ [])) t);
      fits = rw length-set (omega (arith, f.count));
      plain = holds_none q b f.plain other plain;
    })

-- a byte, by what it is and whether a CR waits
module _ (r : Reading) (held q : List ℕ) (kept : Kept r held q) (going : r.number < r.most) (s : List ℕ) (ih : Finds s) where
  same : {ls ls' : List (List ℕ)} → ls ≡ ls' → judged r held ls ≡ judged r held ls'
  same e = ap (judged r held) e

  at_end : r.cr ≡ true → found_in r held (LF ∷ s) ≡ judged r held (prepend q (cut (CR ∷ LF ∷ s)))
  unfolding cut
  at_end c =
      rw (prepend_cons q [] (cut s), append-nil q, one_more r going)
      (found_next r held LF s _ held (step_ended r held LF going refl c)
      ∙ ap (λ (t : List Text). t ++ found_in (fresh_of r.most (r.number + 1)) held s) (ending_is r held q kept)
      ∙ ap (λ (t : List Text). judge (length held) q ∷ t) (ih (fresh_of r.most (r.number + 1)) held [] (fresh_kept r.most (r.number + 1) held)))

  at_LF : r.cr ≡ false → found_in r held (LF ∷ s) ≡ judged r held (prepend q (cut (LF ∷ s)))
  at_LF c =
      found_next r held LF s _ held (step_lone_LF r held LF going refl c)
      ∙ ih (spoilt_of r false) held (q ++ (LF ∷ [])) (foul refl (foul_lone (length held) q LF refl))
      ∙ same (prepend_snoc q LF (cut s) ∙ ap (prepend q) (sym (cut_onto LF s (λ z. omega arith))))

  at_CR_again : r.cr ≡ true → found_in r held (CR ∷ s) ≡ judged r held (prepend q (cut (CR ∷ CR ∷ s)))
  at_CR_again c =
      found_next r held CR s _ held (step_lone_CR r held CR going (λ z. omega arith) refl c)
      ∙ ih (spoilt_of r true) held (q ++ (CR ∷ [])) (foul refl (foul_lone (length held) q CR refl))
      ∙ same (prepend_snoc q CR (cut (CR ∷ s)) ∙ ap (prepend q) (sym (cut_lone CR CR s (λ z. omega arith))))

  at_CR : r.cr ≡ false → found_in r held (CR ∷ s) ≡ judged r held (prepend q (cut (CR ∷ s)))
  at_CR c =
      found_next r held CR s _ held (step_waits r held CR going (λ z. omega arith) refl c)
      ∙ ih (waiting_of r) held q (waiting_kept kept)

  module _ (b : ℕ) (other : b ≡ LF → ⊥) (plain : b ≡ CR → ⊥) where
    at_behind : r.cr ≡ true → found_in r held (b ∷ s) ≡ judged r held (prepend q (cut (CR ∷ b ∷ s)))
    at_behind c =
        found_next r held b s _ held (step_behind r held b going other plain c)
        ∙ ih (spoilt_of r false) held ((q ++ (CR ∷ [])) ++ (b ∷ [])) (foul refl (foul_on (length held) (q ++ (CR ∷ [])) b (foul_lone (length held) q CR refl)))
        ∙ same (prepend_snoc (q ++ (CR ∷ [])) b (cut s) ∙ prepend_snoc q CR (onto b (cut s))
        ∙ ap (prepend q) (ap (onto CR) (sym (cut_onto b s plain)) ∙ sym (cut_lone CR b s other)))

    in_front : judged r held (prepend (q ++ (b ∷ [])) (cut s)) ≡ judged r held (prepend q (cut (b ∷ s)))
    in_front = same (prepend_snoc q b (cut s) ∙ ap (prepend q) (sym (cut_onto b s plain)))

    at_other : r.cr ≡ false → (t : Bool) → leb (length held) r.len ≡ t → found_in r held (b ∷ s) ≡ judged r held (prepend q (cut (b ∷ s)))
    at_other c true e =
        let h = leb-true (length held) r.len e in
        found_next r held b s _ held (step_full r held b going other plain c h)
        ∙ ih (spoilt_of r false) held (q ++ (b ∷ [])) (foul refl (full_foul r held q b kept h))
        ∙ in_front
    at_other c false e =
        let h = leb-false (length held) r.len e in
        let p = ih (holding_of r (r.len + 1)) (set held r.len b) (q ++ (b ∷ [])) (holding_kept r held q b kept h other plain) in
        found_next r held b s _ (set held r.len b) (step_held r held b going other plain c h)
        ∙ (rw length-set at p)
        ∙ rw c in_front

  at_byte : (b : ℕ) (l f c : Bool) → eqb b LF ≡ l → eqb b CR ≡ f → r.cr ≡ c → found_in r held (b ∷ s) ≡ judged r held (prepend q (cut (pending c (b ∷ s))))
  at_byte b true f true e g c = rw (eqb-true b LF e) (at_end c)
  at_byte b true f false e g c = rw (eqb-true b LF e) (at_LF c)
  at_byte b false true true e g c = rw (eqb-true b CR g) (at_CR_again c)
  at_byte b false true false e g c = rw (eqb-true b CR g) (at_CR c)
  at_byte b false false true e g c = at_behind b (eqb-false b LF e) (eqb-false b CR g) c
  at_byte b false false false e g c = at_other b (eqb-false b LF e) (eqb-false b CR g) c (leb (length held) r.len) refl

at_last : (r : Reading) (held q : List ℕ) → Kept r held q → r.number < r.most → (c : Bool) → r.cr ≡ c
    → found_in r held [] ≡ judged r held (prepend q (cut (pending c [])))
unfolding cut
at_last r held q kept going true e = end_CR r held going q e
at_last r held q kept going false e = end_else r held going q kept e

finds_by : (r : Reading) (held s : List ℕ) (ls : List (List ℕ)) (t : Bool) → leb r.most r.number ≡ t
    → (r.number < r.most → found_in r held s ≡ judged r held ls)
    → found_in r held s ≡ judged r held ls
finds_by r held s ls true e f =
    let h = leb-true r.most r.number e in let z : r.most - r.number ≡ 0 = omega arith in rw z (stopped r held s h)
finds_by r held s ls false e f = f (leb-false r.most r.number e)

finds : (s : List ℕ) → Finds s
finds [] r held q kept =
    finds_by r held [] (prepend q (cut (pending r.cr []))) (leb r.most r.number) refl (λ going. at_last r held q kept going r.cr refl)
finds (b ∷ s) r held q kept =
    finds_by r held (b ∷ s) (prepend q (cut (pending r.cr (b ∷ s)))) (leb r.most r.number) refl
    (λ going. at_byte r held q kept going s (finds s) b (eqb b LF) (eqb b CR) r.cr refl refl refl)

-- the byte steps over a whole input, from the start to its end, find the lines of the plain definition; what the lent buffer holds at
-- first does not matter
pub cut_found : (most : ℕ) (held s : List ℕ) → found_in (fresh_of most 0) held s ≡ texts_of (length held) most s
unfolding texts_of
cut_found most held s =
    let z : most - 0 ≡ most = omega arith in
    finds s (fresh_of most 0) held [] (fresh_kept most 0 held) ∙ ap (λ (k : ℕ). take k (map (judge (length held)) (cut s))) z
