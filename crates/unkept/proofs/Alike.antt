-- What the derived equality says of two subscriptions, of two entries and of two lists: that they are one.
-- Assumes nothing.
use Rattle.std.proofs.Common.{rules, ◌≡◌, ℕ, Bool, true, true≢false, List, [], ◌∷◌, ◌&&◌, refl, sym, eqb}
use Rattle.std.proofs.lemmas.Bool.{eqb-true}
use Rattle.entries.specs.contracts.ChangedAttrPartialEq.TheImpl as entry
use Rattle.entries.specs.declared.ChangedAttr.{ChangedAttr}
use Rattle.instants.specs.declared.Instant.{Instant}
use Rattle.lists.proofs.Bools.{and_both, and_left, and_right}
use Rattle.std.specs.Cmp.Lexicographic.{pointwise}
use Rattle.std.specs.contracts.prelude.BoolPartialEq.TheImpl as flag
use Rattle.subscription.specs.contracts.SubscriptionPartialEq.TheImpl as place
use Rattle.subscription.specs.declared.Subscription.{Subscription}

pub same_entry : (x y : ChangedAttr) → entry.eq-value.it x y ≡ true → x ≡ y
same_entry x y e = search rules

same_number : {m n : ℕ} → eqb m n ≡ true → m ≡ n
same_number e = eqb-true _ _ e

same_instant : {x y : Instant} → eqb x.ms y.ms ≡ true → x ≡ y
same_instant e = search rules

same_flag : {x y : Bool} → flag.ghosts.eq x y ≡ true → x ≡ y
same_flag e = search rules

-- of five joined tests each says yes
record Five (a b c d e : Bool) : Type 0 where
  first : a ≡ true
  second : b ≡ true
  third : c ≡ true
  fourth : d ≡ true
  rest : e ≡ true

five : (a b c d : Bool) {e : Bool} → (a && (b && (c && (d && e)))) ≡ true → Five a b c d e
five a b c d {e} h = record { first = search rules; second = search rules; third = search rules; fourth = search rules; rest = search rules }

-- subscriptions with the same fields
whole : (x y : Subscription) → x.peer ≡ y.peer → x.reported ≡ y.reported → x.retry ≡ y.retry → x.seen ≡ y.seen → x.heard ≡ y.heard
    → x.mark ≡ y.mark → x.events ≡ y.events → x.opened ≡ y.opened → x.id ≡ y.id → x.shortest ≡ y.shortest → x.longest ≡ y.longest
    → x.rx ≡ y.rx → x.fabric ≡ y.fabric → x.fails ≡ y.fails → x.reporting ≡ y.reporting → x ≡ y
whole x y a b c d e f g h i j k l m n o = search rules

-- the derived equality joins fifteen tests, in the fields' order
pub same_place : (x y : Subscription) → place.eq-value.it x y ≡ true → x ≡ y
same_place x y e =
    let p = five (eqb x.peer y.peer) (eqb x.reported.ms y.reported.ms) (eqb x.retry.ms y.retry.ms) (eqb x.seen y.seen) e in
    let q = five (eqb x.heard y.heard) (eqb x.mark y.mark) (eqb x.events y.events) (eqb x.opened.ms y.opened.ms) p.rest in
    let r = five (eqb x.id y.id) (eqb x.shortest y.shortest) (eqb x.longest y.longest) (eqb x.rx y.rx) q.rest in
    let fabric = and_both (eqb x.fabric y.fabric) _ r.rest in
    let fails = and_both (eqb x.fails y.fails) _ fabric.1 in
    whole x y (same_number p.first) (same_instant p.second) (same_instant p.third) (same_number p.fourth)
    (same_number q.first) (same_number q.second) (same_number q.third) (same_instant q.fourth)
    (same_number r.first) (same_number r.second) (same_number r.third) (same_number r.fourth)
    (same_number fabric.0) (same_number fails.0) (same_flag fails.1)

-- lists that are equal pair by pair are one, where equal elements are
module _ {A : Type 0} {E : A → A → Bool} (sound : (x y : A) → E x y ≡ true → x ≡ y) where
  pub alike : (xs ys : List A) → pointwise E xs ys ≡ true → xs ≡ ys
  alike [] [] e = refl
  alike [] (y ∷ ys) e = absurd (true≢false (sym e))
  alike (x ∷ xs) [] e = absurd (true≢false (sym e))
  alike (x ∷ xs) (y ∷ ys) e = λ i. sound x y (and_left _ _ e) i ∷ alike xs ys (and_right _ _ e) i
