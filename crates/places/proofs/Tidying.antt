-- The table's moves leave a whole table whole and a tidy one tidy: a place that is vacated is blank.
-- Assumes nothing.
use mathlib.Core.Logic.{◌≢◌}
use mathlib.Core.Path.{◌≡◌, refl, sym, ap, ◌∙◌}
use mathlib.Core.Bool.{Bool}
use mathlib.Core.List.{List, ◌++◌}
use Prim.Native.Nat.{ℕ, zero, suc, ◌+◌, ◌-◌, ◌≤◌, ◌<◌}
use native.Mathlib.Omega.{arith}
use borrow.Author.Tests.{eqb-true, eqb-false, ltb-true, ltb-false}
use lib.Dec.{eqb, ltb}
use lib.ListN.{length, drop, get_or, set, replicate, length-append, length-set, length-drop, length-replicate, get_or-replicate, get_or-append}
use lib.Seq.{get_or-set_same, get_or-set_other, get_or-append-add, get_or-drop}
use Rattle.subscription.specs.declared.Subscription.{Subscription}
use Rattle.places.specs.declared.Table.{Table}
use Rattle.subscription.specs.Life.{blank}
use Rattle.places.specs.Views.{fresh_table}
use Rattle.places.specs.Tidiness.{Whole, Tidy, Lasting}
use Rattle.places.specs.Moves.{swapped, taken_out, stored_last, opened_up, closed_at, swept_from, swept_out, emptied}
use Rattle.lists.proofs.Bools.{split}

-- a place that was blanked is blank, and any other is as it was
set_blank : (l : List Subscription) (j i : ℕ) → j < length l → (i ≢ j → get_or l i blank ≡ blank) → get_or (set l j blank) i blank ≡ blank
set_blank l j i h g =
    split (eqb i j)
    (λ e. rw (eqb-true i j e) (get_or-set_same l j blank blank h))
    (λ e. get_or-set_other l j i blank blank (eqb-false i j e) ∙ g (eqb-false i j e))

length_set_twice : (l : List Subscription) (i j : ℕ) (x y : Subscription) → length (set (set l i x) j y) ≡ length l
length_set_twice l i j x y = length-set (set l i x) j y ∙ length-set l i x

-- what a sweep leaves: as many places, no more of them held, and blank from the last held one up to where it was blank
record Left (n rim : ℕ) (l places : List Subscription) (count : ℕ) : Type 0 where
  long : length places ≡ length l
  fewer : count ≤ n
  beyond : ((k : ℕ) → n ≤ k → k < rim → get_or l k blank ≡ blank) → (k : ℕ) → count ≤ k → k < rim → get_or places k blank ≡ blank

swept_left : (p : Subscription → Bool) (rim f i n : ℕ) (l : List Subscription) → n - i ≡ f → n ≤ length l
    → Left n rim l (swept_from p f i n l).places (swept_from p f i n l).count
unfolding swept_from
swept_left p rim zero i n l e room = record { long = refl; fewer = omega arith; beyond = λ g. g }
swept_left p rim (suc f) i n l e room =
    let last = get_or l (n - 1) blank in
    let m = set l i last in
    let size = length_set_twice l i (n - 1) last blank in
    split (p (get_or l i blank))
    (λ t. rw (t, swept_from)
    (let a = swept_left p rim f i (n - 1) (swapped l n i) (omega arith) (omega (arith, size)) in
    record {
      long = a.long ∙ size;
      fewer = omega (arith, a.fewer);
      beyond = λ g. a.beyond
          (λ k lo hi. set_blank m (n - 1) k (omega (arith, length-set l i last))
          (λ ne. get_or-set_other l i k last blank (λ same. omega (arith, same, ne)) ∙ g k (omega (arith, ne)) hi));
    }))
    (λ t. rw (t, swept_from) (swept_left p rim f (i + 1) n l (omega arith) room))

module _ (t : Table) (h : Whole t) where
  taken_whole : (i : ℕ) → i < t.stored → Whole (taken_out t i)
  unfolding taken_out
  taken_whole i w = record {
    long = length_set_twice t.places i (t.stored - 1) (get_or t.places (t.stored - 1) blank) blank ∙ h.long;
    fits = omega (arith, h.fits);
  }

  stored_whole : (x : Subscription) → t.stored + t.opens < 80 → Whole (stored_last t x)
  unfolding stored_last
  stored_whole x w = record { long = length-set t.places t.stored x ∙ h.long; fits = omega arith }

  opened_whole : (x : Subscription) → t.stored + t.opens < 80 → Whole (opened_up t x)
  unfolding opened_up
  opened_whole x w = record { long = length-set t.places (79 - t.opens) x ∙ h.long; fits = omega arith }

  closed_whole : (j : ℕ) → Whole (closed_at t j)
  unfolding closed_at
  closed_whole j = record {
    long = length_set_twice t.places j (80 - t.opens) (get_or t.places (80 - t.opens) blank) blank ∙ h.long;
    fits = omega (arith, h.fits);
  }

  swept_all : (p : Subscription → Bool)
      → Left t.stored (80 - t.opens) t.places (swept_from p t.stored 0 t.stored t.places).places
      (swept_from p t.stored 0 t.stored t.places).count
  swept_all p = swept_left p (80 - t.opens) t.stored 0 t.stored t.places (omega arith) (omega (arith, h.long, h.fits))

  swept_whole : (p : Subscription → Bool) → Whole (swept_out p t)
  unfolding swept_out
  swept_whole p = record { long = (swept_all p).long ∙ h.long; fits = omega (arith, h.fits, (swept_all p).fewer) }

  emptied_whole : Whole (emptied t)
  unfolding emptied
  emptied_whole = record {
    long = length-append (replicate t.stored blank) (drop t.stored t.places)
        ∙ omega (arith, length-replicate t.stored blank, length-drop t.stored t.places, h.long, h.fits);
    fits = omega (arith, h.fits);
  }

module _ (t : Table) (h : Tidy t) where
  taken_tidy : (i : ℕ) → i < t.stored → Tidy (taken_out t i)
  unfolding taken_out
  taken_tidy i w =
      let last = get_or t.places (t.stored - 1) blank in
      let m = set t.places i last in
      let size : length m ≡ 80 = length-set t.places i last ∙ h.whole.long in
      let f = h.whole.fits in
      record {
        whole = taken_whole t h.whole i w;
        between = λ k lo hi. set_blank m (t.stored - 1) k (omega arith)
            (λ ne. get_or-set_other t.places i k last blank (λ e. omega (arith, e)) ∙ h.between k (omega arith) hi);
      }

  stored_tidy : (x : Subscription) → t.stored + t.opens < 80 → Tidy (stored_last t x)
  unfolding stored_last
  stored_tidy x w = record {
    whole = stored_whole t h.whole x w;
    between = λ k lo hi. get_or-set_other t.places t.stored k x blank (λ e. omega (arith, e)) ∙ h.between k (omega arith) hi;
  }

  opened_tidy : (x : Subscription) → t.stored + t.opens < 80 → Tidy (opened_up t x)
  unfolding opened_up
  opened_tidy x w = record {
    whole = opened_whole t h.whole x w;
    between = λ k lo hi. get_or-set_other t.places (79 - t.opens) k x blank (λ e. omega (arith, e)) ∙ h.between k lo (omega arith);
  }

  closed_tidy : (j : ℕ) → 80 - t.opens ≤ j → j < 80 → Tidy (closed_at t j)
  unfolding closed_at
  closed_tidy j lo hi =
      let n = 80 - t.opens in
      let newest = get_or t.places n blank in
      let m = set t.places j newest in
      let size : length m ≡ 80 = length-set t.places j newest ∙ h.whole.long in
      let f = h.whole.fits in
      record {
        whole = closed_whole t h.whole j;
        between = λ k a b. set_blank m n k (omega arith)
            (λ ne. get_or-set_other t.places j k newest blank (λ e. omega (arith, e, ne)) ∙ h.between k a (omega (arith, ne)));
      }

  swept_tidy : (p : Subscription → Bool) → Tidy (swept_out p t)
  unfolding swept_out
  swept_tidy p = record { whole = swept_whole t h.whole p; between = (swept_all t h.whole p).beyond h.between }

  emptied_tidy : Tidy (emptied t)
  unfolding emptied
  emptied_tidy =
      let n = t.stored in
      let blanks = replicate n blank in
      let rest = drop n t.places in
      let many = length-replicate n blank in
      record {
        whole = emptied_whole t h.whole;
        between = λ k lo hi. split (ltb k n)
            (λ u. get_or-append blanks rest blank k (omega (arith, many, ltb-true k n u)) ∙ get_or-replicate n k blank blank (ltb-true k n u))
            (λ u. let beyond = ltb-false k n u in
            let from : length blanks + (k - n) ≡ k = omega arith in
            let back : n + (k - n) ≡ k = omega arith in
            ap (λ i. get_or (blanks ++ rest) i blank) (sym from)
            ∙ get_or-append-add blanks rest (k - n) blank
            ∙ get_or-drop n t.places (k - n) blank
            ∙ ap (λ i. get_or t.places i blank) back
            ∙ h.between k beyond hi);
      }

pub whole_lasts : Lasting Whole
whole_lasts = record {
  wholly = λ t h. h;
  again = λ t u p s o h. record { long = rw p h.long; fits = rw (s, o) h.fits };
  taken = taken_whole;
  stored = stored_whole;
  opened = opened_whole;
  closed = λ t h j lo hi. closed_whole t h j;
  swept = swept_whole;
  emptied = emptied_whole;
}

pub tidy_lasts : Lasting Tidy
tidy_lasts = record {
  wholly = λ t h. h.whole;
  again = λ t u p s o h. record {
    whole = record { long = rw p h.whole.long; fits = rw (s, o) h.whole.fits };
    between = rw (p, s, o) h.between;
  };
  taken = taken_tidy;
  stored = stored_tidy;
  opened = opened_tidy;
  closed = closed_tidy;
  swept = swept_tidy;
  emptied = emptied_tidy;
}

-- "all empty in a fresh state"
pub fresh_tidy : (capacity : ℕ) → Tidy (fresh_table capacity)
fresh_tidy capacity = record {
  whole = record { long = length-replicate 80 blank; fits = omega arith };
  between = λ i lo hi. get_or-replicate 80 i blank blank hi;
}
