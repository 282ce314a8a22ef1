-- What a driver that scans a chunk piece by piece may rely on: a scan is the steps over the bytes that it used, it stops behind the
-- first line that ends or behind the last byte, and it uses a byte where there is one.
-- Assumes nothing.
use mathlib.Core.Path.{◌≡◌, refl, sym, ap}
use mathlib.Core.Bool.{Bool, true, false, cond}
use mathlib.Core.List.{List, [], ◌∷◌, append-nil}
use Prim.Native.Nat.{ℕ, suc, ◌+◌, ◌-◌, ◌≤◌, ◌<◌}
use native.Mathlib.Omega.{arith}
use lib.Dec.{eqb, leb, ltb}
use lib.ListN.{length, length-append, take, set}
use lib.Seq.{take-nil}
use Rattle.fields.specs.Bytes.{CR, LF}
use Rattle.cutting.specs.Steps.{spoilt_of, waiting_of, holding_of, still_of, ended_of, ending_of, ends_of, step_of, close_of, scan_from, scan_of, text_in, after, found}
use Rattle.cutting.specs.declared.Reading.{Reading}
use Rattle.cutting.specs.declared.Stepped.{Stepped}
use Rattle.cutting.specs.declared.Scanned.{Scanned}
use Rattle.cutting.specs.declared.Found.{Found}
use Rattle.cutting.specs.declared.Found.TheVariants.{Nothing, Bad, Whole}
use Rattle.cutting.proofs.Steps.{scan_ends, scan_goes}

-- what a scan of s is, where i bytes have passed before
pub record Scan (i : ℕ) (r : Reading) (held s : List ℕ) (t : Scanned) (held' : List ℕ) : Type 0 where
  pub from : i ≤ t.used
  pub within : t.used ≤ i + length s
  pub moves : 0 < length s → i < t.used
  pub whole : t.found ≡ Nothing → t.used ≡ i + length s
  pub after_is : after r held (take (t.used - i) s) ≡ (t.reading, held')
  pub found_is : found r held (take (t.used - i) s) ≡ text_in held' t.found

pub ends_not : (f : Found) → ends_of f ≡ false → f ≡ Nothing
ends_not Nothing e = refl
ends_not Bad e = let z : ◌≡◌ {A = ℕ} 0 1 = cc in let o : ⊥ = omega arith in absurd o
ends_not (Whole n) e = let z : ◌≡◌ {A = ℕ} 0 1 = cc in let o : ⊥ = omega arith in absurd o

ends_some : (f : Found) → ends_of f ≡ true → f ≡ Nothing → ⊥
ends_some f e g = let h : ends_of f ≡ false = ap ends_of g in let z : ◌≡◌ {A = ℕ} 0 1 = cc in omega arith

-- the first step, and the scan of the rest behind it
module _ (i : ℕ) (r : Reading) (held : List ℕ) (b : ℕ) (s : List ℕ) where
  abbrev t : Stepped
  t = (step_of r held b).0

  abbrev held' : List ℕ
  held' = (step_of r held b).1

  stops : ends_of t.found ≡ true → Scan i r held (b ∷ s) (record { reading = t.reading; found = t.found; used = i + 1 }) held'
  unfolding after found
  stops e =
      let one : i + 1 - i ≡ 1 = omega arith in
      record {
        from = omega arith;
        within = omega arith;
        moves = λ h. omega arith;
        whole = λ g. absurd (ends_some t.found e g);
        after_is = rw one;
        found_is = rw one (append-nil (text_in held' t.found));
      }

  goes : (u : Scanned) (last : List ℕ) → ends_of t.found ≡ false → Scan (i + 1) t.reading held' s u last → Scan i r held (b ∷ s) u last
  unfolding after found
  goes u last e p =
      let k : u.used - i ≡ suc (u.used - (i + 1)) = omega (arith, p.from) in
      record {
        from = omega (arith, p.from);
        within = omega (arith, p.within);
        moves = λ h. omega (arith, p.from);
        whole = λ g. omega (arith, p.whole g);
        after_is = rw k p.after_is;
        found_is = rw (k, ends_not t.found e) p.found_is;
      }

  by_first : (x : Bool) → ends_of t.found ≡ x
      → Scan (i + 1) t.reading held' s (scan_from (i + 1) t.reading held' s).0 (scan_from (i + 1) t.reading held' s).1
      → Scan i r held (b ∷ s) (scan_from i r held (b ∷ s)).0 (scan_from i r held (b ∷ s)).1
  by_first true e p = rw (scan_ends i r held b s t held' refl e) (stops e)
  by_first false e p = rw (scan_goes i r held b s t held' refl e) (goes _ _ e p)

pub scan_from_lem : (i : ℕ) (r : Reading) (held s : List ℕ) → Scan i r held s (scan_from i r held s).0 (scan_from i r held s).1
unfolding scan_from after found
scan_from_lem i r held [] =
    record {
      from = omega arith;
      within = omega arith;
      moves = λ h. let o : ⊥ = omega arith in absurd o;
      whole = λ g. omega arith;
      after_is = rw take-nil;
      found_is = rw take-nil;
    }
scan_from_lem i r held (b ∷ s) =
    by_first i r held b s (ends_of (step_of r held b).0.found) refl (scan_from_lem (i + 1) (step_of r held b).0.reading (step_of r held b).1 s)

pub scan_is : (r : Reading) (held s : List ℕ) → Scan 0 r held s (scan_of r held s).0 (scan_of r held s).1
scan_is r held s = scan_from_lem 0 r held s

-- "line number (from 1)": a reading's number counts the lines that were found
module _ (r : Reading) (held : List ℕ) (b : ℕ) where
  ending_one : (x y : Bool) → r.bad ≡ x → eqb r.len 0 ≡ y → length (text_in held (ending_of r)) ≡ 1
  ending_one true y e f = rw e
  ending_one false true e f = rw (e, f)
  ending_one false false e f = rw (e, f)

  abbrev Counts : Stepped × List ℕ → Type 0
  Counts p = p.0.reading.number ≡ r.number + length (text_in p.1 p.0.found)

  pub step_counts : Counts (step_of r held b)
  unfolding step_of
  step_counts = go (leb r.most r.number) (eqb b LF) (eqb b CR) r.cr (ltb r.len (length held))
    where
      go : (stop lf cr waits free : Bool)
          → Counts (cond stop (still_of r, held)
          (cond lf (cond waits (ended_of r (ending_of r)) (still_of (spoilt_of r false)), held)
          (cond cr (still_of (cond waits (spoilt_of r true) (waiting_of r)), held)
          (cond waits (still_of (spoilt_of r false), held)
          (cond free (still_of (holding_of r (r.len + 1)), set held r.len b) (still_of (spoilt_of r false), held))))))
      go true lf cr waits free = omega arith
      go false true cr true free = ap (λ (k : ℕ). r.number + k) (sym (ending_one r.bad (eqb r.len 0) refl refl))
      go false true cr false free = omega arith
      go false false true true free = omega arith
      go false false true false free = omega arith
      go false false false true free = omega arith
      go false false false false true = omega arith
      go false false false false false = omega arith

pub number_counts : (r : Reading) (held s : List ℕ) → (after r held s).0.number ≡ r.number + length (found r held s)
unfolding after found
number_counts r held [] = omega arith
number_counts r held (b ∷ s) =
    let p = step_counts r held b in
    let q = number_counts (step_of r held b).0.reading (step_of r held b).1 s in
    omega (arith, p, q, length-append (text_in (step_of r held b).1 (step_of r held b).0.found) (found (step_of r held b).0.reading (step_of r held b).1 s))

-- and so does the one behind a last line
pub close_counts : (r : Reading) (held : List ℕ) → (close_of r).reading.number ≡ r.number + length (text_in held (close_of r).found)
unfolding close_of
close_counts r held = go (leb r.most r.number) r.cr r.bad (eqb r.len 0)
  where
    go : (stop waits bad none : Bool) →
        let t : Stepped = cond stop (still_of r) (cond waits (ended_of r Bad) (cond bad (ended_of r Bad) (cond none (still_of r) (ended_of r (Whole r.len))))) in
        t.reading.number ≡ r.number + length (text_in held t.found)
    go true waits bad none = omega arith
    go false true bad none = omega arith
    go false false true none = omega arith
    go false false false true = omega arith
    go false false false false = omega arith
