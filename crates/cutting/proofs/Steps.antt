-- The step and the close, case by case, as their tests stand; and what a chunk leads to is what its parts lead to one after the other.
-- Assumes nothing.
use mathlib.Core.Path.{◌≡◌, refl, sym, ap, ◌∙◌}
use mathlib.Core.Bool.{true, false, cond}
use mathlib.Core.List.{List, [], ◌∷◌, ◌++◌, append_assoc}
use Prim.Native.Nat.{ℕ, ◌+◌, ◌≤◌, ◌<◌}
use lib.ListN.{length, set}
use borrow.Author.Tests.{eq-eqb, ne_eqb, lt-ltb, le-ltb, le-leb, lt-leb}
use Rattle.fields.specs.Bytes.{CR, LF}
use Rattle.cutting.specs.Cuts.{Text}
use Rattle.cutting.specs.Steps.{still_of, ended_of, ending_of, spoilt_of, waiting_of, holding_of, ends_of, step_of, scan_from, close_of, text_in, after, found, found_in}
use Rattle.cutting.specs.declared.Reading.{Reading}
use Rattle.cutting.specs.declared.Stepped.{Stepped}
use Rattle.cutting.specs.declared.Scanned.{Scanned}
use Rattle.cutting.specs.declared.Found.TheVariants.{Nothing, Bad, Whole}

module _ (r : Reading) (held : List ℕ) (b : ℕ) where
  pub step_stopped : r.most ≤ r.number → step_of r held b ≡ (still_of r, held)
  unfolding step_of
  step_stopped h = rw (le-leb r.most r.number h)

  module _ (going : r.number < r.most) where
    pub step_ended : b ≡ LF → r.cr ≡ true → step_of r held b ≡ (ended_of r (ending_of r), held)
    unfolding step_of
    step_ended e c = rw (lt-leb r.most r.number going, eq-eqb b LF e, c)

    pub step_lone_LF : b ≡ LF → r.cr ≡ false → step_of r held b ≡ (still_of (spoilt_of r false), held)
    unfolding step_of
    step_lone_LF e c = rw (lt-leb r.most r.number going, eq-eqb b LF e, c)

    module _ (other : b ≡ LF → ⊥) where
      pub step_lone_CR : b ≡ CR → r.cr ≡ true → step_of r held b ≡ (still_of (spoilt_of r true), held)
      unfolding step_of
      step_lone_CR e c = rw (lt-leb r.most r.number going, ne_eqb b LF other, eq-eqb b CR e, c)

      pub step_waits : b ≡ CR → r.cr ≡ false → step_of r held b ≡ (still_of (waiting_of r), held)
      unfolding step_of
      step_waits e c = rw (lt-leb r.most r.number going, ne_eqb b LF other, eq-eqb b CR e, c)

      module _ (plain : b ≡ CR → ⊥) where
        pub step_behind : r.cr ≡ true → step_of r held b ≡ (still_of (spoilt_of r false), held)
        unfolding step_of
        step_behind c = rw (lt-leb r.most r.number going, ne_eqb b LF other, ne_eqb b CR plain, c)

        pub step_held : r.cr ≡ false → r.len < length held → step_of r held b ≡ (still_of (holding_of r (r.len + 1)), set held r.len b)
        unfolding step_of
        step_held c h =
            rw (lt-leb r.most r.number going, ne_eqb b LF other, ne_eqb b CR plain, c, lt-ltb r.len (length held) h)

        pub step_full : r.cr ≡ false → length held ≤ r.len → step_of r held b ≡ (still_of (spoilt_of r false), held)
        unfolding step_of
        step_full c h =
            rw (lt-leb r.most r.number going, ne_eqb b LF other, ne_eqb b CR plain, c, le-ltb r.len (length held) h)

module _ (r : Reading) where
  pub close_stopped : r.most ≤ r.number → close_of r ≡ still_of r
  unfolding close_of
  close_stopped h = rw (le-leb r.most r.number h)

  module _ (going : r.number < r.most) where
    pub close_CR : r.cr ≡ true → close_of r ≡ ended_of r Bad
    unfolding close_of
    close_CR c = rw (lt-leb r.most r.number going, c)

    pub close_bad : r.cr ≡ false → r.bad ≡ true → close_of r ≡ ended_of r Bad
    unfolding close_of
    close_bad c d = rw (lt-leb r.most r.number going, c, d)

    pub close_none : r.cr ≡ false → r.bad ≡ false → r.len ≡ 0 → close_of r ≡ still_of r
    unfolding close_of
    close_none c d e = rw (lt-leb r.most r.number going, c, d, eq-eqb r.len 0 e)

    pub close_whole : r.cr ≡ false → r.bad ≡ false → (r.len ≡ 0 → ⊥) → close_of r ≡ ended_of r (Whole r.len)
    unfolding close_of
    close_whole c d e = rw (lt-leb r.most r.number going, c, d, ne_eqb r.len 0 e)

-- what a step found, and what is found behind it
abbrev onward : List ℕ → Stepped × List ℕ → List Text
onward s p = text_in p.1 p.0.found ++ found_in p.0.reading p.1 s

pub found_next : (r : Reading) (held : List ℕ) (b : ℕ) (s : List ℕ) (t : Stepped) (held' : List ℕ)
    → step_of r held b ≡ (t, held')
    → found_in r held (b ∷ s) ≡ text_in held' t.found ++ found_in t.reading held' s
unfolding found_in found after
found_next r held b s t held' e =
    append_assoc (text_in (step_of r held b).1 (step_of r held b).0.found) (found (step_of r held b).0.reading (step_of r held b).1 s) _
    ∙ ap (onward s) e

-- a chunk is what its parts are one after the other
pub after_append : (r : Reading) (held s t : List ℕ) → after r held (s ++ t) ≡ after (after r held s).0 (after r held s).1 t
unfolding after
after_append r held [] t = refl
after_append r held (b ∷ s) t = after_append (step_of r held b).0.reading (step_of r held b).1 s t

pub found_append : (r : Reading) (held s t : List ℕ) → found r held (s ++ t) ≡ found r held s ++ found (after r held s).0 (after r held s).1 t
unfolding after found
found_append r held [] t = refl
found_append r held (b ∷ s) t =
    ap (λ (l : List Text). text_in (step_of r held b).1 (step_of r held b).0.found ++ l)
    (found_append (step_of r held b).0.reading (step_of r held b).1 s t)
    ∙ sym (append_assoc (text_in (step_of r held b).1 (step_of r held b).0.found) _ _)

-- a scan by its first byte
abbrev scan_by : ℕ → List ℕ → Stepped × List ℕ → Scanned × List ℕ
scan_by i s p =
    cond (ends_of p.0.found)
    (record { reading = p.0.reading; found = p.0.found; used = i + 1 }, p.1)
    (scan_from (i + 1) p.0.reading p.1 s)

module _ (i : ℕ) (r : Reading) (held : List ℕ) (b : ℕ) (s : List ℕ) (t : Stepped) (held' : List ℕ) (e : (t, held') ≡ step_of r held b) where
  by_step : scan_from i r held (b ∷ s) ≡ scan_by i s (t, held')
  unfolding scan_from
  by_step = ap (scan_by i s) (sym e)

  pub scan_ends : ends_of t.found ≡ true
      → scan_from i r held (b ∷ s) ≡ (record { reading = t.reading; found = t.found; used = i + 1 }, held')
  scan_ends h = by_step ∙ rw h

  pub scan_goes : ends_of t.found ≡ false → scan_from i r held (b ∷ s) ≡ scan_from (i + 1) t.reading held' s
  scan_goes h = by_step ∙ rw h

pub scan_none : (i : ℕ) (r : Reading) (held : List ℕ) → scan_from i r held [] ≡ (record { reading = r; found = Nothing; used = i }, held)
unfolding scan_from
scan_none i r held = refl

-- no byte, and one byte more
pub after_none : (r : Reading) (held : List ℕ) → after r held [] ≡ (r, held)
unfolding after
after_none r held = refl

pub after_next : (r : Reading) (held : List ℕ) (b : ℕ) (s : List ℕ) → after r held (b ∷ s) ≡ after (step_of r held b).0.reading (step_of r held b).1 s
unfolding after
after_next r held b s = refl

pub none_found : (r : Reading) (held : List ℕ) → found r held [] ≡ []
unfolding found
none_found r held = refl

pub next_found : (r : Reading) (held : List ℕ) (b : ℕ) (s : List ℕ)
    → found r held (b ∷ s)
    ≡ text_in (step_of r held b).1 (step_of r held b).0.found ++ found (step_of r held b).0.reading (step_of r held b).1 s
unfolding found
next_found r held b s = refl

-- at the end of the input
pub none_left : (r : Reading) (held : List ℕ) → found_in r held [] ≡ text_in held (close_of r).found
unfolding found_in found after
none_left r held = refl
