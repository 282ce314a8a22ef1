-- Cuts worked out by the definitions alone, at the edges of each rule. Nothing is proved from them.
-- Assumes nothing.
use mathlib.Core.Path.{◌≡◌, refl}
use mathlib.Core.List.{[], ◌∷◌, map}
use Prim.Native.Nat.{ℕ}
use lib.ListN.{replicate}
use Rattle.fields.specs.Bytes.{CR, LF}
use Rattle.cutting.specs.Cuts.{cut, holds_lone, whole, bad, judge, texts_of}

-- every rule that an input is cut by
cut_rules : ℕ
unfolding cut holds_lone judge texts_of
cut_rules = 0

-- with at most 3 bytes to a line and 2 lines: an empty input, a line, one without its CRLF, an empty line, CR CR LF, a bare LF and a bare CR
-- at the end, 3 bytes, 4 bytes, 3 lines
inputs_cut :
    map (texts_of 3 2) (
    ([]) ∷
    (120 ∷ CR ∷ LF ∷ []) ∷
    (120 ∷ []) ∷
    (CR ∷ LF ∷ []) ∷
    (120 ∷ CR ∷ CR ∷ LF ∷ []) ∷
    (120 ∷ LF ∷ []) ∷
    (120 ∷ CR ∷ []) ∷
    (120 ∷ 120 ∷ 120 ∷ CR ∷ LF ∷ []) ∷
    (120 ∷ 120 ∷ 120 ∷ 120 ∷ CR ∷ LF ∷ []) ∷
    (120 ∷ CR ∷ LF ∷ 120 ∷ CR ∷ LF ∷ 120 ∷ []) ∷
    [])
    ≡ [] ∷ (whole (120 ∷ []) ∷ []) ∷ (whole (120 ∷ []) ∷ []) ∷ (bad ∷ []) ∷ (bad ∷ []) ∷ (bad ∷ []) ∷ (bad ∷ []) ∷ (whole (120 ∷ 120 ∷ 120 ∷ []) ∷ []) ∷ (bad ∷ []) ∷ (whole (120 ∷ []) ∷ whole (120 ∷ []) ∷ []) ∷ []
unfolding cut_rules
inputs_cut = refl

-- 96 bytes and 97
longest : judge 96 (replicate 96 120) ≡ whole (replicate 96 120)
unfolding cut_rules
longest = refl

too_long : judge 96 (replicate 97 120) ≡ bad
unfolding cut_rules
too_long = refl
