-- What the line reader's proofs cite: `begins` goes from byte to byte as the library's `starts_with` does, and numbers that were read fit.
-- Assumes nothing.
use Rattle.std.proofs.Common.{◌≡◌, ℕ, Bool, true, false, List, [], ◌∷◌, ◌&&◌, eqb, refl, sym, ap, ◌∙◌}
use Rattle.std.specs.List.{starts_with}
use Rattle.std.specs.Prelude.{Option, Some, None, IfSome}
use borrow.Author.Tests.{eq-eqb, ne_eqb, eqb-true, eqb-false}
use Rattle.fields.specs.Rows.{Fit, numbers_of}
use Rattle.fields.proofs.Rows.{numbers_fit}
use Rattle.lines.specs.Lines.{begins}

-- a test of equality either way round
same : (x b : ℕ) → eqb x b ≡ eqb b x
same x b = go (eqb b x) refl
  where
    go : (t : Bool) → eqb b x ≡ t → eqb x b ≡ t
    go true e = eq-eqb x b (sym (eqb-true b x e))
    go false e = ne_eqb x b (λ z. eqb-false b x e (sym z))

pub starts_begins : (word s : List ℕ) → starts_with eqb s word ≡ begins word s
unfolding begins
starts_begins [] s = refl
starts_begins (x ∷ xs) [] = refl
starts_begins (x ∷ xs) (b ∷ s) = ap (λ (t : Bool). t && starts_with eqb s xs) (same x b) ∙ ap (λ (t : Bool). eqb b x && t) (starts_begins xs s)

-- numbers that were read are within their widths
pub fits : (ns : Option (List ℕ)) (ws s : List ℕ) → ns ≡ numbers_of ws s → IfSome ns (Fit ws)
fits (Some v) ws s e = numbers_fit v ws s e
fits None ws s e = record {}
