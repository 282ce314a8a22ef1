-- How an input is cut into chunks changes nothing: the steps over chunks one after another are the steps over all their bytes, and so
-- the lines found are those of the plain definition.
-- Assumes nothing.
use mathlib.Core.Path.{◌≡◌, refl, sym, ap, ◌∙◌}
use mathlib.Core.List.{List, [], ◌∷◌, ◌++◌, flatten, append_assoc}
use Prim.Native.Nat.{ℕ}
use lib.ListN.{length}
use Rattle.cutting.specs.Cuts.{Text, texts_of}
use Rattle.cutting.specs.Steps.{fresh_of, after, found, found_in, found_over}
use Rattle.cutting.specs.declared.Reading.{Reading}
use Rattle.cutting.proofs.Steps.{after_append, found_append}
use Rattle.cutting.proofs.Finding.{cut_found}

-- an input behind a chunk
pub found_behind : (r : Reading) (held s t : List ℕ) → found_in r held (s ++ t) ≡ found r held s ++ found_in (after r held s).0 (after r held s).1 t
unfolding found_in
found_behind r held s t =
    rw (found_append r held s t, after_append r held s t)
    (append_assoc (found r held s) (found (after r held s).0 (after r held s).1 t) _)

over_none : (r : Reading) (held : List ℕ) → found_over r held [] ≡ found_in r held []
unfolding found_over found_in found after
over_none r held = refl

over_is : (r : Reading) (held : List ℕ) (ss : List (List ℕ)) → found_over r held ss ≡ found_in r held (flatten ss)
unfolding found_over flatten
over_is r held [] = over_none r held
over_is r held (s ∷ ss) =
    ap (λ (l : List Text). found r held s ++ l) (over_is (after r held s).0 (after r held s).1 ss) ∙ sym (found_behind r held s (flatten ss))

-- two ways to cut the same bytes find the same lines, from any reading on
pub chunks_same : (r : Reading) (held : List ℕ) (ss tt : List (List ℕ)) → flatten ss ≡ flatten tt → found_over r held ss ≡ found_over r held tt
chunks_same r held ss tt e = over_is r held ss ∙ ap (found_in r held) e ∙ sym (over_is r held tt)

-- chunks from the start of an input to its end give the lines of all their bytes
pub chunks_found : (most : ℕ) (held : List ℕ) (ss : List (List ℕ)) → found_over (fresh_of most 0) held ss ≡ texts_of (length held) most (flatten ss)
chunks_found most held ss = over_is (fresh_of most 0) held ss ∙ cut_found most held (flatten ss)
