-- When the numbers of a list are all different, in the words of crate lists.
-- Assumes nothing.
use Rattle.std.specs.Prelude.{Bool, List, ℕ, eqb}
use Rattle.lists.specs.Search.{some, distinct}

-- the number stands in the list
abbrev pub holds : ℕ → List ℕ → Bool
holds x l = some (λ y. eqb x y) l

-- none of the numbers stands behind itself
abbrev pub differ : List ℕ → Bool
differ l = distinct (λ n. n) l
