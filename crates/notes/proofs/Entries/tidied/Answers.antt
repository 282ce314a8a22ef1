-- `tidied` meets its contract: the places beyond the entries are filled.
-- Assumes nothing.
use mathlib.Core.Path.{◌≡◌, sym, ap, ◌∙◌}
use mathlib.Core.List.{◌++◌}
use Prim.Native.Nat.{◌-◌}
use native.Mathlib.Omega.{arith}
use lib.ListN.{length, take, replicate}
use lib.Seq.{length-take-le}
use Rattle.entries.specs.Paths.{blank}
use Rattle.notes.specs.Places.{held_as}
use Rattle.notes.proofs.Steps.{blanked}
use Rattle.notes.proofs.Entries.tidied.Goals as goal

pub returns : goal.returns
unfolding held_as
returns c =
    let f = c.self.inside in
    let l = take f.len f.places in
    let long : length f.places ≡ 16 = omega arith in
    rw (← c.self.view_is)
    (ap (λ m. record { entries = m; len = f.len }) (blanked f.places _ f.len long c.self.invariant (c.fill.ensures.after (λ y k. k)))
    ∙ ap (λ n. record { entries = l ++ replicate (16 - length l) blank; len = n })
    (sym (length-take-le f.len f.places (omega arith))))
