-- The marked examples hold: each is computed.
-- Assumes nothing.
use mathlib.Core.Path.{refl}
use Rattle.rules.specs.Marked.{Marked}
use Rattle.rules.proofs.Computing.{all_rules}

pub marked : Marked
unfolding all_rules
marked =
    record {
      p1 = refl;
      p2 = refl;
      p3 = refl;
      p4 = refl;
      p5 = refl;
      p6 = refl;
      p7 = refl;
      p8 = refl;
      p9 = refl;
      p10 = refl;
      p11 = refl;
      p11number = refl;
      p11next = refl;
      p12before = refl;
      p12 = refl;
    }
