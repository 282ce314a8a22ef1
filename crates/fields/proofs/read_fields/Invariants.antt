-- `read_fields` meets its contract. The widths that are left, read from the part that is left, give the numbers of the whole: each turn is one
-- field of `numbers_from`, which hands on the part behind its comma.
-- Assumes nothing.
use Rattle.std.proofs.Common.{◌≡◌, drop, length}
use Rattle.fields.specs.Rows.{places, numbers_from, numbers_of}
use Rattle.fields.proofs.read_fields.Given as goal

abbrev pub invariant-loop-j : goal.invariant-loop-j
invariant-loop-j l =
    (numbers_of l.widths (drop l.from l.s) ≡ numbers_from (drop l.j l.widths) l.v l.j l.rest) × (length l.v ≡ places)
