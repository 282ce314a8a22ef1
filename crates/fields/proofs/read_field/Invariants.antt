-- `read_field` meets its contract. What is left of the slice is read as the whole is, from the number of the i bytes passed: so each turn is
-- one step of `field_from`, which is `field_of` by the laws of Fields.
-- Assumes nothing.
use Rattle.std.proofs.Common.{◌≡◌, drop}
use Rattle.fields.specs.Fields.{field_of}
use Rattle.fields.proofs.Fields.{field_from}
use Rattle.fields.proofs.read_field.Given as goal

abbrev pub invariant-loop-i : goal.invariant-loop-i
invariant-loop-i l = field_of l.most l.s ≡ field_from l.most l.value l.i (drop l.i l.s)
