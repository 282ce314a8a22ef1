-- `put_field` meets its contract: twenty-one free bytes are enough for a number's digits and the byte behind them.
-- Assumes nothing.
use mathlib.Core.Path.{sym, ◌∙◌}
use Prim.Native.Nat.{◌+◌, ◌≤◌}
use native.Mathlib.Omega.{arith}
use lib.ListN.{length}
use borrow.Author.Tests.{leb-true}
use Rattle.printing.specs.Answers.{field_room}
use Rattle.printing.proofs.Answers.{twenty, put_is, put_byte, put_none}
use Rattle.printing.proofs.put_field.Goals as goal
use Rattle.printing.proofs.put_field.Goals.{Then-has_room}

room : (c : Then-has_room) → c.args.at + field_room ≤ length c.args.out.now
room c = leb-true _ _ (sym c.has_room.ensures ∙ c.if-has_room.true)

pub put_digits-k-requires : goal.put_digits-k-requires
put_digits-k-requires c = omega (arith, room (goal.at.put_digits-k-requires c).Then-has_room, twenty c.args.n)

pub bounds-out-k : goal.bounds-out-k
bounds-out-k c =
    omega
    (arith, room (goal.at.bounds-out-k c).Then-has_room, twenty c.args.n, c.put_digits-k.ensures.ends, c.put_digits-k.auto.out)

pub overflow_add-result : goal.overflow_add-result
overflow_add-result c =
    omega (arith, room (goal.at.overflow_add-result c).Then-has_room, twenty c.args.n, c.put_digits-k.ensures.ends)

pub returns-then-has_room : goal.returns-then-has_room
returns-then-has_room c =
    put_is field_room (room (goal.at.returns-then-has_room c).Then-has_room) (put_byte c.put_digits-k.ensures _)

pub returns : goal.returns
returns c = put_none _ _ _ _ (sym c.has_room.ensures ∙ c.if-has_room.false)
