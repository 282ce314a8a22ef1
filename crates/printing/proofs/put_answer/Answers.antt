-- `put_answer` meets its contract: three fields put one behind another, with the LF behind them, are one text, and sixty-four bytes are enough
-- for it.
-- Assumes nothing.
use mathlib.Core.List.{[], ◌∷◌, ◌++◌}
use mathlib.Core.Path.{sym, ◌∙◌}
use Prim.Native.Nat.{◌+◌, ◌≤◌, ◌<◌}
use native.Mathlib.Omega.{arith}
use lib.ListN.{length}
use borrow.Author.Tests.{leb-true}
use Rattle.printing.specs.Inner.{Put}
use Rattle.printing.specs.Answers.{digits_of, answer_room}
use Rattle.fields.specs.Bytes.{comma, CR, LF}
use Rattle.printing.proofs.Answers.{put_is, put_byte, put_length, put_none, three_length, three_put, answer_text}
use Rattle.printing.proofs.put_answer.Goals as goal
use Rattle.printing.proofs.put_answer.Goals.{After-put_field-c}

-- behind the three fields: the room that was asked for, the three numbers, and that a byte is free behind them
room : (c : After-put_field-c) → c.args.at + answer_room ≤ length c.args.out.now
room c = leb-true _ _ (sym c.has_room.ensures ∙ c.if-has_room.true)

put : (c : After-put_field-c) →
    let a = c.args in
    Put a.out.now a.at (((digits_of a.number ++ (comma ∷ [])) ++ (digits_of a.code ++ (comma ∷ []))) ++ (digits_of a.value ++ (CR ∷ [])))
    c.put_field-c.result c.put_field-c.new.out
put c =
    three_put _ _ _ _ _ _ _ _ (room c) c.put_field-a.ensures (rw c.from.ensures at c.put_field-b.ensures) c.put_field-c.ensures

free : (c : After-put_field-c) → c.put_field-c.result < length c.put_field-c.new.out
free c =
    let a = c.args in
    omega
    (arith, (put c).ends, put_length (put c), room c, three_length a.out.now a.at a.number a.code a.value comma comma CR (room c))

pub bounds-out-c : goal.bounds-out-c
bounds-out-c c = free (goal.at.bounds-out-c c).After-put_field-c

pub overflow_add-result : goal.overflow_add-result
overflow_add-result c = omega (arith, free (goal.at.overflow_add-result c).After-put_field-c)

pub shape_of-out-then-has_room : goal.shape_of-out-then-has_room
shape_of-out-then-has_room c = put_length (put_byte (put (goal.at.shape_of-out-then-has_room c).After-put_field-c) LF)

pub returns-then-has_room : goal.returns-then-has_room
returns-then-has_room c =
    let d = (goal.at.returns-then-has_room c).After-put_field-c in
    put_is answer_room (room d) (rw (← answer_text _ _ _) (put_byte (put d) LF))

pub returns : goal.returns
returns c = put_none _ _ _ _ (sym c.has_room.ensures ∙ c.if-has_room.false)
