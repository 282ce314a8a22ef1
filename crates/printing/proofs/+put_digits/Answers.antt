-- `put_digits` meets its contract, by induction over the number: the digits of its tenth are put, and the last digit behind them.
-- Assumes nothing.
use Rattle.std.proofs.Common.{arith, rules}
use Rattle.printing.proofs.Answers.{digits_small, digits_more, length_small, length_more, put_byte}
use Rattle.printing.proofs.+put_digits.Goals as goal

pub bounds-out-at : goal.bounds-out-at
bounds-out-at t c = omega (arith, length_small c.args.n c.if-n-lt10.true)

pub returns-then-n-lt10 : goal.returns-then-n-lt10
returns-then-n-lt10 t c =
    record { ends = omega (arith, length_small c.args.n c.if-n-lt10.true); holds = rw (digits_small c.args.n c.if-n-lt10.true) }

-- a number of ten or more has one digit more than its tenth
pub put_digits-k-requires : goal.put_digits-k-requires
put_digits-k-requires t c = (search rules, omega (arith, length_more c.args.n c.if-n-lt10.false c.ranges.n.fits))

pub bounds-out-k : goal.bounds-out-k
bounds-out-k t c =
    omega
    (arith, length_more c.args.n c.if-n-lt10.false c.ranges.n.fits, c.put_digits-k.ensures.ends, c.put_digits-k.auto.out)

pub overflow_add-result-2 : goal.overflow_add-result-2
overflow_add-result-2 t c =
    omega
    (arith, length_more c.args.n c.if-n-lt10.false c.ranges.n.fits, c.put_digits-k.ensures.ends, c.put_digits-k.auto.out)

pub returns : goal.returns
returns t c = rw (digits_more c.args.n c.if-n-lt10.false c.ranges.n.fits) (put_byte c.put_digits-k.ensures _)
