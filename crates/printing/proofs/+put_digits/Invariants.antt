-- `put_digits` ends, since a tenth of a number of ten or more is less than the number.
-- Assumes nothing.
use Rattle.printing.proofs.+put_digits.Given as goal

abbrev pub decreases-put_digits : goal.decreases-put_digits
decreases-put_digits l = l.n
