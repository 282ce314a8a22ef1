-- `finished` is safe and ends: the last answer stays within the buffer.
-- Assumes nothing.
use Rattle.std.proofs.Common.{sym, arith}
use Rattle.trace.proofs.Fitting.{last_fits, last_length}
use Rattle.trace.proofs.finished.Goals as goal

pub slice_bounds-out-end : goal.slice_bounds-out-end
slice_bounds-out-end g c = omega (arith, last_fits _ _ _ _ _ c.finish-wrote.ensures (omega arith))

pub slice_bounds-write_all-end : goal.slice_bounds-write_all-end
slice_bounds-write_all-end g c = sym (last_length _ _ _ _ _ c.finish-wrote.ensures (omega arith))
