-- `answered` is safe and ends: each run takes a byte at least and stays within what is left and within the buffer.
-- Assumes nothing.
use Rattle.std.proofs.Common.{sym, arith}
use Rattle.trace.proofs.Fitting.{wrote_fits, out_long, wrote_length, used_fits, gets_on}
use Rattle.trace.proofs.answered.Goals as goal

pub slice_bounds-out-end : goal.slice_bounds-out-end
slice_bounds-out-end g c = omega (arith, wrote_fits _ _ _ _ _ _ _ _ c.run-r.ensures, out_long _ _ _ _ _ _ _ _ c.run-r.ensures)

pub slice_bounds-write_all-end : goal.slice_bounds-write_all-end
slice_bounds-write_all-end g c = sym (wrote_length _ _ _ _ _ _ _ _ c.run-r.ensures)

pub slice_bounds-rest-count : goal.slice_bounds-rest-count
slice_bounds-rest-count g c = used_fits _ _ _ _ _ _ _ _ c.run-r.ensures

pub slice_bounds-rest-start : goal.slice_bounds-rest-start
slice_bounds-rest-start g c = used_fits _ _ _ _ _ _ _ _ c.run-r.ensures

pub loop-rest-smaller : goal.loop-rest-smaller
loop-rest-smaller g c = gets_on _ _ _ _ _ _ _ _ c.run-r.ensures (sym c.loop-rest-test.ensures) (omega (arith, c.loop-rest.invariant))
