-- What the parts that are lent and written need: a run stays within its chunk and its buffer, and gets on.
-- Assumes nothing.
use mathlib.Core.Path.{◌≡◌, ap, ◌∙◌}
use mathlib.Core.List.{List}
use Prim.Native.Nat.{ℕ, ◌-◌, ◌≤◌, ◌<◌}
use native.Mathlib.Omega.{arith}
use lib.ListN.{length, length-drop, take, drop}
use lib.Seq.{length-take-le}
use borrow.Author.Tests.{eqb-false}
use lib.Dec.{eqb}
use mathlib.Core.Bool.{false}
use Rattle.lists.proofs.Parts.{rest}
use Rattle.printing.specs.Answers.{answer_room}
use Rattle.tracing.specs.declared.Ran.{Ran}
use Rattle.tracing.specs.declared.Session.{Session}
use Rattle.tracing.specs.Runs.{Work, worked, run_of, finish_of}
use Rattle.tracing.proofs.Driving.{run_fits, run_long, run_within, run_moves, finish_fits, finish_long}

module _ (x y : Session) (held s out : List ℕ) (r : Ran) (h o : List ℕ) (e : worked y r h o ≡ run_of x held s out) where
  pub wrote_fits : r.wrote ≤ length out
  wrote_fits = omega (arith, ap (λ (w : Work). w.wrote) e, run_fits x held s out)

  pub out_long : length o ≡ length out
  out_long = ap (λ (w : Work). length w.out) e ∙ run_long x held s out

  pub wrote_length : length (take r.wrote o) ≡ r.wrote
  wrote_length = length-take-le r.wrote o (omega (arith, wrote_fits, out_long))

  pub used_fits : r.used ≤ length s
  used_fits = omega (arith, ap (λ (w : Work). w.used) e, run_within x held s out)

  pub gets_on : eqb (length s) 0 ≡ false → answer_room ≤ length out → length (take (length s - r.used) (drop r.used s)) < length s
  gets_on more room =
      let some : 0 < length s = omega (arith, eqb-false (length s) 0 more) in
      let used : 0 < r.used = omega (arith, ap (λ (w : Work). w.used) e, run_moves x held s out room some) in
      rw rest (omega (arith, length-drop r.used s, some, used))

module _ (x : Session) (held out o : List ℕ) (wrote : ℕ) (e : (wrote, o) ≡ finish_of x held out) (room : answer_room ≤ length out) where
  pub last_fits : wrote ≤ length out
  last_fits = omega (arith, ap (λ (p : ℕ × List ℕ). p.0) e, finish_fits x held out room)

  pub last_length : length (take wrote o) ≡ wrote
  last_length =
      let long : length o ≡ length out = ap (λ (p : ℕ × List ℕ). length p.1) e ∙ finish_long x held out room in
      length-take-le wrote o (omega (arith, last_fits))
