-- Clearing a well-kept table is the machine's at the state that the table stands for.
-- Assumes nothing.
use mathlib.Core.Path.{◌≡◌, refl, sym, ap, ◌∙◌}
use mathlib.Core.Bool.{true, false, cond}
use mathlib.Core.List.{[], ◌++◌}
use Prim.Native.Nat.{◌+◌, ◌-◌, ◌≤◌}
use native.Mathlib.Omega.{arith}
use lib.ListN.{length, drop, replicate, length-replicate}
use lib.Seq.{drop-append-add, drop-drop}
use Rattle.places.specs.declared.Table.{Table}
use Rattle.lists.specs.Search.{some}
use Rattle.subscription.specs.Life.{blank}
use Rattle.rules.specs.States.{is_report}
use Rattle.rules.specs.Machine.{outcome, with_ones, with_cancel, step}
use Rattle.places.specs.Views.{opens_of, view, kept}
use Rattle.places.specs.Moves.{emptied}
use Rattle.places.specs.Calls.{refused_in, clear_in}
use Rattle.places.specs.Agreement.{woken_says}
use Rattle.rules.specs.Calls as call
use Rattle.rules.proofs.Acts.{act_clear}
use Rattle.places.proofs.Refusing.{kept_counts}
use Rattle.places.proofs.Agreeing.{agreeing}

-- the open ones stay where the stored ones are emptied
emptied_opens : (t : Table) → t.stored + t.opens ≤ 80 → opens_of (emptied t) ≡ opens_of t
unfolding emptied
emptied_opens t fits =
    let n = 80 - t.opens in
    let blanks = replicate t.stored blank in
    let rest = drop t.stored t.places in
    let apart : n ≡ length blanks + (n - t.stored) = omega (arith, length-replicate t.stored blank) in
    let whole : t.stored + (n - t.stored) ≡ n = omega arith in
    ap (λ k. drop k (blanks ++ rest)) apart
    ∙ drop-append-add blanks rest (n - t.stored)
    ∙ drop-drop (n - t.stored) t.stored t.places
    ∙ ap (λ k. drop k t.places) whole

pub clear_agrees : (t : Table) → kept t ≡ true → woken_says (clear_in t) ≡ step call.clear (view t)
unfolding clear_in emptied
clear_agrees t h =
    agreeing woken_says t call.clear (refused_in t) _ (λ why. refl) h
    (λ _. ap
    (λ l. outcome (call.yes_no false) (with_cancel (with_ones (view t) [] l) (cond (some is_report (opens_of t)) 255 t.cancel)))
    (emptied_opens t (kept_counts t h))
    ∙ sym (act_clear (view t)))
