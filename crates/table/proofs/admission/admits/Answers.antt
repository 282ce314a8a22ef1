-- `admits` meets its contract: the tests are the objections, in their order.
-- Assumes nothing.
use Rattle.std.proofs.Common.{sym, ap, ◌∙◌, eq-eqb, ne_eqb, le-leb}
use borrow.Author.Tests.{lt-leb}
use Rattle.refusal.specs.declared.Refusal.TheVariants.{BadArgument, Full, IdLive}
use Rattle.table.specs.Scans.{verdict_of}
use Rattle.rules.proofs.Clauses.{first_holds, first_passed, first_none}
use Rattle.table.proofs.admission.admits.Goals as goal

pub returns-then-request-eq0 : goal.returns-then-request-eq0
returns-then-request-eq0 c = ap verdict_of (sym (first_holds BadArgument _ (eq-eqb _ _ c.if-request-eq0.true)))

pub returns-then-from-table : goal.returns-then-from-table
returns-then-from-table c =
    ap verdict_of (sym (first_passed BadArgument _ (ne_eqb _ _ c.if-request-eq0.false) ∙ first_holds Full _ (le-leb _ _ (rw (← c.from.ensures) c.if-from-table.true))))

pub returns-then-is_live : goal.returns-then-is_live
returns-then-is_live c =
    ap verdict_of (sym (first_passed BadArgument _ (ne_eqb _ _ c.if-request-eq0.false) ∙ first_passed Full _ (lt-leb _ _ (rw (← c.from.ensures) c.if-from-table.false)) ∙ first_holds IdLive _ (sym c.is_live.ensures ∙ c.if-is_live.true)))

pub returns : goal.returns
returns c =
    ap verdict_of (sym (first_passed BadArgument _ (ne_eqb _ _ c.if-request-eq0.false) ∙ first_passed Full _ (lt-leb _ _ (rw (← c.from.ensures) c.if-from-table.false)) ∙ first_passed IdLive _ (sym c.is_live.ensures ∙ c.if-is_live.false) ∙ first_none))
