-- `is_sound` meets its contract: the pass over the live ones tells what the rule asks of them.
-- Assumes nothing.
use Rattle.std.proofs.Common.{◌≡◌, ℕ, ◌+◌, Bool, List, ◌++◌, map, length, take, sym, ap, ◌∙◌, length-append}
use Rattle.subscription.specs.declared.Subscription.{Subscription}
use Rattle.lists.specs.Search.{distinct}
use Rattle.lists.proofs.Maps.{distinct_map}
use Rattle.table.proofs.keeping.is_sound.Goals as goal

-- the ids of the pass differ exactly where those of the live ones do
differ_is : (stored opens : List Subscription) (ids : List ℕ) {r : Bool}
    → take (length (stored ++ opens)) ids ≡ map (λ x. x.id) (stored ++ opens)
    → r ≡ distinct (λ n. n) (take (length stored + length opens) ids) → r ≡ distinct (λ x. x.id) (stored ++ opens)
differ_is stored opens ids e f =
    f
    ∙ ap (λ n. distinct (λ n. n) (take n ids)) (sym (length-append stored opens))
    ∙ ap (distinct (λ n. n)) e
    ∙ distinct_map (λ x. x.id) (λ n. n) (stored ++ opens)

pub returns-then-not-lives : goal.returns-then-not-lives
returns-then-not-lives c =
    let d = differ_is c.args.stored.now c.args.opens.now c.lives-lives.result.ids c.lives-lives.ensures.ids_are c.all_differ.ensures in
    rw (sym d ∙ c.if-all_differ.true, sym c.lives-lives.ensures.orphan_is ∙ c.if-not-lives.true, ← c.lives-lives.ensures.reports_are) c.cancel_fits.ensures

pub returns-else-all_differ : goal.returns-else-all_differ
returns-else-all_differ c =
    let d = differ_is c.args.stored.now c.args.opens.now c.lives-lives.result.ids c.lives-lives.ensures.ids_are c.all_differ.ensures in
    rw (sym d ∙ c.if-all_differ.false) c.if-all_differ.false
