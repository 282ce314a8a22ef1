-- The domain: a history of it in which every call is made and one is refused with 1, so that it is not empty; and what begins a history of
-- the domain is one.
-- Assumes nothing.
use mathlib.Core.Path.{◌≡◌, refl, sym, ap, ◌∙◌}
use mathlib.Core.Bool.{false, ◌||◌}
use mathlib.Core.List.{List, [], ◌∷◌, ◌++◌}
use Prim.Native.Nat.{ℕ}
use Rattle.lists.specs.Search.{some}
use Rattle.lists.proofs.Bools.{or_neither}
use Rattle.lists.proofs.Counts.{some_nil, some_cons}
use Rattle.time.specs.declared.KeepAlive.TheVariants.{Default, Icd}
use Rattle.instants.specs.Instants.{instant}
use Rattle.choices.specs.declared.Choice.TheVariants.{Peer}
use Rattle.rules.specs.Calls as call
use Rattle.rules.specs.Calls.{Op}
use Rattle.rules.specs.States.{State, fresh}
use Rattle.rules.specs.Machine.{step, answers}
use Rattle.rules.proofs.Acts.{answers_none, answers_more}
use Rattle.rules.proofs.Computing.{all_rules}
use Rattle.original.specs.Demand.{strays, InDomain}
use Rattle.original.proofs.Outside.{request, at}

abbrev every_call : List Op
every_call =
    call.new 2
    ∷ call.add request 0 (instant 1000)
    ∷ call.complete 1 0
    ∷ call.resume 7 request 3
    ∷ call.resume 8 request 3
    ∷ call.note 3 6 0
    ∷ call.next_instant 0 Default
    ∷ call.any_reportable (instant 2000) 0 Icd
    ∷ call.report (at 2000)
    ∷ call.attribute 1 3 6 0
    ∷ call.send_if_empty 1 Icd
    ∷ call.remove (Peer 1 7) 9
    ∷ call.complete 1 2
    ∷ call.add request 0 (instant 3000)
    ∷ call.complete 8 1
    ∷ call.round (at 4000) (0 ∷ 2 ∷ 3 ∷ []) (0 ∷ 0 ∷ 0 ∷ [])
    ∷ call.next_keep_alive
    ∷ call.statistics 1
    ∷ call.has_subscription 1 7
    ∷ call.purge
    ∷ call.clear
    ∷ []

pub every_call_inside : InDomain 80 every_call
unfolding all_rules
every_call_inside = refl

answers_begin : (ops more : List Op) (s : State) → some strays (answers (ops ++ more) s) ≡ false → some strays (answers ops s) ≡ false
answers_begin [] more s h = ap (some strays) (answers_none s) ∙ some_nil strays
answers_begin (op ∷ ops) more s h =
    let w = or_neither (strays (step op s).answer) (some strays (answers (ops ++ more) (step op s).state))
    (sym (split_off (ops ++ more)) ∙ h) in
    split_off ops ∙ rw w.0 (answers_begin ops more (step op s).state w.1)
  where
    split_off : (l : List Op)
        → some strays (answers (op ∷ l) s) ≡ (strays (step op s).answer || some strays (answers l (step op s).state))
    split_off l = ap (some strays) (answers_more op l s) ∙ some_cons strays (step op s).answer (answers l (step op s).state)

pub beginnings_inside : (capacity : ℕ) (ops more : List Op) → InDomain capacity (ops ++ more) → InDomain capacity ops
beginnings_inside capacity ops more h = answers_begin ops more (fresh capacity) h
