-- A round of a well-kept table is the machine's at the state that the table stands for: the same answer, the same ids, the same state.
-- Assumes nothing.
use Rattle.places.specs.Calls.{refused_in}
use Rattle.std.specs.Prelude.{None}
use mathlib.Core.Path.{◌≡◌, refl, sym, ap, ◌∙◌}
use mathlib.Core.Bool.{true, not}
use mathlib.Core.List.{List}
use Prim.Native.Nat.{ℕ}
use lib.ListN.{length}
use Rattle.subscription.specs.declared.Settings.{Settings}
use Rattle.places.specs.declared.Table.{Table}
use Rattle.lists.specs.Search.{some}
use Rattle.rules.specs.Machine.{bad_outcome, first_of, outcome, ready, act, step}
use Rattle.places.specs.Views.{view, kept, refusal_at}
use Rattle.places.specs.Tidiness.{Whole}
use Rattle.round.specs.Rounds.{is_silent, served, made, round_of}
use Rattle.round.specs.Agreement.{round_says}
use Rattle.rules.specs.Calls as call
use Rattle.lists.proofs.Bools.{split, or_neither}
use Rattle.rules.proofs.Acts.{act_round, round_ends}
use Rattle.rules.proofs.Clauses.{round_objects}
use Rattle.rules.proofs.Objections.{unobjected}
use Rattle.places.proofs.Agreeing.{agreeing}
use Rattle.places.proofs.Refusing.{state_kept, kept_counts, past_kept}
use Rattle.round.proofs.Agreeing.{Fine, still_silent, not_silent, serve_agrees}

-- "whether nothing stored is reportable then"
silence_agrees : (at : Settings) (t : Table) → Fine t → is_silent t at ≡ not (some (ready at (view t)) (view t).stored)
silence_agrees at t f =
    split (some (ready at (view t)) (view t).stored)
    (λ e. not_silent at t f e ∙ sym (ap not e))
    (λ e. still_silent at t f e ∙ sym (ap not e))

module _ (t : Table) (long : length t.places ≡ 80) (h : kept t ≡ true) (at : Settings) (os ids : List ℕ) where
  acted_same : refusal_at (call.round at os ids) t ≡ None → round_says (made at (served at os 0 ids t)) ≡ act (call.round at os ids) (view t)
  acted_same e =
      let a = unobjected _ _ _ (sym (past_kept t h (call.round at os ids) ∙ ap first_of (round_objects (view t) at os ids)) ∙ e) in
      let shut = (unobjected _ _ _ a.1).0 in
      let good = (or_neither (some bad_outcome os) _ a.0).0 in
      let whole : Whole t = record { long = long; fits = kept_counts t h } in
      let ends = serve_agrees at os 0 ids t (record { whole = whole; well = state_kept t h; shut = shut }) good in
      let r = served at os 0 ids t in
      ap (λ b. outcome (call.rounded r.0.handouts b r.1) (view r.0.table)) (silence_agrees at r.0.table ends.fine)
      ∙ ap (round_ends at) ends.same
      ∙ sym (act_round (view t) at os ids)

  -- its count is the hand-outs of the machine's step
  pub round_agrees : round_says (round_of t at os ids) ≡ step (call.round at os ids) (view t)
  unfolding round_of
  round_agrees = agreeing round_says t (call.round at os ids) (λ why. (refused_in t why, ids)) (made at (served at os 0 ids t)) (λ why. refl) h acted_same
