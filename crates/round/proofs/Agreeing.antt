-- Turn by turn a round of a well-kept table is the machine's at the state that the table stands for: a report and a completion that agree.
-- Assumes nothing.
use Rattle.refusal.specs.declared.Refusal.{Refusal}
use Rattle.std.specs.Prelude.{Option, Some, None, Result, Ok, Err}
use mathlib.Core.Path.{◌≡◌, refl, sym, ap, ◌∙◌}
use mathlib.Core.Bool.{Bool, true, false, not, ◌&&◌}
use mathlib.Core.List.{List, [], ◌∷◌}
use Prim.Native.Nat.{ℕ, ◌+◌}
use lib.ListN.{set}
use Rattle.subscription.specs.declared.Settings.{Settings}
use Rattle.places.specs.declared.Table.{Table}
use Rattle.places.specs.declared.Handed.{Handed}
use Rattle.lists.specs.Search.{some}
use Rattle.rules.specs.States.{report_open, well_kept}
use Rattle.rules.specs.Machine.{Turn as Stand, outcome, bad_outcome, ready, next_up, reported, turned as turned_by, round_from, step}
use Rattle.rules.specs.Rounds.{handed_id}
use Rattle.places.specs.Views.{view, kept}
use Rattle.places.specs.Tidiness.{Whole}
use Rattle.places.specs.Calls.{report_in, complete_in}
use Rattle.places.specs.Agreement.{hand_out_answer, report_says, answer_by}
use Rattle.round.specs.Rounds.{refuses, is_shut, says_nothing, is_silent, turn_after, turn_of, served, Turn, Served, stood, turned}
use Rattle.rules.specs.Calls as call
use Rattle.lists.proofs.Bools.{split, or_neither}
use Rattle.lists.proofs.Counts.{some_cons}
use Rattle.rules.proofs.Acts.{round_over, round_goes_on, round_falls_silent}
use Rattle.rules.proofs.Kept.{step_well_kept}
use Rattle.rules.proofs.Sound.{kept_sound, sound_kept}
use Rattle.rules.proofs.Steps.{turn_sound, turn_shut}
use Rattle.rules.proofs.Turns.{report_step, report_silent, complete_step}
use Rattle.places.proofs.Tidying.{whole_lasts}
use Rattle.places.proofs.Lasting.{report_lasts, complete_lasts}
use Rattle.places.proofs.TidyViews.{whole_kept}
use Rattle.places.proofs.ReportAgrees.{report_agrees}
use Rattle.places.proofs.CompletionAgrees.{complete_agrees}
use Rattle.round.proofs.Refusing.{shut_is}

-- a whole table, well kept, with no report open: what a round starts from and what each turn leaves
pub record Fine (t : Table) : Type 0 where
  pub whole : Whole t
  pub well : well_kept (view t) ≡ true
  pub shut : report_open (view t) ≡ false

-- a turn by whom the machine's answer hands out
abbrev turn_by : List ℕ → Table → ℕ → Turn
turn_by [] t o = turned None t
turn_by (id ∷ rest) t o = turned (Some id) (complete_in t id o).table

turn_by_lem : (a : Result (Option Handed) Refusal) (t : Table) (o : ℕ) → turn_after a t o ≡ turn_by (handed_id (answer_by hand_out_answer a)) t o
turn_by_lem (Ok (Some x)) t o = refl
turn_by_lem (Ok None) t o = refl
turn_by_lem (Err why) t o = refl

-- a report says Nothing where it is not refused and hands nobody out
abbrev nobody_in : List ℕ → Bool
nobody_in [] = true
nobody_in (id ∷ rest) = false

silent_by : (a : Result (Option Handed) Refusal) → says_nothing a ≡ (nobody_in (handed_id (answer_by hand_out_answer a)) && not (refuses a))
silent_by (Ok (Some x)) = refl
silent_by (Ok None) = refl
silent_by (Err why) = refl

module _ (at : Settings) (t : Table) (f : Fine t) where
  well_kept_lem : kept t ≡ true
  well_kept_lem = whole_kept t f.whole ∙ f.well

  said : report_says (report_in t at) ≡ step (call.report at) (view t)
  said = report_agrees t f.whole.long well_kept_lem at

  unshut : is_shut t at ≡ false
  unshut = shut_is t well_kept_lem f.whole.long at ∙ f.shut

  reported_whole : Whole (report_in t at).table
  reported_whole = report_lasts whole_lasts t f.whole at

  -- nobody is reportable: nobody is handed out, and the state stays
  module _ (idle : some (ready at (view t)) (view t).stored ≡ false) where
    still : report_says (report_in t at) ≡ outcome call.nothing (view t)
    still = said ∙ report_silent at (view t) (kept_sound (view t) f.well) f.shut idle

    still_fine : Fine (report_in t at).table
    still_fine =
        let same = ap (λ o. o.state) still in
        record { whole = reported_whole; well = ap well_kept same ∙ f.well; shut = ap report_open same ∙ f.shut }

    still_view : view (report_in t at).table ≡ view t
    still_view = ap (λ o. o.state) still

    still_turn : (o : ℕ) → turn_of t at o ≡ turned None (report_in t at).table
    unfolding turn_of
    still_turn o =
        turn_by_lem (report_in t at).answer (report_in t at).table o
        ∙ ap (λ p. turn_by (handed_id p.answer) (report_in t at).table o) still

    pub still_silent : is_silent t at ≡ true
    unfolding is_silent is_shut
    still_silent =
        silent_by (report_in t at).answer
        ∙ ap (λ p. nobody_in (handed_id p.answer) && not (refuses (report_in t at).answer)) still
        ∙ ap not unshut

  -- somebody is: the first one is handed out, and its report ended
  module _ (found : some (ready at (view t)) (view t).stored ≡ true) where
    handed : report_says (report_in t at) ≡ outcome (call.handed (next_up at (view t)).id (next_up at (view t)).rx) (reported at (view t)).state
    handed = said ∙ report_step at 0 (view t) (kept_sound (view t) f.well) f.shut found

    pub not_silent : is_silent t at ≡ false
    unfolding is_silent is_shut
    not_silent =
        silent_by (report_in t at).answer
        ∙ ap (λ p. nobody_in (handed_id p.answer) && not (refuses (report_in t at).answer)) handed

    module _ (o : ℕ) (good : bad_outcome o ≡ false) where
      abbrev id : ℕ
      id = (next_up at (view t)).id

      abbrev after : Table
      after = (complete_in (report_in t at).table id o).table

      made_turn : turn_of t at o ≡ turned (Some id) after
      unfolding turn_of
      made_turn =
          turn_by_lem (report_in t at).answer (report_in t at).table o
          ∙ ap (λ p. turn_by (handed_id p.answer) (report_in t at).table o) handed

      made_view : (n : ℕ) (ids : List ℕ) → view after ≡ (turned_by at o (record { hand_outs = n; ids = ids; state = view t })).state
      made_view n ids =
          let u = (report_in t at).table in
          let same : view u ≡ (reported at (view t)).state = ap (λ p. p.state) handed in
          let well = whole_kept u reported_whole ∙ ap (λ p. well_kept p.state) said ∙ step_well_kept (call.report at) (view t) f.well in
          ap (λ p. p.state) (complete_agrees u reported_whole.long well id o)
          ∙ ap (λ s. (step (call.complete id o) s).state) same
          ∙ ap (λ p. p.state) (complete_step at o (view t) (kept_sound (view t) f.well) f.shut found good)

      made_fine : Fine after
      made_fine =
          let same = made_view 0 [] in
          record {
            whole = complete_lasts whole_lasts (report_in t at).table reported_whole id o;
            well = ap well_kept same ∙ sound_kept _ (turn_sound (view t) at o (kept_sound (view t) f.well) f.shut found);
            shut = ap report_open same ∙ turn_shut (view t) at o f.shut found;
          }

-- where a round of the table stands, as the machine's
abbrev pub stand_of : Served × List ℕ → Stand
stand_of r = record { hand_outs = r.0.handouts; ids = r.1; state = view r.0.table }

-- the round ends where the machine's does, with a table from which a round could start
pub record Ends (r : Served × List ℕ) (end : Stand) : Type 0 where
  pub same : stand_of r ≡ end
  pub fine : Fine r.0.table

pub serve_agrees : (at : Settings) (os : List ℕ) (n : ℕ) (ids : List ℕ) (t : Table) → Fine t → some bad_outcome os ≡ false
    → Ends (served at os n ids t) (round_from at os (record { hand_outs = n; ids = ids; state = view t }))
unfolding served
serve_agrees at [] n ids t f good = record { same = sym (round_over at _); fine = f }
serve_agrees at (o ∷ os) n ids t f good =
    let w = or_neither (bad_outcome o) (some bad_outcome os) (sym (some_cons bad_outcome o os) ∙ good) in
    split (some (ready at (view t)) (view t).stored)
    (λ e. let more = serve_agrees at os (n + 1) (set ids n (next_up at (view t)).id) _ (made_fine at t f e o w.0) w.1 in
    rw (made_turn at t f e o w.0, round_goes_on at o os (record { hand_outs = n; ids = ids; state = view t }) e, served)
    (rw (made_turn at t f e o w.0, ← made_view at t f e o w.0 n ids) more))
    (λ e. let over : Ends (stood n (report_in t at).table, ids) (record { hand_outs = n; ids = ids; state = view t }) =
    record {
      same = ap (λ s. record { hand_outs = n; ids = ids; state = s }) (still_view at t f e);
      fine = still_fine at t f e;
    } in
    rw (still_turn at t f e o, round_falls_silent at o os (record { hand_outs = n; ids = ids; state = view t }) e, served)
    (rw (still_turn at t f e o) over))
