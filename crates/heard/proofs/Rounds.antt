-- The second half of demand 3, from a fresh table; and the round call as its special case.
-- Assumes nothing.
use mathlib.Core.Path.{◌≡◌, refl, sym, ap, ◌∙◌}
use mathlib.Core.Bool.{true, false, not}
use mathlib.Core.List.{List, [], ◌∷◌, map}
use Prim.Native.Nat.{ℕ, suc, ◌+◌, ◌≤◌}
use native.Mathlib.Omega.{arith}
use native.Mathlib.Nat.{add-zero, zero-add}
use native.Mathlib.Numerals.{add-one}
use borrow.Author.Tests.{not-false}
use lib.ListN.{length, set}
use lib.Seq.{sets}
use Rattle.subscription.specs.declared.Settings.{Settings}
use Rattle.lists.specs.Search.{some, count}
use Rattle.entries.specs.Paths.{entry}
use Rattle.rules.specs.States.{State, fresh, report_open, well_kept}
use Rattle.rules.specs.Machine.{Outcome, outcome, Turn, bad_outcome, first_of, ready, next_up, reported, completed_in, round_from, step, run}
use Rattle.rules.specs.Machine.{turned as turned_by}
use Rattle.rules.specs.Histories.{numbered}
use Rattle.heard.specs.Hearing.{notes_in}
use Rattle.heard.specs.Playing.{Played, also, play, turned, bare, cramped, allowed_by}
use Rattle.heard.specs.Demand.{noted, RoundBegins, NobodyTwice, RoundHears, RoundCallPlays}
use Rattle.rules.specs.Calls as call
use Rattle.lists.proofs.Bools.{split, or_neither}
use Rattle.lists.proofs.Counts.{both_fewer, count_none, count_some, count_every, some_cons}
use Rattle.changes.proofs.Answering.{watermark_below}
use Rattle.rules.proofs.Clauses.{round_objects}
use Rattle.rules.proofs.Acts.{act_round, round_ends, round_over, round_goes_on, round_falls_silent, run_none}
use Rattle.rules.proofs.Kept.{always_well_kept}
use Rattle.rules.proofs.Objections.{unobjected, no_objection}
use Rattle.rules.proofs.Refusals.{unrefused_acts, seven_exactly}
use Rattle.rules.proofs.Sound.{Sound, kept_sound, sound_kept}
use Rattle.rules.proofs.Steps.{turn_sound, turn_shut}
use Rattle.rules.proofs.Turns.{complete_step}
use Rattle.heard.proofs.Sane.{sane_step}
use Rattle.heard.proofs.Histories.{fresh_sane, sane_run, note_tracked, tracked_run}
use Rattle.heard.proofs.Waiting.{Begun, waiting}
use Rattle.heard.proofs.Playing.{play_stops, play_goes_on, play_ends, play_cut, out_fewer, nobody_twice, falls_silent}
use Rattle.heard.proofs.RoundHears.{silent_heard}

begun : (at : Settings) (s : State) → well_kept s ≡ true → RoundBegins at s → Begun s
begun at s well r = record { well = well; shut = r.shut; apart = count_none cramped s.stored r.apart }

-- no more may speak than are stored
allowed_most : (at : Settings) (s : State) → count (allowed_by at.now) s.stored ≤ length s.stored
allowed_most at s = omega (arith, both_fewer (λ x. true) (allowed_by at.now) s.stored, count_every s.stored)

pub round_nobody_twice : NobodyTwice
round_nobody_twice capacity before at turns able r plain =
    let s = run before (fresh capacity) in
    let b = begun at s (always_well_kept capacity before able) r in (
      nobody_twice at r.early turns s b plain,
      omega (arith, out_fewer at r.early turns s b plain, allowed_most at s),
      λ enough. falls_silent at r.early turns s b plain (omega (arith, allowed_most at s)),
    )

pub round_hears : RoundHears
round_hears capacity before since endpoint cluster attr i at turns able few live unheard r plain waits silent =
    let s = run before (fresh capacity) in
    let u = noted capacity before endpoint cluster attr in
    let k = s.log.next in
    let h = sane_run 0 before (fresh capacity) (omega arith) (fresh_sane capacity able) in
    let low = h.few in
    let pos = watermark_below s.log (kept_sound s h.well).log in
    let next = sane_step (0 + notes_in before) (call.note endpoint cluster attr) s refl (omega arith) h in
    let start = note_tracked i (0 + notes_in before) s endpoint cluster attr (omega arith) h in
    let now = tracked_run i k (entry endpoint cluster attr k) (omega arith) (0 + notes_in before + 1) since u (omega arith) next unheard start in
    let sane = sane_run (0 + notes_in before + 1) since u (omega arith) next in
    silent_heard i k (entry endpoint cluster attr k) (omega arith) now.0 at r.early (0 + notes_in before + 1 + notes_in since) turns (run since u)
    (begun at (run since u) sane.well r) plain (omega arith) sane now.1
    (count_some (waiting at.now i) (run since u).stored waits) silent

-- ---- the round call

-- what the call answers and leaves, by what the round did after so many hand-outs
abbrev told : ℕ → List ℕ → Played → Outcome
told n ids p = outcome (call.rounded (n + length p.out) p.silent (sets ids n p.out)) p.state

one_more : (n : ℕ) (ids : List ℕ) (id : ℕ) (p : Played) → told (n + 1) (set ids n id) p ≡ told n ids (also id p)
one_more n ids id p =
    let more : n + 1 + length p.out ≡ n + suc (length p.out) = omega arith in
    rw (more, add-one n)

play_end : (at : Settings) (s : State) → well_kept s ≡ true → report_open s ≡ false
    → play at [] s ≡ record { out = []; state = s; silent = not (some (ready at s) s.stored) }
unfolding play
play_end at s well shut =
    ap (λ b. record { out = []; state = s; silent = b })
    (split (some (ready at s) s.stored) (λ e. play_cut at s well shut e ∙ sym (ap not e)) (λ e. play_ends at s well shut e ∙ sym (ap not e)))

-- the call goes as the round does
round_stands : (at : Settings) (os : List ℕ) (t : Turn) → Sound t.state → report_open t.state ≡ false → some bad_outcome os ≡ false
    → round_ends at (round_from at os t) ≡ told t.hand_outs t.ids (play at (map (bare at.events) os) t.state)
round_stands at [] t h shut good =
    ap (round_ends at) (round_over at t)
    ∙ ap (λ n. outcome (call.rounded n (not (some (ready at t.state) t.state.stored)) t.ids) t.state) (sym (add-zero t.hand_outs))
    ∙ sym (ap (told t.hand_outs t.ids) (play_end at t.state (sound_kept t.state h) shut))
round_stands at (o ∷ os) t h shut good =
    let s = t.state in
    let well = sound_kept s h in
    let w = or_neither (bad_outcome o) (some bad_outcome os) (sym (some_cons bad_outcome o os) ∙ good) in
    let id = (next_up at s).id in
    let s1 = (reported at s).state in
    let us = map (bare at.events) os in
    split (some (ready at s) s.stored)
    (λ e. let same : turned id (bare at.events o) s1 ≡ (completed_in id o s1).state =
    run_none _ ∙ ap (λ z. (step (call.complete id o) z).state) (run_none s1) ∙ ap (λ r. r.state) (complete_step at o s h shut e w.0) in
    ap (round_ends at) (round_goes_on at o os t e)
    ∙ round_stands at os (turned_by at o t) (turn_sound s at o h shut e) (turn_shut s at o shut e) w.1
    ∙ ap (λ z. told (t.hand_outs + 1) (set t.ids t.hand_outs id) (play at us z)) (sym same)
    ∙ one_more t.hand_outs t.ids id (play at us (turned id (bare at.events o) s1))
    ∙ sym (ap (told t.hand_outs t.ids) (play_goes_on at s well shut us (bare at.events o) e)))
    (λ e. ap (round_ends at) (round_falls_silent at o os t e)
    ∙ ap (λ b. outcome (call.rounded t.hand_outs (not b) t.ids) s) e
    ∙ ap (λ n. outcome (call.rounded n true t.ids) s) (sym (add-zero t.hand_outs))
    ∙ sym (ap (told t.hand_outs t.ids) (play_stops at s well shut us (bare at.events o) e)))

pub round_call_plays : RoundCallPlays
round_call_plays at os ids s unrefused =
    let a = unobjected _ _ _ (sym (ap first_of (round_objects s at os ids)) ∙ no_objection (call.round at os ids) s unrefused) in
    let shut = (unobjected _ _ _ a.1).0 in
    let good = (or_neither (some bad_outcome os) _ a.0).0 in
    let well = not-false (well_kept s) (sym (seven_exactly (call.round at os ids) s) ∙ ap (numbered 7) unrefused) in
    let p = play at (map (bare at.events) os) s in
    unrefused_acts (call.round at os ids) s unrefused
    ∙ act_round s at os ids
    ∙ round_stands at os (record { hand_outs = 0; ids = ids; state = s }) (kept_sound s well) shut good
    ∙ ap (λ n. outcome (call.rounded n p.silent (sets ids 0 p.out)) p.state) (zero-add (length p.out))
