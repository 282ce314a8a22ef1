-- Demand 3 of the code: its histories and rounds go as the machine's, of which it is proved in crate heard.
-- Assumes nothing.
use Rattle.std.specs.Prelude.{Option, Some, None}
use mathlib.Core.Path.{◌≡◌, refl, sym, ap, ◌∙◌, subst}
use mathlib.Core.Bool.{true, ◌&&◌}
use mathlib.Core.List.{List, [], ◌∷◌, map}
use Prim.Native.Nat.{ℕ, ◌<◌}
use native.Mathlib.Omega.{arith}
use lib.Dec.{eqb}
use lib.ListN.{length}
use lib.Seq.{sets}
use Rattle.refusal.specs.declared.Refusal.{Refusal}
use Rattle.refusal.specs.declared.Refusal.TheVariants.{Full, NotOpen, ReportOpen, IdLive, BadArgument, PrimingOpen, NotWellKept, BadLine}
use Rattle.refusal.specs.Numbers.{number_of}
use Rattle.subscription.specs.declared.Settings.{Settings}
use Rattle.places.specs.declared.Table.{Table}
use Rattle.lists.specs.Search.{some, distinct}
use Rattle.rules.specs.States.{State, fresh, capacity_fits, has_id, id_live, well_kept}
use Rattle.rules.specs.Calls.{Op}
use Rattle.rules.specs.Machine.{refusal, step, run}
use Rattle.rules.specs.Numbers.{number_in, code_of}
use Rattle.rules.specs.Rounds.{handed_id}
use Rattle.heard.specs.Hearing.{unheard}
use Rattle.heard.specs.Playing.{as_call, Turn, with_events, says_nothing, nobody, whom, bare, allowed_by}
use Rattle.heard.specs.Playing as machine
use Rattle.heard.specs.Demand.{RoundBegins}
use Rattle.heard.specs.Demand as demand
use Rattle.places.specs.Views.{view, fresh_table}
use Rattle.places.specs.Tidiness.{Whole}
use Rattle.demands.specs.Histories.{reply_to, table_after}
use Rattle.demands.specs.Playing.{Played, turned, reported, play}
use Rattle.demands.specs.Unheard.{come, noted, UnheardStaysYes, NobodyTwice, RoundHears, RoundCallPlays}
use Rattle.rules.specs.Calls as call
use Rattle.lists.proofs.Bools.{split}
use Rattle.rules.proofs.Refusals.{same_refusal}
use Rattle.places.proofs.Tidying.{whole_lasts}
use Rattle.heard.proofs.Playing.{play_nil, play_nobody, play_somebody}
use Rattle.heard.proofs.Unheard.{unheard_stays_yes}
use Rattle.heard.proofs.Rounds.{round_nobody_twice, round_hears, round_call_plays}
use Rattle.demands.proofs.Histories.{reply_agrees, reply_lasts, reply_state, reply_well, fresh_whole, history_lasts, history_states, history_well, begun, code_states}

-- a round of the code, in the machine's words
abbrev as_machine : Played → machine.Played
as_machine p = record { out = p.out; state = view p.table; silent = p.silent }

-- a whole table that is well kept: where a history, or a round, can go on
record Sound (t : Table) : Type 0 where
  whole : Whole t
  well : well_kept (view t) ≡ true

sound_reply : (op : Op) (t : Table) → Sound t → Sound (reply_to op t).table
sound_reply op t h = record { whole = reply_lasts whole_lasts fresh_whole op t h.whole; well = reply_well op t h.whole h.well }

sound_history : (ops : List Op) (t : Table) → Sound t → Sound (table_after ops t)
sound_history ops t h = record { whole = history_lasts whole_lasts fresh_whole ops t h.whole; well = history_well ops t h.whole h.well }

sound_come : (capacity : ℕ) (before : List Op) → capacity_fits capacity ≡ true → Sound (come capacity before)
sound_come capacity before able =
    sound_history before (fresh_table capacity) (record { whole = fresh_whole capacity; well = begun capacity able [] })

-- what a report ends as in the code is what it ends as in the machine
turned_view : (id : ℕ) (u : Turn) (t : Table) → Sound t → view (turned id u t) ≡ machine.turned id u (view t)
turned_view id u t h =
    let t₁ = table_after (map as_call u.during) t in
    let h₁ = sound_history (map as_call u.during) t h in
    let t₂ = (reply_to (call.complete id u.outcome) t₁).table in
    let h₂ = sound_reply (call.complete id u.outcome) t₁ h₁ in
    history_states (map as_call u.after) t₂ h₂.whole h₂.well
    ∙ ap (run (map as_call u.after))
    (reply_state (call.complete id u.outcome) t₁ h₁.whole h₁.well
    ∙ ap (λ s. (step (call.complete id u.outcome) s).state) (history_states (map as_call u.during) t h.whole h.well))

sound_turned : (id : ℕ) (u : Turn) (t : Table) → Sound t → Sound (turned id u t)
sound_turned id u t h =
    sound_history (map as_call u.after) _ (sound_reply (call.complete id u.outcome) _ (sound_history (map as_call u.during) t h))

-- a round of the code goes as the machine's
plays_agree : (at : Settings) (us : List Turn) (t : Table) → Sound t → as_machine (play at us t) ≡ machine.play at us (view t)
unfolding play
plays_agree at [] t h =
    ap (λ o. record { out = []; state = view t; silent = says_nothing o.answer }) (reply_agrees t h.whole h.well (call.report at))
    ∙ sym (play_nil at (view t))
plays_agree at (u ∷ us) t h =
    let op = call.report (with_events at u.events) in
    let agree = reply_agrees t h.whole h.well op in
    let same = ap (λ o. handed_id o.answer) agree in
    let id = whom (handed_id (reported at u t).answer) in
    let next = (reported at u t).table in
    let fine = sound_reply op t h in
    split (nobody (handed_id (reported at u t).answer))
    (λ e. rw (e, play)
    (ap (λ o. record { out = []; state = view t; silent = says_nothing o.answer }) agree
    ∙ sym (play_nobody at u us (view t) (sym (ap nobody same) ∙ e))))
    (λ e. rw (e, play)
    (ap (machine.also id) (plays_agree at us (turned id u next) (sound_turned id u next fine))
    ∙ ap (λ s. machine.also id (machine.play at us s)) (turned_view id u next fine)
    ∙ ap (λ o. machine.also (whom (handed_id o.answer)) (machine.play at us (machine.turned (whom (handed_id o.answer)) u o.state))) agree
    ∙ sym (play_somebody at u us (view t) (sym (ap nobody same) ∙ e))))

-- ---- from a fresh table

module _ (capacity : ℕ) (able : capacity_fits capacity ≡ true) (before : List Op) where
  come_view : view (come capacity before) ≡ run before (fresh capacity)
  come_view = code_states capacity able before

  come_sound : Sound (come capacity before)
  come_sound = sound_come capacity before able

  come_plays : (at : Settings) (turns : List Turn) → as_machine (play at turns (come capacity before)) ≡ machine.play at turns (run before (fresh capacity))
  come_plays at turns = plays_agree at turns (come capacity before) come_sound ∙ ap (machine.play at turns) come_view

  module _ (since : List Op) (endpoint cluster attr : ℕ) where
    noted_view : view (noted capacity before endpoint cluster attr) ≡ demand.noted capacity before endpoint cluster attr
    noted_view =
        reply_state (call.note endpoint cluster attr) (come capacity before) come_sound.whole come_sound.well
        ∙ ap (λ s. (step (call.note endpoint cluster attr) s).state) come_view

    since_sound : Sound (table_after since (noted capacity before endpoint cluster attr))
    since_sound = sound_history since _ (sound_reply (call.note endpoint cluster attr) (come capacity before) come_sound)

    since_view : view (table_after since (noted capacity before endpoint cluster attr)) ≡ run since (demand.noted capacity before endpoint cluster attr)
    since_view =
        let h = sound_reply (call.note endpoint cluster attr) (come capacity before) come_sound in
        history_states since (noted capacity before endpoint cluster attr) h.whole h.well ∙ ap (run since) noted_view

-- "No change goes unheard.", of the code
pub code_unheard : UnheardStaysYes
code_unheard capacity before since endpoint cluster attr i e c a able few live quiet under there =
    let t = table_after since (noted capacity before endpoint cluster attr) in
    let v = since_view capacity able before since endpoint cluster attr in
    let h = since_sound capacity able before since endpoint cluster attr in
    ap (λ o. o.answer) (reply_agrees t h.whole h.well (call.attribute i e c a))
    ∙ ap (λ s. (step (call.attribute i e c a) s).answer) v
    ∙ unheard_stays_yes capacity before since endpoint cluster attr i e c a able few
    (sym (ap (id_live i) (come_view capacity able before)) ∙ live)
    (sym (ap (unheard i since) (noted_view capacity able before since endpoint cluster attr)) ∙ quiet)
    under
    (sym (ap (λ s. some (has_id i) s.opens) v) ∙ there)

pub code_nobody_twice : NobodyTwice
code_nobody_twice capacity before at turns able r plain =
    let v = come_view capacity able before in
    let p = come_plays capacity able before at turns in
    let w = round_nobody_twice capacity before at turns able (subst (RoundBegins at) v r) plain in
    let many = ap (λ q. length q.out) p in
    let held = ap (λ s. length s.stored) v in
    let few = w.1 in (
      ap (λ q. distinct (λ id. id) q.out) p ∙ w.0,
      omega arith,
      λ enough. ap (λ q. q.silent) p ∙ w.2 (omega arith),
    )

pub code_round_hears : RoundHears
code_round_hears capacity before since endpoint cluster attr i at turns able few live quiet r plain waits silent =
    let t = table_after since (noted capacity before endpoint cluster attr) in
    let v = since_view capacity able before since endpoint cluster attr in
    let p = plays_agree at turns t (since_sound capacity able before since endpoint cluster attr) ∙ ap (machine.play at turns) v in
    ap (λ q. some (λ y. eqb y i) q.out) p
    ∙ round_hears capacity before since endpoint cluster attr i at turns able few
    (sym (ap (id_live i) (come_view capacity able before)) ∙ live)
    (sym (ap (unheard i since) (noted_view capacity able before since endpoint cluster attr)) ∙ quiet)
    (subst (RoundBegins at) v r)
    plain
    (sym (ap (λ s. some (λ x. has_id i x && allowed_by at.now x) s.stored) v) ∙ waits)
    (sym (ap (λ q. q.silent) p) ∙ silent)

-- every refusal has a number
number_positive : (why : Refusal) → 0 < number_of why
number_positive Full = omega arith
number_positive NotOpen = omega arith
number_positive ReportOpen = omega arith
number_positive IdLive = omega arith
number_positive BadArgument = omega arith
number_positive PrimingOpen = omega arith
number_positive NotWellKept = omega arith
number_positive BadLine = omega arith

-- the round call of the code
unrefused : (s : State) (op : Op) → code_of (step op s).answer ≡ 0 → refusal op s ≡ None
unrefused s op h = go (refusal op s) (sym (ap number_in (same_refusal op s)) ∙ h)
  where
    go : (r : Option Refusal) → number_in r ≡ 0 → r ≡ None
    go None e = refl
    go (Some why) e = absurd (let p = number_positive why in omega arith)

pub code_round_call : RoundCallPlays
code_round_call capacity before at outcomes ids able served =
    let t = come capacity before in
    let h = come_sound capacity able before in
    let op = call.round at outcomes ids in
    let agree = ap (λ o. o.answer) (reply_agrees t h.whole h.well op) in
    let p = sym (plays_agree at (map (bare at.events) outcomes) t h) in
    agree
    ∙ ap (λ o. o.answer) (round_call_plays at outcomes ids (view t) (unrefused (view t) op (sym (ap code_of agree) ∙ served)))
    ∙ ap (λ q. call.rounded (length q.out) q.silent (sets ids 0 q.out)) p
