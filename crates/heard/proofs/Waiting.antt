-- Whoever was handed out in a round waits: at that instant it may not speak again. So each turn leaves one fewer who may.
-- Assumes nothing.
use mathlib.Core.Path.{◌≡◌, refl, sym, ap, ◌∙◌}
use mathlib.Core.Logic.{◌⊎◌, inl, inr, ⊎_elim}
use mathlib.Core.Bool.{Bool, true, false, not, cond, and-false, ◌&&◌}
use Prim.Native.Nat.{ℕ, ◌+◌, ◌≤◌}
use native.Mathlib.Omega.{arith}
use borrow.Author.Tests.{lt-leb, leb-true, le-ltb, eqb-true, eq-eqb, not-false}
use lib.Dec.{eqb, leb}
use Rattle.instants.specs.declared.Instant.{Instant}
use Rattle.instants.specs.Instants.{last_instant}
use Rattle.subscription.specs.declared.Settings.{Settings}
use Rattle.subscription.specs.declared.Subscription.{Subscription}
use Rattle.lists.specs.Search.{one, some, count}
use Rattle.changes.specs.Logs.{watermark_of}
use Rattle.subscription.specs.Life.{blank, closed, keeps}
use Rattle.subscription.specs.When.{allowed_of}
use Rattle.rules.specs.States.{State, is_report, report_open, has_id, well_kept}
use Rattle.rules.specs.Machine.{bad_outcome, changed_for, ready, next_up, opened_in, reported}
use Rattle.heard.specs.Playing.{Turn, with_events, turned, plain_outcome, spaced, cramped, allowed_by}
use Rattle.lists.proofs.Bools.{and_both, and_true, or_either}
use Rattle.lists.proofs.Counts.{both_fewer, one_yes, one_no, none_one, count_taken, first_meets}
use Rattle.subscription.proofs.Laws.{opened_id, closed_id}
use Rattle.subscription.proofs.Watermarks.{opened_shortest, opened_longest, opened_opened, closed_shortest, closed_longest, kept_most}
use Rattle.subscription.proofs.Spacing.{sent_waits, retry_waits, reportable_allowed}
use Rattle.rules.proofs.Clauses.{has_id_is, report_open_is}
use Rattle.rules.proofs.Acts.{ready_is}
use Rattle.rules.proofs.Keeping.{report_sound}
use Rattle.rules.proofs.Sound.{kept_sound, sound_kept}
use Rattle.heard.proofs.Turning.{again, again_kept, turn_opens, turn_well, turn_counts}

-- it is j, and may speak
abbrev pub waiting : Instant → ℕ → Subscription → Bool
waiting now j x = has_id j x && allowed_by now x

-- where a round can begin, and where each turn leaves it
pub record Begun (s : State) : Type 0 where
  pub well : well_kept s ≡ true
  pub shut : report_open s ≡ false
  pub apart : count cramped s.stored ≡ 0

-- of the customer's outcomes only sent and retry store it again
plain_kept : (u : Turn) → plain_outcome u.outcome ≡ true → u.outcome ≤ 2 → (u.outcome ≡ 0) ⊎ (u.outcome ≡ 2)
plain_kept u h most =
    ⊎_elim (λ e. inl (eqb-true u.outcome 0 e)) (λ e. inr (let least = leb-true 2 u.outcome (and_both _ _ e).0 in omega arith))
    (or_either (eqb u.outcome 0) (leb 2 u.outcome && leb u.outcome 4) h)

pub plain_good : (u : Turn) → plain_outcome u.outcome ≡ true → bad_outcome u.outcome ≡ false
plain_good u h =
    ⊎_elim (λ e. le-ltb 4 u.outcome (let z = eqb-true u.outcome 0 e in omega arith))
    (λ e. le-ltb 4 u.outcome (leb-true u.outcome 4 (and_both (leb 2 u.outcome) (leb u.outcome 4) e).1))
    (or_either (eqb u.outcome 0) (leb 2 u.outcome && leb u.outcome 4) h)

-- whoever was opened now, and is stored again, waits
module _ (y : Subscription) (time : y.opened.ms + 65535000 ≤ last_instant.ms) (room : spaced y ≡ true) where
  closed_waits : (u : Turn) → plain_outcome u.outcome ≡ true → keeps y u.outcome ≡ true → leb (allowed_of (closed y u.outcome)).ms y.opened.ms ≡ false
  closed_waits u h k =
      let a = and_both (leb 1 y.shortest) _ room in
      let b = and_both (leb y.shortest 65535) (leb y.longest 65535) a.1 in
      ⊎_elim
      (λ e. rw e (lt-leb _ _ (sent_waits y time (leb-true 1 y.shortest a.0) (leb-true y.shortest 65535 b.0))))
      (λ e. rw e (lt-leb _ _ (retry_waits y time (leb-true y.longest 65535 b.1))))
      (plain_kept u h (kept_most y u.outcome k))

-- ---- a turn

module _ (at : Settings) (time : at.now.ms + 65535000 ≤ last_instant.ms) (s : State) (b : Begun s) (u : Turn) (h : plain_outcome u.outcome ≡ true)
    (found : some (ready (with_events at u.events) s) s.stored ≡ true) where
  abbrev at' : Settings
  at' = with_events at u.events

  abbrev x : Subscription
  x = next_up at' s

  abbrev y : Subscription
  y = opened_in at' s x

  abbrev z : Subscription
  z = closed y u.outcome

  abbrev next : State
  next = turned x.id u (reported at' s).state

  pub fine : well_kept (reported at' s).state ≡ true
  fine = sound_kept _ (report_sound s at' (kept_sound s b.well) b.shut)

  pub counts : (p : Subscription → Bool)
      → count p next.stored + one (p x) ≡ count p s.stored + cond (again at' s b.well found u (plain_good u h) fine) (one (p z)) 0
  counts p = turn_counts at' s b.well found u (plain_good u h) fine p

  -- p of the one stored again, where it is stored again
  put : (p : Subscription → Bool) → (keeps y u.outcome ≡ true → p z ≡ false)
      → cond (again at' s b.well found u (plain_good u h) fine) (one (p z)) 0 ≡ 0
  put p f = go _ refl
    where
      go : (c : Bool) → again at' s b.well found u (plain_good u h) fine ≡ c → cond c (one (p z)) 0 ≡ 0
      go true e = one_no (f (again_kept at' s b.well found u (plain_good u h) fine e))
      go false e = refl

  allowed_first : allowed_by at.now x ≡ true
  allowed_first =
      reportable_allowed x at.now (changed_for s x) u.events at.kind at.all
      (sym (ready_is at' s x) ∙ first_meets (ready at' s) blank s.stored found)

  spaced_first : spaced x ≡ true
  spaced_first =
      let none = b.apart in
      not-false (spaced x) (none_one (cramped x) (omega (arith, count_taken cramped (ready at' s) blank s.stored found)))

  same_room : spaced y ≡ spaced x
  same_room =
      rw (opened_shortest x (watermark_of s.log) u.events at.now, opened_longest x (watermark_of s.log) u.events at.now)

  still_room : spaced z ≡ true
  still_room = rw (closed_shortest y u.outcome, closed_longest y u.outcome) (same_room ∙ spaced_first)

  opened_now : y.opened ≡ at.now
  opened_now = opened_opened x (watermark_of s.log) u.events at.now

  waits : keeps y u.outcome ≡ true → allowed_by at.now z ≡ false
  waits k =
      ap (λ i. leb (allowed_of z).ms i.ms) (sym opened_now)
      ∙ closed_waits y (rw opened_now time) (same_room ∙ spaced_first) u h k

  -- one fewer may speak
  pub one_fewer : count (allowed_by at.now) next.stored + 1 ≡ count (allowed_by at.now) s.stored
  one_fewer = omega (arith, counts (allowed_by at.now), put (allowed_by at.now) waits, one_yes allowed_first)

  -- the next turn can begin
  pub turn_begun : Begun next
  turn_begun = record {
    well = turn_well at' s b.well found u (plain_good u h) fine;
    shut = report_open_is next
        ∙ ap (some is_report) (turn_opens at' s b.well found u (plain_good u h) fine)
        ∙ sym (report_open_is s)
        ∙ b.shut;
    apart = let none = b.apart in omega (arith, counts cramped, put cramped (λ _. ap not still_room));
  }

  -- whoever is handed out was waiting
  mine : waiting at.now x.id x ≡ true
  mine = and_true (has_id_is x.id x ∙ eq-eqb x.id x.id refl) allowed_first

  pub waiting_first : 1 ≤ count (waiting at.now x.id) s.stored
  waiting_first = omega (arith, count_taken (waiting at.now x.id) (ready at' s) blank s.stored found, one_yes mine)

  -- and does not wait any more
  pub this_one_spoke : count (waiting at.now x.id) next.stored ≡ 0
  this_one_spoke =
      let gone = put (waiting at.now x.id) (λ k. rw (waits k) (and-false (has_id x.id z))) in
      let single = (kept_sound s b.well).ids x.id in
      omega (arith, counts (waiting at.now x.id), gone, one_yes mine, both_fewer (has_id x.id) (allowed_by at.now) s.stored)

  -- and everyone else waits as before
  pub others_wait : (j : ℕ) → eqb x.id j ≡ false → count (waiting at.now j) next.stored ≡ count (waiting at.now j) s.stored
  others_wait j e =
      let same : z.id ≡ x.id = closed_id y u.outcome ∙ opened_id x (watermark_of s.log) u.events at.now in
      let not-x : waiting at.now j x ≡ false = rw (has_id_is j x ∙ e) in
      let not-z : waiting at.now j z ≡ false = ap (λ c. c && allowed_by at.now z) (has_id_is j z ∙ ap (λ n. eqb n j) same ∙ e) in
      omega (arith, counts (waiting at.now j), put (waiting at.now j) (λ _. not-z), one_no not-x)
