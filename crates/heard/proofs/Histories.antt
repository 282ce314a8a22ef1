-- The invariants over whole histories, rounds among them: what is unheard stays tracked, and the question about it is answered yes.
-- Assumes nothing.
use mathlib.Core.Path.{◌≡◌, refl, sym, ap, ◌∙◌}
use mathlib.Core.Bool.{Bool, true, false, not, ◌&&◌, ◌||◌}
use mathlib.Core.List.{List, [], ◌∷◌}
use Prim.Native.Nat.{ℕ, ◌+◌, ◌<◌}
use native.Mathlib.Omega.{arith}
use native.Mathlib.Nat.{add-zero, add_assoc}
use borrow.Author.Tests.{leb-false, not-true}
use Rattle.refusal.specs.declared.Refusal.TheVariants.{NotOpen}
use Rattle.entries.specs.declared.ChangedAttr.{ChangedAttr}
use Rattle.lists.specs.Search.{one, some, count}
use Rattle.entries.specs.Paths.{entry, covers}
use Rattle.instants.specs.Instants.{never_reported}
use Rattle.subscription.specs.Life.{blank}
use Rattle.rules.specs.States.{State, fresh, capacity_fits, has_id, id_live, well_kept}
use Rattle.rules.specs.Calls.{Op}
use Rattle.rules.specs.Machine.{first_of, open_with, refusal, step, run}
use Rattle.rules.specs.Rounds.{is_round, plainly}
use Rattle.heard.specs.Hearing.{is_note, notes_in, hands_out, ends_heard, acts, unheard_by}
use Rattle.rules.specs.Calls as call
use Rattle.lists.proofs.Bools.{and_both, and_left, or_neither, or_right}
use Rattle.lists.proofs.Counts.{some_cons, count_cons, count_nil, none_one, count_taken_newest, first_meets}
use Rattle.entries.proofs.Covering.{covers_self, path_covers}
use Rattle.changes.proofs.Promises.{note_new, note_grows, reached_changed, came_next}
use Rattle.changes.specs.Reach.{fresh as new-log}
use Rattle.rules.proofs.Clauses.{note_objects, attribute_objects, refusal_kept, first_passed, first_none}
use Rattle.rules.proofs.Acts.{act_note, act_attribute, run_none, run_more}
use Rattle.rules.proofs.Refusals.{unrefused_acts}
use Rattle.rules.proofs.Kept.{fresh_well_kept}
use Rattle.rules.proofs.Plain.{plainly_plain, plainly_counts, run_plainly}
use Rattle.rules.proofs.Sound.{kept_sound}
use Rattle.rules.proofs.Lives.{lives}
use Rattle.rules.proofs.Nobody.{fewer_live}
use Rattle.heard.proofs.Sane.{Sane, late, sane_step}
use Rattle.heard.proofs.Standing.{Stands, stands_step}
use Rattle.heard.proofs.Tracked.{told, told_less, untold_step}

-- ---- sane through every history

plain_sane : (n : ℕ) (ops : List Op) (s : State) → some is_round ops ≡ false → n + notes_in ops < 18446744073709551615 → Sane n s
    → Sane (n + notes_in ops) (run ops s)
plain_sane n [] s plain low h = rw (run_none s, count_nil is_note) (rw (add-zero n) h)
plain_sane n (op ∷ ops) s plain low h =
    let w = or_neither (is_round op) (some is_round ops) (sym (some_cons is_round op ops) ∙ plain) in
    let all = count_cons is_note op ops in
    rw (run_more op ops s, all, ← add_assoc n (one (is_note op)) (count is_note ops))
    (plain_sane (n + one (is_note op)) ops (step op s).state w.1 (omega arith) (sane_step n op s w.0 (omega arith) h))

notes_plainly : (ops : List Op) (s : State) → notes_in (plainly ops s) ≡ notes_in ops
notes_plainly ops s = plainly_counts is_note (λ _. refl) (λ _ _. refl) (λ _ _ _. refl) ops s

pub sane_run : (n : ℕ) (ops : List Op) (s : State) → n + notes_in ops < 18446744073709551615 → Sane n s → Sane (n + notes_in ops) (run ops s)
sane_run n ops s low h =
    let e = notes_plainly ops s in
    rw (← run_plainly ops s, ← e) (plain_sane n (plainly ops s) s (plainly_plain ops s) (omega arith) h)

pub fresh_sane : (capacity : ℕ) → capacity_fits capacity ≡ true → Sane 0 (fresh capacity)
fresh_sane capacity able = record {
  well = fresh_well_kept capacity able;
  few = omega (arith, came_next new-log (omega arith));
  early = omega (arith, count_nil (late (fresh capacity).log.next));
}

-- ---- tracked while it is unheard

-- the log stands for q with the identity k, and i has not been told
pub record Tracked (i k : ℕ) (q : ChangedAttr) (since : Bool) (s : State) : Type 0 where
  pub stands : Stands k q s.log
  pub untold : lives (told i k since) s ≡ 0

module _ (i k : ℕ) (q : ChangedAttr) (pos : 0 < k) where
  live_first : (since : Bool) (ops : List Op) (s : State) → unheard_by i since ops s ≡ true → id_live i s ≡ true
  unfolding unheard_by
  live_first since [] s h = h
  live_first since (op ∷ ops) s h = and_left (id_live i s) _ h

  plain_tracked : (n : ℕ) (since : Bool) (ops : List Op) (s : State) → some is_round ops ≡ false → n + notes_in ops < 18446744073709551615 → Sane n s
      → unheard_by i since ops s ≡ true → Tracked i k q since s → (now : Bool) × Tracked i k q now (run ops s)
  unfolding unheard_by
  plain_tracked n since [] s plain low h u t = (since, rw (run_none s) t)
  plain_tracked n since (op ∷ ops) s plain low h u t =
      let w = or_neither (is_round op) (some is_round ops) (sym (some_cons is_round op ops) ∙ plain) in
      let all = count_cons is_note op ops in
      let a = and_both (id_live i s) _ u in
      let b = and_both (not (since && (acts (refusal op s) && ends_heard i op))) _ a.1 in
      let quiet = not-true (since && (acts (refusal op s) && ends_heard i op)) b.0 in
      let few = h.few in
      let stands =
      stands_step i k q pos since s h.well a.0 t.untold t.stands op w.0
      (live_first (since || hands_out i op s) ops (step op s).state b.1) (omega arith) in
      let untold = untold_step i k pos since op s w.0 a.0 quiet t.untold in
      rw (run_more op ops s)
      (plain_tracked (n + one (is_note op)) (since || hands_out i op s) ops (step op s).state w.1 (omega arith)
      (sane_step n op s w.0 (omega arith) h) b.1 (record { stands = stands; untold = untold }))

  -- through every history that leaves i live and unheard
  pub tracked_run : (n : ℕ) (ops : List Op) (s : State) → n + notes_in ops < 18446744073709551615 → Sane n s
      → unheard_by i false (plainly ops s) s ≡ true → Tracked i k q false s → (now : Bool) × Tracked i k q now (run ops s)
  tracked_run n ops s low h u t =
      let e = notes_plainly ops s in
      rw (← run_plainly ops s) (plain_tracked n false (plainly ops s) s (plainly_plain ops s) (omega arith) h u t)

-- a note is tracked for everyone who is live when it is made: nobody has seen its identity
pub note_tracked : (i n : ℕ) (s : State) (e c a : ℕ) → s.log.next < 18446744073709551615 → Sane n s
    → Tracked i s.log.next (entry e c a s.log.next) false (step (call.note e c a) s).state
note_tracked i n s e c a low h =
    let k = s.log.next in
    let fit = (kept_sound s h.well).log in
    let served = refusal_kept (call.note e c a) s h.well ∙ ap first_of (note_objects s e c a) ∙ first_none in
    rw (unrefused_acts (call.note e c a) s served ∙ act_note s e c a)
    (record {
      stands = record {
        given = omega (arith, note_grows s.log fit e c a low);
        still = note_new s.log fit e c a (entry e c a k) (covers_self (entry e c a k));
      };
      untold = fewer_live (late k) (told i k false) (λ x t. (and_both (has_id i x) (late k x) t).1) s h.early;
    })

-- whoever is tracked and open is told of every path under the note
pub tracked_yes : (i k : ℕ) (since : Bool) (s : State) (endpoint cluster attr e c a : ℕ) → well_kept s ≡ true
    → covers (entry endpoint cluster attr 0) (entry e c a 0) ≡ true → some (has_id i) s.opens ≡ true
    → Tracked i k (entry endpoint cluster attr k) since s → (step (call.attribute i e c a) s).answer ≡ call.yes_no true
tracked_yes i k since s endpoint cluster attr e c a well under there t =
    let x = open_with i s in
    let met = first_meets (has_id i) blank s.opens there in
    let free = t.untold in
    let mine = none_one (told i k since x) (omega (arith, count_taken_newest (told i k since) (has_id i) blank s.opens there)) in
    let less = leb-false k x.seen (told_less i k since x met mine).0 in
    let changed = reached_changed s.log (entry endpoint cluster attr k) k x.seen less t.stands.still e c a
    (path_covers k x.seen (entry endpoint cluster attr 0) (entry e c a 0) ∙ under) in
    let served = refusal_kept (call.attribute i e c a) s well ∙ ap first_of (attribute_objects s i e c a) ∙ first_passed NotOpen [] (ap not there) ∙ first_none in
    ap (λ r. r.answer) (unrefused_acts (call.attribute i e c a) s served ∙ act_attribute s i e c a)
    ∙ ap call.yes_no (or_right (never_reported x.reported) changed)
