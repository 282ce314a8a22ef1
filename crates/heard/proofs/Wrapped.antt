-- The bound on the notes is needed: with the 2^64th note of one path identities have come round, and a subscription that has not heard of the
-- change is told that there is none. Told by a law over n notes, and not by computing them.
-- Assumes nothing.
use mathlib.Core.Path.{◌≡◌, refl, ap, ◌∙◌}
use mathlib.Core.Bool.{true, false}
use mathlib.Core.List.{List, [], ◌∷◌, ◌++◌}
use Prim.Native.Nat.{ℕ, zero, suc, ◌+◌, ◌<◌}
use native.Mathlib.Omega.{arith}
use native.Mathlib.Nat.{add-zero}
use borrow.Author.Tests.{ne_eqb}
use lib.Dec.{eqb}
use Rattle.lists.specs.Search.{some, count}
use Rattle.entries.specs.Paths.{entry}
use Rattle.changes.specs.Logs.{holding, kept, identity_after, entries_of}
use Rattle.changes.specs.Logs.{noted as log_after}
use Rattle.notes.specs.Notes.{entered}
use Rattle.instants.specs.Instants.{instant}
use Rattle.rules.specs.States.{State, fresh, id_live, well_kept}
use Rattle.rules.specs.Calls.{Op}
use Rattle.rules.specs.Machine.{first_of, with_log, outcome, step, run}
use Rattle.rules.specs.Rounds.{handed_id, calls_for, plainly}
use Rattle.heard.specs.Hearing.{is_note, notes_in, unheard_by, unheard}
use Rattle.heard.specs.Demand.{noted}
use Rattle.rules.specs.Calls as call
use Rattle.lists.proofs.Counts.{some_nil, count_nil, count_cons, count_append}
use Rattle.changes.proofs.Answering.{entries_held, next_held, note_answer}
use Rattle.changes.proofs.Promises.{after_last, after_others}
use Rattle.rules.proofs.Clauses.{note_objects, refusal_kept, first_none}
use Rattle.rules.proofs.Acts.{act_note, run_more}
use Rattle.rules.proofs.Refusals.{unrefused_acts}
use Rattle.rules.proofs.Computing.{all_rules}
use Rattle.heard.proofs.Witness.{request, at}

abbrev pub the_note : Op
the_note = call.note 3 6 0

-- so many notes of one path
unfoldable pub notes : ℕ → List Op
notes zero = []
notes (suc n) = the_note ∷ notes n

-- a note, and a screen that is stored since: it has seen the identity 1
abbrev pub before : List Op
before = the_note ∷ call.add request 0 (instant 1000) ∷ call.complete 1 0 ∷ []

-- that state with a log of one entry
abbrev held : ℕ → ℕ → State
held k next = with_log (run before (fresh 2)) (holding (entry 3 6 0 k ∷ []) next)

-- the history begins so
begins : run before (fresh 2) ≡ held 1 2
unfolding all_rules
begins = refl

held_well : (k next : ℕ) → 0 < next → well_kept (held k next) ≡ true
unfolding all_rules
held_well k next h = rw (ne_eqb next 0 (λ e. omega (arith, e)))

log_kept_lem : (k next : ℕ) → 0 < next → kept (holding (entry 3 6 0 k ∷ []) next) ≡ true
unfolding all_rules
log_kept_lem k next h = rw (ne_eqb next 0 (λ e. omega (arith, e)))

taken : (k next : ℕ) → entered (entry 3 6 0 next) (entry 3 6 0 k ∷ []) ≡ (entry 3 6 0 next ∷ [])
unfolding all_rules
taken k next = refl

live : (k next : ℕ) → id_live 1 (held k next) ≡ true
unfolding all_rules
live k next = refl

-- a note is taken
noted_so : (k next : ℕ) → 0 < next
    → step the_note (held k next) ≡ outcome (call.heard next true) (with_log (held k next) (log_after (held k next).log 3 6 0).log)
noted_so k next h =
    let s = held k next in
    let served = refusal_kept the_note s (held_well k next h) ∙ ap first_of (note_objects s 3 6 0) ∙ first_none in
    unrefused_acts the_note s served ∙ act_note s 3 6 0 ∙ ap (λ n. outcome (call.heard n true) (with_log s (log_after s.log 3 6 0).log)) (next_held _ next)

-- the entry takes each new identity
one_note : (k next : ℕ) → 0 < next → (step the_note (held k next)).state ≡ held next (identity_after next)
one_note k next h =
    let s = held k next in
    ap (λ r. r.state) (noted_so k next h)
    ∙ ap (λ r. with_log s r.log) (note_answer s.log (log_kept_lem k next h) 3 6 0)
    ∙ ap (λ n. with_log s (holding (entered (entry 3 6 0 n) (entries_of s.log)) (identity_after n))) (next_held _ next)
    ∙ ap (λ l. with_log s (holding l (identity_after next))) (ap (entered (entry 3 6 0 next)) (entries_held (entry 3 6 0 k ∷ []) next) ∙ taken k next)

-- n notes further on, as long as identities grow
after_notes_lem : (n k : ℕ) (ops : List Op) → 0 < k → k + n < 18446744073709551615
    → run (notes n ++ ops) (held k (k + 1)) ≡ run ops (held (k + n) (k + n + 1))
unfolding notes
after_notes_lem zero k ops pos low = rw (add-zero k)
after_notes_lem (suc n) k ops pos low =
    let more : k + 1 + n ≡ k + suc n = omega arith in
    run_more the_note (notes n ++ ops) (held k (k + 1))
    ∙ ap (run (notes n ++ ops)) (one_note k (k + 1) (omega arith) ∙ ap (held (k + 1)) (after_others (k + 1) (omega arith)))
    ∙ after_notes_lem n (k + 1) ops (omega arith) (omega arith)
    ∙ ap (λ m. run ops (held m (m + 1))) more

-- a note leaves the screen live, and hands it out to nobody
still : (k next : ℕ) (ops : List Op) → 0 < next
    → unheard_by 1 false (the_note ∷ ops) (held k next) ≡ unheard_by 1 false ops (step the_note (held k next)).state
unfolding unheard_by
still k next ops h =
    rw (live k next) (ap (λ r. unheard_by 1 (some (eqb 1) (handed_id r.answer)) ops (step the_note (held k next)).state) (noted_so k next h) ∙ rw (some_nil (eqb 1)))

-- through them the screen stays live and unheard
unheard_notes : (n k : ℕ) (ops : List Op) → 0 < k → k + n < 18446744073709551615
    → unheard_by 1 false (notes n ++ ops) (held k (k + 1)) ≡ unheard_by 1 false ops (held (k + n) (k + n + 1))
unfolding notes unheard_by
unheard_notes zero k ops pos low = rw (add-zero k)
unheard_notes (suc n) k ops pos low =
    let more : k + 1 + n ≡ k + suc n = omega arith in
    still k (k + 1) (notes n ++ ops) (omega arith)
    ∙ ap (unheard_by 1 false (notes n ++ ops)) (one_note k (k + 1) (omega arith) ∙ ap (held (k + 1)) (after_others (k + 1) (omega arith)))
    ∙ unheard_notes n (k + 1) ops (omega arith) (omega arith)
    ∙ ap (λ m. unheard_by 1 false ops (held m (m + 1))) more

-- ---- the 2^64th note

counted : (n : ℕ) → count is_note (notes n) ≡ n
unfolding notes
counted zero = count_nil is_note
counted (suc n) = omega (arith, count_cons is_note the_note (notes n), counted n)

two_more : count is_note (the_note ∷ the_note ∷ call.report (at 61000) ∷ []) ≡ 2
unfolding all_rules
two_more = refl

one_before : notes_in before ≡ 1
unfolding all_rules
one_before = refl

-- the rest of the history: m more notes, two by which identities come round, and a report that falls due
abbrev pub since : ℕ → List Op
since m = notes m ++ (the_note ∷ the_note ∷ call.report (at 61000) ∷ [])

-- there is no round in it
plain_since : (m : ℕ) (s : State) → plainly (since m) s ≡ since m
unfolding notes plainly calls_for
plain_since zero s = refl
plain_since (suc m) s = ap (λ l. the_note ∷ l) (plain_since m (step the_note s).state)

-- and the screen is live and unheard while its report is open
unheard_report : unheard_by 1 false (call.report (at 61000) ∷ []) (held 1 2) ≡ true
unfolding all_rules unheard_by
unheard_report = refl

seen_already : (step (call.attribute 1 3 6 0) (run (call.report (at 61000) ∷ []) (held 1 2))).answer ≡ call.yes_no false
unfolding all_rules
seen_already = refl

module _ (m : ℕ) (all : m + 4 ≡ 18446744073709551616) where
  -- the note that is followed is the second
  second : noted 2 before 3 6 0 ≡ held 2 3
  second = ap (λ s. (step the_note s).state) begins ∙ one_note 1 2 (omega arith) ∙ ap (held 2) (after_others 2 (omega arith))

  -- with the last identity given, the next one is the first again
  wraps : (step the_note (held (2 + m) (2 + m + 1))).state ≡ held 18446744073709551615 1
  wraps =
      let last : 2 + m + 1 ≡ 18446744073709551615 = omega arith in
      one_note (2 + m) (2 + m + 1) (omega arith)
      ∙ ap (λ n. held n (identity_after n)) last
      ∙ ap (held 18446744073709551615) after_last

  first_again : (step the_note (held 18446744073709551615 1)).state ≡ held 1 2
  first_again = one_note 18446744073709551615 1 (omega arith) ∙ ap (held 1) (after_others 1 (omega arith))

  round : (ops : List Op) → run (the_note ∷ the_note ∷ ops) (held (2 + m) (2 + m + 1)) ≡ run ops (held 1 2)
  round ops =
      run_more the_note (the_note ∷ ops) (held (2 + m) (2 + m + 1))
      ∙ ap (run (the_note ∷ ops)) wraps
      ∙ run_more the_note ops (held 18446744073709551615 1)
      ∙ ap (run ops) first_again

  unheard_round : (ops : List Op) → unheard_by 1 false (the_note ∷ the_note ∷ ops) (held (2 + m) (2 + m + 1)) ≡ unheard_by 1 false ops (held 1 2)
  unheard_round ops =
      still (2 + m) (2 + m + 1) (the_note ∷ ops) (omega arith)
      ∙ ap (unheard_by 1 false (the_note ∷ ops)) wraps
      ∙ still 18446744073709551615 1 ops (omega arith)
      ∙ ap (unheard_by 1 false ops) first_again

  pub so_many : notes_in before + 1 + notes_in (since m) ≡ 18446744073709551616
  so_many = omega (arith, count_append is_note (notes m) (the_note ∷ the_note ∷ call.report (at 61000) ∷ []), counted m, two_more, one_before)

  -- every other hypothesis holds
  pub still_unheard : (id_live 1 (run before (fresh 2)) ≡ true) × (unheard 1 (since m) (noted 2 before 3 6 0) ≡ true)
  still_unheard = (
    ap (id_live 1) begins ∙ live 1 2,
    ap (unheard 1 (since m)) second
        ∙ ap (λ ops. unheard_by 1 false ops (held 2 3)) (plain_since m (held 2 3))
        ∙ unheard_notes m 2 (the_note ∷ the_note ∷ call.report (at 61000) ∷ []) (omega arith) (omega arith)
        ∙ unheard_round (call.report (at 61000) ∷ [])
        ∙ unheard_report,
  )

  -- and the answer is no
  pub told_no_change : (step (call.attribute 1 3 6 0) (run (since m) (noted 2 before 3 6 0))).answer ≡ call.yes_no false
  told_no_change =
      ap (λ s. (step (call.attribute 1 3 6 0) s).answer)
      (ap (run (since m)) second
      ∙ after_notes_lem m 2 (the_note ∷ the_note ∷ call.report (at 61000) ∷ []) (omega arith) (omega arith)
      ∙ round (call.report (at 61000) ∷ []))
      ∙ seen_already
