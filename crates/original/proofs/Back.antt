-- The map between the states leaves nothing out: on every history from a fresh table the state is told by the table that it is mapped to.
-- A stored one has blank opening values, the one that owns the slot is the report, and the log is settled by its entries.
-- Assumes nothing.
use Rattle.std.specs.Prelude.{Option}
use mathlib.Core.Path.{◌≡◌, refl, sym, ap, ◌∙◌}
use mathlib.Core.Bool.{Bool, true, false}
use mathlib.Core.List.{List, [], ◌∷◌, map}
use Prim.Native.Nat.{ℕ, ◌≤◌}
use native.Mathlib.Omega.{arith}
use borrow.Author.Tests.{eqb-true, eq-eqb, not-true, not-false}
use lib.Dec.{eqb}
use Rattle.lists.specs.Search.{some, count, first_by}
use Rattle.lists.proofs.Bools.{split, and_both, or_left, or_right}
use Rattle.lists.proofs.Counts.{none_one, count_nil, count_cons, count_some, some_cons, in_front}
use Rattle.changes.specs.Reach.{Tidy}
use Rattle.subscription.specs.declared.Subscription as one
use Rattle.subscription.specs.Life.{blank}
use Rattle.rules.specs.States.{State, fresh, is_report, has_id}
use Rattle.rules.specs.Calls.{Op}
use Rattle.rules.specs.Machine.{step, run}
use Rattle.rules.proofs.Acts.{run_none, run_more}
use Rattle.rules.proofs.Clauses.{has_id_is}
use Rattle.rules.proofs.Sound.{Sound}
use Rattle.rules.proofs.Steps.{fresh_sound, step_sound}
use Rattle.changes.proofs.Answering.{fresh_tidy}
use Rattle.original.specs.Std.{unwrap_or}
use Rattle.original.specs.Subscription.{Subscription}
use Rattle.original.specs.Table.{owns_slot}
use Rattle.original.specs.Likeness.{subscription_of, context_of, reporting_of, cancelled_of, log_of, original_of, stored_of, open_of, state_of}
use Rattle.original.specs.Demand.{NothingLeftOut}
use Rattle.original.proofs.LogLasts.{tidy_lasts, log_lasts}
use Rattle.original.proofs.Opens.{owner}
use Rattle.original.proofs.StoredBlank.{opens, Blank, step_blank}

-- ---- one subscription

stored_back : (x : one.Subscription) → opens x ≡ false → stored_of (subscription_of x) ≡ x
unfolding stored_of subscription_of
stored_back x h =
    let a = and_both (eqb x.mark 0) _ (not-false _ h) in
    let b = and_both (eqb x.events 0) _ a.1 in
    let c = and_both (eqb x.opened.ms 0) _ b.1 in
    same (eqb-true x.mark 0 a.0) (eqb-true x.events 0 b.0) (eqb-true x.opened.ms 0 c.0) (not-true _ c.1)
  where
    same : x.mark ≡ 0 → x.events ≡ 0 → x.opened.ms ≡ 0 → x.reporting ≡ false → stored_of (subscription_of x) ≡ x
    same m e o r =
        λ i. record {
          peer = x.peer;
          reported = x.reported;
          retry = x.retry;
          seen = x.seen;
          heard = x.heard;
          mark = sym m i;
          events = sym e i;
          opened = record { ms = sym o i };
          id = x.id;
          shortest = x.shortest;
          longest = x.longest;
          rx = x.rx;
          fabric = x.fabric;
          fails = x.fails;
          reporting = sym r i;
        }

open_back : (slot : Option Subscription) (x : one.Subscription) → owns_slot x.id slot ≡ is_report x → open_of slot (context_of x) ≡ x
unfolding open_of context_of subscription_of
open_back slot x h =
    λ i. record {
      peer = x.peer;
      reported = x.reported;
      retry = x.retry;
      seen = x.seen;
      heard = x.heard;
      mark = x.mark;
      events = x.events;
      opened = x.opened;
      id = x.id;
      shortest = x.shortest;
      longest = x.longest;
      rx = x.rx;
      fabric = x.fabric;
      fails = x.fails;
      reporting = h i;
    }

-- ---- lists of them

all_stored_back : (l : List one.Subscription) → count opens l ≡ 0 → map stored_of (map subscription_of l) ≡ l
all_stored_back [] h = refl
all_stored_back (x ∷ xs) h =
    let c = count_cons opens x xs in
    λ i. stored_back x (none_one (opens x) (omega arith)) i ∷ all_stored_back xs (omega arith) i

-- whoever has an id owns the slot exactly where it is the report
abbrev Owners : Option Subscription → List one.Subscription → Type 0
Owners slot l = (id : ℕ) → some (has_id id) l ≡ true → owns_slot id slot ≡ is_report (first_by (has_id id) blank l)

has_own_id : (x : one.Subscription) → has_id x.id x ≡ true
has_own_id x = has_id_is x.id x ∙ eq-eqb x.id x.id refl

passed : (p : one.Subscription → Bool) (d x : one.Subscription) (l : List one.Subscription) → p x ≡ false
    → first_by p d (x ∷ l) ≡ first_by p d l
unfolding first_by
passed p d x l h = rw (h, first_by)

-- no two have the same id, so that behind one who has it nobody has
others_own : (slot : Option Subscription) (x : one.Subscription) (l : List one.Subscription) → ((j : ℕ) → count (has_id j) (x ∷ l) ≤ 1)
    → Owners slot (x ∷ l) → Owners slot l
others_own slot x l apart owners id h =
    let c = count_cons (has_id id) x l in
    let another = none_one (has_id id x) (omega (arith, apart id, count_some (has_id id) l h)) in
    owners id (some_cons (has_id id) x l ∙ or_right (has_id id x) h) ∙ ap is_report (passed (has_id id) blank x l another)

all_open_back : (slot : Option Subscription) (l : List one.Subscription) → ((j : ℕ) → count (has_id j) l ≤ 1) → Owners slot l
    → map (open_of slot) (map context_of l) ≡ l
all_open_back slot [] apart owners = refl
all_open_back slot (x ∷ xs) apart owners =
    let first = open_back slot x
    (owners x.id (some_cons (has_id x.id) x xs ∙ or_left (some (has_id x.id) xs) (has_own_id x))
    ∙ ap is_report (in_front (has_id x.id) blank x xs (has_own_id x))) in
    let others = all_open_back slot xs (λ j. omega (arith, apart j, count_cons (has_id j) x xs)) (others_own slot x xs apart owners) in
    λ i. first i ∷ others i

-- ---- the state

cancel_back : (n : ℕ) → unwrap_or (cancelled_of n) 0 ≡ n
cancel_back n = split (eqb n 0) (λ t. rw t (sym (eqb-true n 0 t))) (λ t. rw t)

-- what tells a state by its table
pub record Told (s : State) : Type 0 where
  pub sound : Sound s
  pub blank : Blank s
  pub tidy : Tidy s.log

back : (s : State) → Told s → state_of (original_of s) ≡ s
unfolding state_of original_of log_of
back s told =
    let stored = all_stored_back s.stored told.blank in
    let apart : (j : ℕ) → count (has_id j) s.opens ≤ 1 = λ j. omega (arith, told.sound.ids j) in
    let opens =
    all_open_back (reporting_of s.opens) s.opens apart (λ id h. owner id s.opens h told.sound.single (apart id)) in
    let cancel = cancel_back s.cancel in
    let log = told.tidy in
    λ i. record { capacity = s.capacity; next = s.next; cancel = cancel i; stored = stored i; opens = opens i; log = sym log i }

-- ---- histories

history_told : (ops : List Op) (s : State) → Told s → Told (run ops s)
history_told [] s told = rw (run_none s) told
history_told (op ∷ ops) s told =
    rw (run_more op ops s)
    (history_told ops (step op s).state
    (record {
      sound = step_sound op s told.sound;
      blank = step_blank op s told.blank;
      tidy = log_lasts Tidy tidy_lasts op s told.sound.log told.tidy;
    }))

pub nothing_left_out : NothingLeftOut
nothing_left_out capacity able ops =
    back (run ops (fresh capacity))
    (history_told ops (fresh capacity) (record { sound = fresh_sound capacity able; blank = count_nil opens; tidy = fresh_tidy }))
