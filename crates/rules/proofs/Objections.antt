-- What the objections of a call tell: where it is not refused, none of them holds; and none of them has the number 7, which stands before them.
-- Assumes nothing.
use Rattle.std.specs.Prelude.{None}
use mathlib.Core.Path.{◌≡◌, refl}
use mathlib.Core.Bool.{Bool, true, false, not, ◌&&◌, ◌||◌}
use mathlib.Core.List.{List, [], ◌∷◌}
use Prim.Native.Nat.{ℕ}
use native.Mathlib.Omega.{arith}
use lib.Dec.{eqb}
use Rattle.refusal.specs.declared.Refusal.{Refusal}
use Rattle.refusal.specs.declared.Refusal.TheVariants.{NotWellKept}
use Rattle.refusal.specs.Numbers.{number_of}
use Rattle.lists.specs.Search.{some}
use Rattle.lists.proofs.Bools.{split, or_neither}
use Rattle.rules.specs.States.{State, well_kept}
use Rattle.rules.specs.Calls as call
use Rattle.rules.specs.Calls.{Op}
use Rattle.rules.specs.Numbers.{refusal_of}
use Rattle.rules.specs.Histories.{numbered}
use Rattle.rules.specs.Machine.{Objection, first_of, objections, takes_state, refusal, added, resumed_to, noted_in, ready, reported, completed_in, removed, cleared_in, purged_in, statistics_in, round_in, act}

-- where nothing is refused, nothing was objected to
pub unobjected : (b : Bool) (why : Refusal) (rest : List Objection) → first_of ((b, why) ∷ rest) ≡ None
    → (b ≡ false) × (first_of rest ≡ None)
unfolding first_of
unobjected true why rest e = let z : ◌≡◌ {A = ℕ} 0 1 = cc in absurd (omega arith)
unobjected false why rest e = (refl, e)

pub no_objection : (op : Op) (s : State) → refusal op s ≡ None → first_of (objections op s) ≡ None
unfolding refusal
no_objection op s e = (unobjected (takes_state op && not (well_kept s)) NotWellKept (objections op s) e).1

-- some objection has the number
abbrev pub of_number : ℕ → List Objection → Bool
of_number n [] = false
of_number n ((holds, why) ∷ rest) = eqb (number_of why) n || of_number n rest

-- where none has it, the refusal has another
pub no_number : (n : ℕ) (l : List Objection) → of_number n l ≡ false → numbered n (first_of l) ≡ false
unfolding first_of
no_number n [] h = refl
no_number n ((true, why) ∷ rest) h = (or_neither (eqb (number_of why) n) (of_number n rest) h).0
no_number n ((false, why) ∷ rest) h = no_number n rest (or_neither (eqb (number_of why) n) (of_number n rest) h).1

-- each reason in the table of objections has another number
pub other_numbers : (op : Op) (s : State) → of_number 7 (objections op s) ≡ false
unfolding objections
other_numbers (call.new capacity) s = refl
other_numbers (call.add request events now) s = refl
other_numbers (call.resume id request events) s = refl
other_numbers (call.note endpoint cluster attr) s = refl
other_numbers (call.report at) s = refl
other_numbers (call.complete id o) s = refl
other_numbers (call.remove choice reason) s = refl
other_numbers call.clear s = refl
other_numbers call.purge s = refl
other_numbers (call.attribute id endpoint cluster attr) s = refl
other_numbers (call.send_if_empty id kind) s = refl
other_numbers (call.next_instant events kind) s = refl
other_numbers (call.any_reportable now events kind) s = refl
other_numbers call.next_keep_alive s = refl
other_numbers (call.statistics fabric) s = refl
other_numbers (call.has_subscription fabric peer) s = refl
other_numbers (call.round at outcomes ids) s = refl

-- a call that acts does not answer by a refusal
pub act_unrefused : (op : Op) (s : State) → refusal_of (act op s).answer ≡ None
unfolding act added resumed_to noted_in reported completed_in removed cleared_in purged_in statistics_in round_in
act_unrefused (call.new capacity) s = refl
act_unrefused (call.add request events now) s = refl
act_unrefused (call.resume id request events) s = refl
act_unrefused (call.note endpoint cluster attr) s = refl
act_unrefused (call.report at) s = split (some (ready at s) s.stored) (λ t. rw (t, reported)) (λ t. rw (t, reported))
act_unrefused (call.complete id o) s = refl
act_unrefused (call.remove choice reason) s = refl
act_unrefused call.clear s = refl
act_unrefused call.purge s = refl
act_unrefused (call.attribute id endpoint cluster attr) s = refl
act_unrefused (call.send_if_empty id kind) s = refl
act_unrefused (call.next_instant events kind) s = refl
act_unrefused (call.any_reportable now events kind) s = refl
act_unrefused call.next_keep_alive s = refl
act_unrefused (call.statistics fabric) s = refl
act_unrefused (call.has_subscription fabric peer) s = refl
act_unrefused (call.round at outcomes ids) s = refl
