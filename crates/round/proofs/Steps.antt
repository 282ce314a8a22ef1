-- One turn of the round's loops, over plain lists: what is left to do after it.
-- Assumes nothing.
use Rattle.std.specs.Prelude.{Some, None}
use mathlib.Core.Path.{◌≡◌}
use mathlib.Core.List.{List}
use Prim.Native.Nat.{ℕ, ◌+◌, ◌≤◌, ◌<◌}
use native.Mathlib.Numerals.{add-one}
use lib.ListN.{length, drop, get_or, set, drop_of_length-le}
use lib.Seq.{drop-cons}
use Rattle.subscription.specs.declared.Settings.{Settings}
use Rattle.places.specs.declared.Table.{Table}
use Rattle.round.specs.Rounds.{turn_of, served, stood}

module _ (at : Settings) (os : List ℕ) (n : ℕ) (ids : List ℕ) (t : Table) where
  -- a turn that hands somebody out
  pub turn_made : {id : ℕ} → n < length os → (turn_of t at (get_or os n 0)).handed ≡ Some id
      → served at (drop n os) n ids t ≡ served at (drop (n + 1) os) (n + 1) (set ids n id) (turn_of t at (get_or os n 0)).table
  unfolding served
  turn_made h e = rw (drop-cons os n 0 h, e, add-one, served)

  -- and one that does not
  pub turn_missed : n < length os → (turn_of t at (get_or os n 0)).handed ≡ None
      → served at (drop n os) n ids t ≡ (stood n (turn_of t at (get_or os n 0)).table, ids)
  unfolding served
  turn_missed h e = rw (drop-cons os n 0 h, e, served)

  -- with no outcome left the round is over
  pub turns_end : length os ≤ n → served at (drop n os) n ids t ≡ (stood n t, ids)
  unfolding served
  turns_end h = rw (drop_of_length-le os h)
