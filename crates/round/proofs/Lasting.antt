-- What lasts through every move of the table lasts through a round, which is the table's calls.
-- Assumes nothing.
use mathlib.Core.Path.{refl}
use Rattle.std.specs.Prelude.{Option, Some, None, ◌≡◌, Result, Ok, Err}
use mathlib.Core.List.{List, [], ◌∷◌}
use Prim.Native.Nat.{ℕ, ◌+◌}
use lib.ListN.{set}
use Rattle.refusal.specs.declared.Refusal.{Refusal}
use Rattle.subscription.specs.declared.Settings.{Settings}
use Rattle.places.specs.declared.Table.{Table}
use Rattle.places.specs.declared.Handed.{Handed}
use Rattle.places.specs.Tidiness.{Lasting}
use Rattle.places.specs.Views.{refusal_at}
use Rattle.places.specs.Calls.{settled_by, report_in, refused_in}
use Rattle.round.specs.Rounds.{turn_after, turn_of, served, made, round_of}
use Rattle.rules.specs.Calls as call
use Rattle.places.proofs.Lasting.{report_lasts, complete_lasts}

module _ {P : Table → Type 0} (lasting : Lasting P) where
  turned_lasts : (a : Result (Option Handed) Refusal) (t : Table) (o : ℕ) → P t → P (turn_after a t o).table
  turned_lasts (Ok (Some x)) t o h = complete_lasts lasting t h x.id o
  turned_lasts (Ok None) t o h = h
  turned_lasts (Err why) t o h = h

  turn_lasts : (t : Table) (at : Settings) (o : ℕ) → P t → P (turn_of t at o).table
  unfolding turn_of
  turn_lasts t at o h = turned_lasts (report_in t at).answer (report_in t at).table o (report_lasts lasting t h at)

  served_lasts : (at : Settings) (os : List ℕ) (n : ℕ) (ids : List ℕ) (t : Table) → P t → P (served at os n ids t).0.table
  unfolding served
  served_lasts at [] n ids t h = h
  served_lasts at (o ∷ os) n ids t h =
      go (turn_of t at o).handed refl (λ id. served_lasts at os (n + 1) (set ids n id) (turn_of t at o).table (turn_lasts t at o h))
    where
      go : (a : Option ℕ) → (turn_of t at o).handed ≡ a → ((id : ℕ) → P (served at os (n + 1) (set ids n id) (turn_of t at o).table).0.table)
          → P (served at (o ∷ os) n ids t).0.table
      go (Some id) e more = rw (e, served) (more id)
      go None e more = rw (e, served) (turn_lasts t at o h)

  pub round_lasts : (t : Table) (at : Settings) (os ids : List ℕ) → P t → P (round_of t at os ids).0.table
  unfolding round_of
  round_lasts t at os ids h = go (refusal_at (call.round at os ids) t)
    where
      go : (r : Option Refusal) → P (settled_by r (λ why. (refused_in t why, ids)) (made at (served at os 0 ids t))).0.table
      go None = served_lasts at os 0 ids t h
      go (Some why) = h
