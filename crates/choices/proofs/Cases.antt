-- The definition of a choice as tests, for floors above, which never open it.
-- Assumes nothing.
use mathlib.Core.Path.{◌≡◌, refl}
use mathlib.Core.Bool.{true, ◌&&◌}
use Prim.Native.Nat.{ℕ}
use lib.Dec.{eqb}
use Rattle.instants.specs.declared.Instant.{Instant}
use Rattle.subscription.specs.declared.Subscription.{Subscription}
use Rattle.choices.specs.declared.Choice.TheVariants.{All, Fabric, Peer, Id, ExpiredAt}
use Rattle.subscription.specs.When.{is_over}
use Rattle.choices.specs.Choices.{chosen}

module _ (x : Subscription) where
  pub chosen_all : chosen All x ≡ true
  unfolding chosen
  chosen_all = refl

  pub chosen_fabric : (fabric : ℕ) → chosen (Fabric fabric) x ≡ eqb x.fabric fabric
  unfolding chosen
  chosen_fabric fabric = refl

  pub chosen_peer : (fabric peer : ℕ) → chosen (Peer fabric peer) x ≡ (eqb x.fabric fabric && eqb x.peer peer)
  unfolding chosen
  chosen_peer fabric peer = refl

  pub chosen_id : (id : ℕ) → chosen (Id id) x ≡ eqb x.id id
  unfolding chosen
  chosen_id id = refl

  pub chosen_expired : (now : Instant) → chosen (ExpiredAt now) x ≡ is_over x now
  unfolding chosen
  chosen_expired now = refl
