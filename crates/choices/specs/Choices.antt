-- Which subscriptions a removal takes, as document 01 has it, "Table".
-- Assumes nothing.
use Rattle.std.specs.Prelude.{Bool, true, ◌&&◌, eqb}
use Rattle.subscription.specs.declared.Subscription.{Subscription}
use Rattle.choices.specs.declared.Choice.{Choice}
use Rattle.choices.specs.declared.Choice.TheVariants.{All, Fabric, Peer, Id, ExpiredAt}
use Rattle.subscription.specs.When.{is_over}

-- "a choice (all, fabric, fabric and peer, id, expired at)"
unfoldable pub chosen : Choice → Subscription → Bool
chosen All s = true
chosen (Fabric fabric) s = eqb s.fabric fabric
chosen (Peer fabric peer) s = eqb s.fabric fabric && eqb s.peer peer
chosen (Id id) s = eqb s.id id
chosen (ExpiredAt now) s = is_over s now
