-- What a call looks for and measures in one subscription.
-- Assumes nothing.
use Rattle.std.specs.Prelude.{Bool, ◌&&◌, ℕ, eqb, ltb}
use Rattle.time.specs.declared.KeepAlive.TheVariants.{Icd}
use Rattle.subscription.specs.declared.Subscription.{Subscription}
use Rattle.choices.specs.declared.Choice.{Choice}
use Rattle.subscription.specs.declared.Settings.{Settings}
use Rattle.subscription.specs.When.{due_of, reportable, next_of}
use Rattle.choices.specs.Choices.{chosen}
use Rattle.rules.specs.States.{is_report}

-- reportable at the settings, where the log's greatest identity is `newest`
unfoldable pub ready_by : Settings → ℕ → Subscription → Bool
ready_by at newest x = reportable x at.now (ltb x.seen newest) at.events at.kind at.all

-- of the fabric
unfoldable pub of_fabric : ℕ → Subscription → Bool
of_fabric fabric x = eqb x.fabric fabric

-- "fabric and peer stored with zero fails"
unfoldable pub served : ℕ → ℕ → Subscription → Bool
served fabric peer x = eqb x.fabric fabric && (eqb x.peer peer && eqb x.fails 0)

-- the open report, where the choice takes it
unfoldable pub struck : Choice → Subscription → Bool
struck choice x = is_report x && chosen choice x

-- its next instant, where the log's greatest identity is `newest`
unfoldable pub next_by : Settings → ℕ → Subscription → ℕ
next_by at newest x = (next_of x (ltb x.seen newest) at.events at.kind).ms

-- its due instant on an intermittently connected device
unfoldable pub icd_due : Subscription → ℕ
icd_due x = (due_of x Icd).ms

-- the watermark that it has seen
unfoldable pub seen_of : Subscription → ℕ
seen_of x = x.seen
