-- A whole table and a tidy one: what every call leaves of a table that was one, and what a new one is.
-- Assumes nothing.
use Rattle.std.specs.Prelude.{◌≡◌, Bool, ℕ, ◌+◌, ◌-◌, ◌≤◌, ◌<◌, length, get_or}
use Rattle.subscription.specs.declared.Subscription.{Subscription}
use Rattle.places.specs.declared.Table.{Table}
use Rattle.subscription.specs.Life.{blank}
use Rattle.places.specs.Moves.{taken_out, stored_last, opened_up, closed_at, swept_out, emptied}

-- eighty places, and the counts within them
pub record Whole (t : Table) : Type 0 where
  pub long : length t.places ≡ 80
  pub fits : t.stored + t.opens ≤ 80

-- and every place between the stored and the open ones is blank
pub record Tidy (t : Table) : Type 0 where
  pub whole : Whole t
  pub between : (i : ℕ) → t.stored ≤ i → i < 80 - t.opens → get_or t.places i blank ≡ blank

-- what holds of whole tables, hangs on the places and the counts alone, and lasts through every move
pub record Lasting (P : Table → Type 0) : Type 1 where
  pub wholly : (t : Table) → P t → Whole t
  pub again : (t u : Table) → u.places ≡ t.places → u.stored ≡ t.stored → u.opens ≡ t.opens → P t → P u
  pub taken : (t : Table) → P t → (i : ℕ) → i < t.stored → P (taken_out t i)
  pub stored : (t : Table) → P t → (x : Subscription) → t.stored + t.opens < 80 → P (stored_last t x)
  pub opened : (t : Table) → P t → (x : Subscription) → t.stored + t.opens < 80 → P (opened_up t x)
  pub closed : (t : Table) → P t → (j : ℕ) → 80 - t.opens ≤ j → j < 80 → P (closed_at t j)
  pub swept : (t : Table) → P t → (p : Subscription → Bool) → P (swept_out p t)
  pub emptied : (t : Table) → P t → P (emptied t)
