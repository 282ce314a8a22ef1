-- What the code's own parts promise: what is asked of the live ones, and what stands in the way of a call.
-- Assumes nothing.
use Rattle.std.specs.Prelude.{◌≡◌, ℕ, Bool, not, ◌&&◌, ◌||◌, eqb, ltb, leb, List, ◌++◌, map, length, take, cond, Result, Ok, Err, ⊤, Option, Some, None}
use Rattle.refusal.specs.declared.Refusal.{Refusal}
use Rattle.refusal.specs.declared.Refusal.TheVariants.{NotWellKept}
use Rattle.places.specs.declared.Table.{Table}
use Rattle.places.specs.Views.{kept}
use Rattle.subscription.specs.declared.Subscription.{Subscription}
use Rattle.table.specs.declared.keeping.Live.{Live}
use Rattle.lists.specs.Search.{some, count, distinct}
use Rattle.rules.specs.States.{is_report, fabric_zero}

-- what is left to test of a table whose counts are within its capacity, and whose log is well kept
abbrev pub sound : List Subscription → List Subscription → ℕ → Bool
sound stored opens cancel =
    distinct (λ x. x.id) (stored ++ opens)
    && (not (some fabric_zero (stored ++ opens))
    && (leb (count is_report opens) 1 && (eqb cancel 0 || ltb 0 (count is_report opens))))

-- what is asked of the live ones, the stored ones first
pub record Lived (stored opens : List Subscription) (r : Live) : Type 0 where
  pub long : length r.ids ≡ 80
  pub ids_are : take (length (stored ++ opens)) r.ids ≡ map (λ x. x.id) (stored ++ opens)
  pub orphan_is : r.orphan ≡ some fabric_zero (stored ++ opens)
  pub reports_are : r.reports ≡ count is_report opens

-- nothing, or the refusal if there is one
abbrev pub verdict_of : Option Refusal → Result ⊤ Refusal
verdict_of None = Ok tt
verdict_of (Some why) = Err why

-- nothing, where the table is well kept
unfoldable pub well_kept : Table → Result ⊤ Refusal
well_kept t = cond (kept t) (Ok tt) (Err NotWellKept)
