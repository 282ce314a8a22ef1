-- What the equality of each call leans on: the reply that an outcome of the machine stands for, tables that are equal field by field, and
-- what holds of every state of a history.
-- Assumes nothing.
use mathlib.Core.Path.{◌≡◌}
use Prim.Native.Nat.{◌+◌, ◌≤◌}
use native.Mathlib.Omega.{arith}
use borrow.Author.Tests.{leb-true}
use lib.Dec.{leb}
use lib.ListN.{length}
use Rattle.lists.proofs.Bools.{and_both}
use Rattle.rules.specs.States.{State}
use Rattle.rules.specs.Machine.{Outcome}
use Rattle.rules.proofs.Clauses.{counted_is}
use Rattle.rules.proofs.Lives.{lives_counted}
use Rattle.rules.proofs.Sound.{Sound}
use Rattle.original.specs.Table.{Subscriptions}
use Rattle.original.specs.Calls.{Reply, reply}
use Rattle.original.specs.Likeness.{original_of}

-- the original's reply where the machine answers and leaves this
abbrev pub reply_of : Outcome → Reply
reply_of o = reply o.answer (original_of o.state)

pub same_table : {t u : Subscriptions} → t.capacity ≡ u.capacity → t.next_subscription_id ≡ u.next_subscription_id
    → t.subscriptions_count ≡ u.subscriptions_count → t.subscriptions ≡ u.subscriptions → t.changed_attrs ≡ u.changed_attrs
    → t.reporting ≡ u.reporting → t.reporting_cancelled ≡ u.reporting_cancelled → t.contexts ≡ u.contexts → t ≡ u
same_table a b c d e f g h =
    λ i. record {
      capacity = a i;
      next_subscription_id = b i;
      subscriptions_count = c i;
      subscriptions = d i;
      changed_attrs = e i;
      reporting = f i;
      reporting_cancelled = g i;
      contexts = h i;
    }

-- of every state of a history: it is well kept, and its next identity has 64 bits
pub record Fit (s : State) : Type 0 where
  pub sound : Sound s
  pub identities : s.log.next ≤ 18446744073709551615

-- at most eighty are counted
pub few : (s : State) → Sound s → length s.stored + length s.opens ≤ 80
few s h =
    let w = and_both (leb 1 s.capacity) (leb s.capacity 80) h.capacity in
    omega (arith, h.room, lives_counted s, counted_is s, leb-true s.capacity 80 w.1)
