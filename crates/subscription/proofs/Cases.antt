-- The definitions of `specs/` as tests and records, for floors above, which never open them.
-- Assumes nothing.
use mathlib.Core.Path.{◌≡◌, refl}
use mathlib.Core.Bool.{Bool, true, false, cond, not, ◌&&◌, ◌||◌}
use Prim.Native.Nat.{ℕ, max}
use lib.Dec.{eqb, leb, ltb}
use Rattle.instants.specs.declared.Instant.{Instant}
use Rattle.time.specs.declared.KeepAlive.{KeepAlive}
use Rattle.instants.specs.Instants.{first_instant, last_instant, never_reported}
use Rattle.time.specs.Intervals.{due_after_secs}
use Rattle.time.specs.Moments.{since_report, expired}
use Rattle.subscription.specs.declared.Request.{Request}
use Rattle.subscription.specs.declared.Subscription.{Subscription}
use Rattle.subscription.specs.When.{gate_of, allowed_of, due_of, is_due, pending, along, reportable, next_of, is_over}
use Rattle.subscription.specs.Life.{priming, resumed, opened, stored_with, closed_sent, closed_unsent, closed_retry, closed, gives_up, keeps, failed}

-- ---- when it may speak and when it must

module _ (x : Subscription) where
  pub allowed_is : (allowed_of x).ms ≡ max (since_report x.reported x.shortest).ms x.retry.ms
  unfolding allowed_of gate_of
  allowed_is = refl

  pub due_is : (kind : KeepAlive) → due_of x kind ≡ since_report x.reported (due_after_secs kind x.longest)
  unfolding due_of
  due_is kind = refl

  pub is_due_is : (now : Instant) (kind : KeepAlive) → is_due x now kind ≡ leb (due_of x kind).ms now.ms
  unfolding is_due
  is_due_is now kind = refl

  pub reportable_is : (now : Instant) (changed : Bool) (events : ℕ) (kind : KeepAlive) (all : Bool)
      → reportable x now changed events kind all
      ≡ (leb (allowed_of x).ms now.ms
      && ((all && ltb x.reported.ms now.ms) || (leb (due_of x kind).ms now.ms || (changed || ltb x.heard events))))
  unfolding reportable along is_due pending
  reportable_is now changed events kind all = refl

  pub next_is : (changed : Bool) (events : ℕ) (kind : KeepAlive)
      → next_of x changed events kind
      ≡ cond (changed || ltb x.heard events) (allowed_of x) (record { ms = max (allowed_of x).ms (due_of x kind).ms })
  unfolding next_of pending
  next_is changed events kind = refl

  pub over_is : (now : Instant) → is_over x now ≡ expired x.reported x.longest now
  unfolding is_over
  over_is now = refl

  -- ---- what becomes of it

  pub keeps_is : (outcome : ℕ) → keeps x outcome ≡ (not (eqb outcome 2 && never_reported x.reported) && leb outcome 2)
  unfolding keeps gives_up
  keeps_is outcome = refl

  pub failed_is : (outcome : ℕ)
      → failed x outcome ≡ (eqb outcome 3 || (eqb outcome 2 && not (eqb outcome 2 && never_reported x.reported)))
  unfolding failed gives_up
  failed_is outcome = refl

  pub closed_is : (outcome : ℕ)
      → closed x outcome ≡ cond (eqb outcome 2) (closed_retry x) (cond (eqb outcome 1) (closed_unsent x) (closed_sent x))
  unfolding closed
  closed_is outcome = refl

-- ---- the records

pub priming_is : (request : Request) (id mark events : ℕ) (now : Instant)
    → priming request id mark events now
    ≡ record {
      peer = request.peer;
      reported = last_instant;
      retry = first_instant;
      seen = mark;
      heard = 0;
      mark = mark;
      events = events;
      opened = now;
      id = id;
      shortest = request.shortest;
      longest = request.longest;
      rx = request.rx;
      fabric = request.fabric;
      fails = 0;
      reporting = false;
    }
unfolding priming
priming_is request id mark events now = refl

pub resumed_is : (request : Request) (id mark events : ℕ)
    → resumed request id mark events
    ≡ record {
      peer = request.peer;
      reported = last_instant;
      retry = first_instant;
      seen = mark;
      heard = events;
      mark = 0;
      events = 0;
      opened = first_instant;
      id = id;
      shortest = request.shortest;
      longest = request.longest;
      rx = request.rx;
      fabric = request.fabric;
      fails = 0;
      reporting = false;
    }
unfolding resumed
resumed_is request id mark events = refl

pub opened_is : (x : Subscription) (mark events : ℕ) (now : Instant)
    → opened x mark events now
    ≡ record {
      peer = x.peer;
      reported = x.reported;
      retry = x.retry;
      seen = x.seen;
      heard = x.heard;
      mark = mark;
      events = events;
      opened = now;
      id = x.id;
      shortest = x.shortest;
      longest = x.longest;
      rx = x.rx;
      fabric = x.fabric;
      fails = x.fails;
      reporting = true;
    }
unfolding opened
opened_is x mark events now = refl

pub stored_with_is : (x : Subscription) (reported retry : Instant) (fails seen heard : ℕ)
    → stored_with x reported retry fails seen heard
    ≡ record {
      peer = x.peer;
      reported = reported;
      retry = retry;
      seen = seen;
      heard = heard;
      mark = 0;
      events = 0;
      opened = first_instant;
      id = x.id;
      shortest = x.shortest;
      longest = x.longest;
      rx = x.rx;
      fabric = x.fabric;
      fails = fails;
      reporting = false;
    }
unfolding stored_with
stored_with_is x reported retry fails seen heard = refl
