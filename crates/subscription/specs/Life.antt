-- What becomes of one subscription, as document 01 has it, "Table": admitted, resumed, handed out, and stored again under each outcome.
-- Assumes nothing.
use Rattle.std.specs.Prelude.{Bool, true, false, cond, not, ◌&&◌, ◌||◌, ℕ, ◌+◌, min, leb, eqb}
use Rattle.instants.specs.declared.Instant.{Instant}
use Rattle.subscription.specs.declared.Request.{Request}
use Rattle.subscription.specs.declared.Subscription.{Subscription}
use Rattle.instants.specs.Instants.{first_instant, last_instant, never_reported}
use Rattle.time.specs.Moments.{retry_at}

-- what stands in a place that holds no subscription
abbrev pub blank : Subscription
blank = record {
  peer = 0;
  reported = first_instant;
  retry = first_instant;
  seen = 0;
  heard = 0;
  mark = 0;
  events = 0;
  opened = first_instant;
  id = 0;
  shortest = 0;
  longest = 0;
  rx = 0;
  fabric = 0;
  fails = 0;
  reporting = false;
}

-- "A fresh priming is never reported, seen events 0, seen watermark as now."; it "opens with the present watermark, event number and now"
unfoldable pub priming : Request → ℕ → ℕ → ℕ → Instant → Subscription
priming request id mark events now = record {
  peer = request.peer;
  reported = last_instant;
  retry = first_instant;
  seen = mark;
  heard = 0;
  mark = mark;
  events = events;
  opened = now;
  id = id;
  shortest = request.shortest;
  longest = request.longest;
  rx = request.rx;
  fabric = request.fabric;
  fails = 0;
  reporting = false;
}

-- "as never reported, with the given id and event number, the present watermark, retry 0 and fails 0"
unfoldable pub resumed : Request → ℕ → ℕ → ℕ → Subscription
resumed request id mark events = record {
  peer = request.peer;
  reported = last_instant;
  retry = first_instant;
  seen = mark;
  heard = events;
  mark = 0;
  events = 0;
  opened = first_instant;
  id = id;
  shortest = request.shortest;
  longest = request.longest;
  rx = request.rx;
  fabric = request.fabric;
  fails = 0;
  reporting = false;
}

-- "It opens with the present watermark, event number and now"
unfoldable pub opened : Subscription → ℕ → ℕ → Instant → Subscription
opened s mark events now = record {
  peer = s.peer;
  reported = s.reported;
  retry = s.retry;
  seen = s.seen;
  heard = s.heard;
  mark = mark;
  events = events;
  opened = now;
  id = s.id;
  shortest = s.shortest;
  longest = s.longest;
  rx = s.rx;
  fabric = s.fabric;
  fails = s.fails;
  reporting = true;
}

-- stored again with these values, and blank opening values
unfoldable pub stored_with : Subscription → Instant → Instant → ℕ → ℕ → ℕ → Subscription
stored_with s reported retry fails seen heard = record {
  peer = s.peer;
  reported = reported;
  retry = retry;
  seen = seen;
  heard = heard;
  mark = 0;
  events = 0;
  opened = first_instant;
  id = s.id;
  shortest = s.shortest;
  longest = s.longest;
  rx = s.rx;
  fabric = s.fabric;
  fails = fails;
  reporting = false;
}

-- "fails + 1 up to 255"
abbrev pub next_fails : Subscription → ℕ
next_fails s = min (s.fails + 1) 255

-- "0 sent: opening values stored, retry 0, fails 0."
abbrev pub closed_sent : Subscription → Subscription
closed_sent s = stored_with s s.opened first_instant 0 s.mark s.events

-- "1 unsent: the same but the old reported_at."
abbrev pub closed_unsent : Subscription → Subscription
closed_unsent s = stored_with s s.reported first_instant 0 s.mark s.events

-- "2 retry: old seen values and reported_at, fails + 1 up to 255, retry_at = opening now + backoff"
abbrev pub closed_retry : Subscription → Subscription
closed_retry s =
    stored_with s s.reported (retry_at s.opened (next_fails s) s.longest) (next_fails s) s.seen s.heard

-- as it is stored after the outcome
unfoldable pub closed : Subscription → ℕ → Subscription
closed s outcome = cond (eqb outcome 2) (closed_retry s) (cond (eqb outcome 1) (closed_unsent s) (closed_sent s))

-- "2 retry: ..; if never reported, it is dropped instead."
unfoldable pub gives_up : Subscription → ℕ → Bool
gives_up s outcome = eqb outcome 2 && never_reported s.reported

-- "3 failed and 4 abandoned: dropped.": whether it is stored again
unfoldable pub keeps : Subscription → ℕ → Bool
keeps s outcome = not (gives_up s outcome) && leb outcome 2

-- "The failed flag is yes for 3 and for a retry that isn't a giving up"
unfoldable pub failed : Subscription → ℕ → Bool
failed s outcome = eqb outcome 3 || (eqb outcome 2 && not (gives_up s outcome))
