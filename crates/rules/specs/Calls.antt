-- The calls of document 01's table, with their arguments, and what they answer.
-- Assumes nothing.
use Rattle.std.specs.Prelude.{Bool, List, ℕ, Option}
use Rattle.refusal.specs.declared.Refusal.{Refusal}
use Rattle.instants.specs.declared.Instant.{Instant}
use Rattle.time.specs.declared.KeepAlive.{KeepAlive}
use Rattle.choices.specs.declared.Choice.{Choice}
use Rattle.subscription.specs.declared.Request.{Request}
pub use Rattle.subscription.specs.declared.Settings.{Settings}

pub data Op : Type 0 where
  -- a table of this capacity in place of the present one
  new : (capacity : ℕ) → Op
  add : (request : Request) (events : ℕ) (now : Instant) → Op
  resume : (id : ℕ) (request : Request) (events : ℕ) → Op
  note : (endpoint cluster attr : ℕ) → Op
  report : Settings → Op
  complete : (id outcome : ℕ) → Op
  remove : Choice → (reason : ℕ) → Op
  clear : Op
  purge : Op
  attribute : (id endpoint cluster attr : ℕ) → Op
  send_if_empty : (id : ℕ) → KeepAlive → Op
  next_instant : (events : ℕ) → KeepAlive → Op
  any_reportable : (now : Instant) (events : ℕ) → KeepAlive → Op
  next_keep_alive : Op
  -- of a fabric, 0 where none is asked
  statistics : (fabric : ℕ) → Op
  has_subscription : (fabric peer : ℕ) → Op
  -- with the outcomes and the ids in the two lent slices
  round : Settings → (outcomes ids : List ℕ) → Op

pub data Answer : Type 0 where
  refused : Refusal → Answer
  -- done, and nothing to tell
  done : Answer
  -- a number: a capacity, an id
  number : ℕ → Answer
  -- note: its identity, and whether it wakes
  heard : (identity : ℕ) (wakes : Bool) → Answer
  -- report: "answers Nothing", or "the id and the request number"
  nothing : Answer
  handed : (id rx : ℕ) → Answer
  -- complete: kept, and "the failed flag"
  completed : (stays failed : Bool) → Answer
  -- remove and clear: does it wake; and a question: yes or no
  yes_no : Bool → Answer
  instant : Instant → Answer
  keep_alive : Option Instant → Answer
  stats : (places of_fabric established : ℕ) → Answer
  rounded : (hand_outs : ℕ) (silent : Bool) (ids : List ℕ) → Answer
