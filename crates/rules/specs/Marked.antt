-- Document 01's marked examples, one table of what they say. That they hold is proved in `proofs/Marked`.
-- Assumes nothing.
use Rattle.std.specs.Prelude.{◌≡◌, false, List, [], ◌∷◌, map, ℕ, zero, suc, ◌+◌}
use Rattle.time.specs.declared.KeepAlive.TheVariants.{Default, Icd}
use Rattle.entries.specs.declared.ChangedAttr.{ChangedAttr}
use Rattle.changes.specs.declared.ChangedAttrs.{ChangedAttrs}
use Rattle.refusal.specs.declared.Refusal.TheVariants.{IdLive}
use Rattle.refusal.specs.Numbers.{number_of}
use Rattle.instants.specs.Instants.{instant}
use Rattle.time.specs.Intervals.{backoff_secs, due_after_secs, granted_max_secs}
use Rattle.entries.specs.Paths.{entry, wild_cluster, wild_attr, all_wild}
use Rattle.changes.specs.Logs.{entries_of, fresh_log, noted}
use Rattle.subscription.specs.declared.Request.{Request}
use Rattle.subscription.specs.declared.Subscription.{Subscription}
use Rattle.rules.specs.States.{fresh}
use Rattle.rules.specs.Calls as call
use Rattle.rules.specs.Calls.{Settings, Op}
use Rattle.rules.specs.Machine.{run, answers}

-- a path, as a note names it
pub record Path : Type 0 where
  pub endpoint : ℕ
  pub cluster : ℕ
  pub attr : ℕ

abbrev pub path : ℕ → ℕ → ℕ → Path
path endpoint cluster attr = record { endpoint = endpoint; cluster = cluster; attr = attr }

-- a log after so many notes, of the paths with the numbers from i on
unfoldable pub after_notes : (ℕ → Path) → ℕ → ℕ → ChangedAttrs → ChangedAttrs
after_notes p zero i g = g
after_notes p (suc n) i g = after_notes p n (i + 1) (noted g (p i).endpoint (p i).cluster (p i).attr).log

-- the entries of a fresh log after sixteen notes and a seventeenth
unfoldable pub after_seventeen : (ℕ → Path) → ℕ → Path → List ChangedAttr
after_seventeen p i q = entries_of (noted (after_notes p 16 i fresh_log) q.endpoint q.cluster q.attr).log

-- a request, an instant and settings in which nothing but the calls matters
abbrev some_request : Request
some_request = record { peer = 7; shortest = 1; longest = 60; rx = 0; fabric = 1 }

abbrev some_settings : Settings
some_settings = record { now = instant 1000; events = 0; kind = Default; all = false }

-- the calls of P11
abbrev pub resume_add_add : List Op
resume_add_add = call.resume 4294967294 some_request 0 ∷ call.add some_request 0 (instant 1000) ∷ call.add some_request 0 (instant 1000) ∷ []

-- the calls of P12: three are stored, and the first is handed out and kept
abbrev pub resume_three : List Op
resume_three = call.resume 1 some_request 0 ∷ call.resume 2 some_request 0 ∷ call.resume 3 some_request 0 ∷ []

abbrev pub hand_out_one : List Op
hand_out_one = call.report some_settings ∷ call.complete 1 0 ∷ []

-- who they are, in order
abbrev pub ids_of : List Subscription → List ℕ
ids_of l = map (λ x. x.id) l

-- "The marked examples form one proved table"
pub record Marked : Type 0 where
  -- "P1 backoff (1, 60) = 2."
  pub p1 : backoff_secs 1 60 ≡ 2
  -- "P2 (6, 60) = 60."
  pub p2 : backoff_secs 6 60 ≡ 60
  -- "P3 (255, 65535) = 65535."
  pub p3 : backoff_secs 255 65535 ≡ 65535
  -- "P4 (3, 0) = 2."
  pub p4 : backoff_secs 3 0 ≡ 2
  -- "P5 due 61 = 31."
  pub p5 : due_after_secs Default 61 ≡ 31
  -- "P6 `Icd` due 5 = 3."
  pub p6 : due_after_secs Icd 5 ≡ 3
  -- "P7 negotiated (60, 55, 0, 65535) = 65."
  pub p7 : granted_max_secs 60 55 0 65535 ≡ 65
  -- "P8 notes (1,6,0..15), then (2,6,0): log is (1,6,wild) 16, (2,6,0) 17."
  pub p8 : after_seventeen (λ i. path 1 6 i) 0 (path 2 6 0) ≡ (entry 1 6 wild_attr 16 ∷ entry 2 6 0 17 ∷ [])
  -- "P9 (1,1..16,0), then (1,17,0): one entry (1,wild,wild) 17."
  pub p9 : after_seventeen (λ i. path 1 i 0) 1 (path 1 17 0) ≡ (entry 1 wild_cluster wild_attr 17 ∷ [])
  -- "P10 (1..16,6,0), then (17,6,0): one all-wild 17."
  pub p10 : after_seventeen (λ i. path i 6 0) 1 (path 17 6 0) ≡ (all_wild 17 ∷ [])
  -- "P11 in a table of capacity 80: resume 4294967294, add gives 4294967295, add again gives 4.": the id is live, and the next id stays there
  pub p11 : answers resume_add_add (fresh 80) ≡ (call.number 4294967294 ∷ call.number 4294967295 ∷ call.refused IdLive ∷ [])
  pub p11number : number_of IdLive ≡ 4
  pub p11next : (run resume_add_add (fresh 80)).next ≡ 4294967295
  -- "P12 stored A, B, C; A handed out and kept: C, B, A."
  pub p12before : ids_of (run resume_three (fresh 80)).stored ≡ (1 ∷ 2 ∷ 3 ∷ [])
  pub p12 : ids_of (run hand_out_one (run resume_three (fresh 80))).stored ≡ (3 ∷ 2 ∷ 1 ∷ [])
