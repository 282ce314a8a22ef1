-- The well-kept rule and the refusals as equations for the floors above, which never open their definitions: the clauses of the rule, and the
-- first objection that holds.
-- Assumes nothing.
use Rattle.std.specs.Prelude.{Some, None}
use mathlib.Core.Bool.{and-false, Bool, true, false, not, ◌&&◌, ◌||◌}
use mathlib.Core.Path.{◌≡◌, refl}
use mathlib.Core.List.{List, [], ◌∷◌, ◌++◌}
use Prim.Native.Nat.{ℕ, ◌+◌}
use lib.Dec.{eqb, leb, ltb}
use lib.ListN.{length}
use Rattle.refusal.specs.declared.Refusal.TheVariants.{NotWellKept, Full, NotOpen, ReportOpen, IdLive, BadArgument, PrimingOpen}
use Rattle.refusal.specs.declared.Refusal.{Refusal}
use Rattle.instants.specs.declared.Instant.{Instant}
use Rattle.time.specs.declared.KeepAlive.{KeepAlive}
use Rattle.choices.specs.declared.Choice.{Choice}
use Rattle.subscription.specs.declared.Subscription.{Subscription}
use Rattle.subscription.specs.declared.Request.{Request}
use Rattle.subscription.specs.declared.Settings.{Settings}
use Rattle.subscription.specs.declared.Subscription.{Subscription}
use Rattle.lists.specs.Search.{some, count, distinct}
use Rattle.rules.specs.Machine.{takes_state, refusal, Objection, first_of, objections, not_open, bad_reason, bad_outcome}
use Rattle.changes.specs.Logs.{kept}
use Rattle.rules.specs.States.{State, has_id, id_live, is_priming, counted, is_report, report_open, capacity_fits, fabric_zero, well_kept}
use Rattle.rules.specs.Calls.{Op}
use Rattle.rules.specs.Calls as call

pub counted_is : (s : State) → counted s ≡ length s.stored + length s.opens
unfolding counted
counted_is s = refl

pub has_id_is : (id : ℕ) (x : Subscription) → has_id id x ≡ eqb x.id id
unfolding has_id
has_id_is id x = refl

pub report_open_is : (s : State) → report_open s ≡ some is_report s.opens
unfolding report_open
report_open_is s = refl

pub well_kept_is : (s : State)
    → well_kept s
    ≡ (capacity_fits s.capacity
    && (leb (length s.stored + length s.opens) s.capacity
    && (kept s.log
    && (distinct (λ x. x.id) (s.stored ++ s.opens)
    && (not (some fabric_zero (s.stored ++ s.opens))
    && (leb (count is_report s.opens) 1 && (eqb s.cancel 0 || some is_report s.opens)))))))
unfolding well_kept counted report_open
well_kept_is s = refl

-- an objection that holds is the refusal, and one that does not is passed over
pub first_holds : {b : Bool} (why : Refusal) (rest : List Objection) → b ≡ true → first_of ((b, why) ∷ rest) ≡ Some why
unfolding first_of
first_holds why rest e = rw (e, first_of)

pub first_passed : {b : Bool} (why : Refusal) (rest : List Objection) → b ≡ false → first_of ((b, why) ∷ rest) ≡ first_of rest
unfolding first_of
first_passed why rest e = rw (e, first_of)

pub first_none : first_of [] ≡ None
unfolding first_of
first_none = refl

-- ---- what each call that takes a state objects to, in order

module _ (s : State) where
  pub new_objects : (capacity : ℕ) → objections (call.new capacity) s ≡ ((not (capacity_fits capacity), BadArgument) ∷ [])
  unfolding objections
  new_objects capacity = refl

  pub add_objects : (request : Request) (events : ℕ) (now : Instant)
      → objections (call.add request events now) s
      ≡ ((eqb request.fabric 0, BadArgument) ∷ (leb s.capacity (counted s), Full) ∷ (id_live s.next s, IdLive) ∷ [])
  unfolding objections
  add_objects request events now = refl

  pub resume_objects : (id : ℕ) (request : Request) (events : ℕ)
      → objections (call.resume id request events) s
      ≡ ((eqb request.fabric 0, BadArgument) ∷ (leb s.capacity (counted s), Full) ∷ (id_live id s, IdLive) ∷ [])
  unfolding objections
  resume_objects id request events = refl

  pub note_objects : (e c a : ℕ) → objections (call.note e c a) s ≡ []
  unfolding objections
  note_objects e c a = refl

  pub report_objects : (at : Settings) → objections (call.report at) s ≡ ((report_open s, ReportOpen) ∷ [])
  unfolding objections
  report_objects at = refl

  pub complete_objects : (id o : ℕ) → objections (call.complete id o) s ≡ ((ltb 4 o, BadArgument) ∷ (not_open id s, NotOpen) ∷ [])
  unfolding objections
  complete_objects id o = refl

  pub remove_objects : (choice : Choice) (reason : ℕ) → objections (call.remove choice reason) s ≡ ((bad_reason reason, BadArgument) ∷ [])
  unfolding objections
  remove_objects choice reason = refl

  pub clear_objects : objections call.clear s ≡ ((some is_priming s.opens, PrimingOpen) ∷ [])
  unfolding objections
  clear_objects = refl

  pub purge_objects : objections call.purge s ≡ []
  unfolding objections
  purge_objects = refl

  pub attribute_objects : (id e c a : ℕ) → objections (call.attribute id e c a) s ≡ ((not_open id s, NotOpen) ∷ [])
  unfolding objections
  attribute_objects id e c a = refl

  pub send_objects : (id : ℕ) (kind : KeepAlive) → objections (call.send_if_empty id kind) s ≡ ((not_open id s, NotOpen) ∷ [])
  unfolding objections
  send_objects id kind = refl

  pub instant_objects : (events : ℕ) (kind : KeepAlive) → objections (call.next_instant events kind) s ≡ []
  unfolding objections
  instant_objects events kind = refl

  pub any_objects : (now : Instant) (events : ℕ) (kind : KeepAlive) → objections (call.any_reportable now events kind) s ≡ []
  unfolding objections
  any_objects now events kind = refl

  pub alive_objects : objections call.next_keep_alive s ≡ []
  unfolding objections
  alive_objects = refl

  pub statistics_objects : (fabric : ℕ) → objections (call.statistics fabric) s ≡ []
  unfolding objections
  statistics_objects fabric = refl

  pub has_objects : (fabric peer : ℕ) → objections (call.has_subscription fabric peer) s ≡ []
  unfolding objections
  has_objects fabric peer = refl

  pub round_objects : (at : Settings) (os ids : List ℕ) → objections (call.round at os ids) s
      ≡ ((some bad_outcome os || not (eqb (length os) (length ids)), BadArgument) ∷ (report_open s, ReportOpen) ∷ [])
  unfolding objections
  round_objects at os ids = refl

-- of a well-kept state the refusal is the first objection
pub refusal_kept : (op : Op) (s : State) → well_kept s ≡ true → refusal op s ≡ first_of (objections op s)
unfolding refusal
refusal_kept op s h = first_passed NotWellKept (objections op s) (rw h (and-false (takes_state op)))
