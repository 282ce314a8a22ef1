-- New, add, resume and note: the Rust does what the machine does.
-- Assumes nothing.
use Rattle.std.specs.Prelude.{None}
use mathlib.Core.Path.{◌≡◌, refl, sym, ap, ◌∙◌}
use mathlib.Core.Bool.{true, false}
use mathlib.Core.List.{[], ◌∷◌, ◌++◌, map, map-append}
use Prim.Native.Nat.{ℕ, ◌+◌}
use native.Mathlib.Omega.{arith}
use lib.Dec.{leb}
use lib.ListN.{length-append}
use Rattle.lists.specs.Search.{some}
use Rattle.lists.proofs.Bools.{or_neither}
use Rattle.lists.proofs.Searches.{some_append}
use Rattle.refusal.specs.declared.Refusal.TheVariants.{Full}
use Rattle.instants.specs.declared.Instant.{Instant}
use Rattle.changes.specs.Logs.{watermark_of, noted}
use Rattle.subscription.specs.declared.Request.{Request}
use Rattle.subscription.specs.declared.Subscription as one
use Rattle.subscription.specs.Life.{priming, resumed}
use Rattle.subscription.proofs.Laws.{priming_reporting}
use Rattle.subscription.proofs.Cases.{priming_is, resumed_is}
use Rattle.rules.specs.States.{State, fresh, counted, has_id}
use Rattle.rules.specs.Calls as call
use Rattle.rules.specs.Machine.{with_next, with_ones, with_log, next_id_after, first_of, objections, act}
use Rattle.rules.proofs.Acts.{act_new, act_add, act_resume, act_note}
use Rattle.rules.proofs.Clauses.{counted_is, add_objects, resume_objects}
use Rattle.rules.proofs.Objections.{unobjected}
use Rattle.original.specs.Std.{instant_min, instant_max}
use Rattle.original.specs.Log.{watermark}
use Rattle.original.specs.Contexts.{ReportContext, context, with_next_reported_at, set_keep, returned}
use Rattle.original.specs.Table as table
use Rattle.original.specs.Table.{new_table, add_with_id, report_complete}
use Rattle.original.specs.Calls.{reply, call_on}
use Rattle.original.specs.Likeness.{subscription_of, context_of, reporting_of, log_of, original_of}
use Rattle.original.proofs.Alike.{reply_of, same_table, Fit}
use Rattle.original.proofs.Opens.{not_owner}
use Rattle.original.proofs.SameNotes.{record_is, watermark_is}

pub fresh_same : (capacity : ℕ) → new_table capacity ≡ original_of (fresh capacity)
unfolding original_of log_of reporting_of
fresh_same capacity = same_table refl refl (sym (counted_is (fresh capacity))) refl refl refl refl refl

module _ (s : State) (fit : Fit s) where
  marked : watermark (log_of s.log) ≡ watermark_of s.log
  marked = watermark_is s.log fit.sound.log fit.identities

  pub new_same : (capacity : ℕ) → call_on (call.new capacity) (original_of s) ≡ reply_of (act (call.new capacity) s)
  unfolding call_on
  new_same capacity = rw (act_new s capacity) (ap (reply (call.number capacity)) (fresh_same capacity))

  pub note_same : (e c a : ℕ) → call_on (call.note e c a) (original_of s) ≡ reply_of (act (call.note e c a) s)
  unfolding call_on original_of log_of
  note_same e c a =
      rw (act_note s e c a)
      (ap (λ g. reply (call.heard s.log.next true) (table.with_log g (original_of s)))
      (record_is s.log fit.sound.log e c a fit.identities)
      ∙ ap (reply (call.heard s.log.next true)) (same_table refl refl recounted refl refl refl refl refl))
    where
      recounted : counted s ≡ counted (with_log s (noted s.log e c a).log)
      recounted = counted_is s ∙ sym (counted_is (with_log s (noted s.log e c a).log))

  -- ---- admission

  module _ (request : Request) (events : ℕ) where
    pub add_same : (now : Instant) → first_of (objections (call.add request events now) s) ≡ None
        → call_on (call.add request events now) (original_of s) ≡ reply_of (act (call.add request events now) s)
    unfolding call_on add_with_id original_of reporting_of context_of subscription_of
    add_same now e =
        let a = unobjected _ _ _ (ap first_of (sym (add_objects s request events now)) ∙ e) in
        let room : leb s.capacity (counted s) ≡ false = (unobjected _ _ _ a.1).0 in
        rw (act_add s request events now, room)
        (ap (reply (call.number s.next)) (same_table refl refl counts refl refl slot refl contexts))
      where
        new : one.Subscription
        new = priming request s.next (watermark_of s.log) events now

        opened : State
        opened = with_next (with_ones s s.stored (new ∷ s.opens)) (next_id_after s.next s.next)

        counts : counted s + 1 ≡ counted opened
        counts = omega (arith, counted_is s, counted_is opened)

        slot : reporting_of s.opens ≡ reporting_of opened.opens
        slot = rw (priming_reporting request s.next (watermark_of s.log) events now, reporting_of)

        first : ReportContext
        first = context (table.fresh s.next request (log_of s.log)) (watermark (log_of s.log)) events now.ms

        contexts : first ∷ map context_of s.opens ≡ map context_of opened.opens
        contexts = rw (marked, priming_is request s.next (watermark_of s.log) events now)

    -- what the Rust stores of a resumed one
    abbrev resuming : ℕ → ReportContext
    resuming id =
        set_keep
        (with_next_reported_at instant_max (context (table.fresh id request (log_of s.log)) (watermark (log_of s.log)) events instant_min))

    resumed_back : (id : ℕ) → returned (resuming id) ≡ subscription_of (resumed request id (watermark_of s.log) events)
    unfolding returned set_keep subscription_of
    resumed_back id = rw (marked, resumed_is request id (watermark_of s.log) events)

    pub resume_same : (id : ℕ) → first_of (objections (call.resume id request events) s) ≡ None
        → call_on (call.resume id request events) (original_of s) ≡ reply_of (act (call.resume id request events) s)
    unfolding call_on add_with_id original_of report_complete set_keep
    resume_same id e =
        let a = unobjected _ _ _ (ap first_of (sym (resume_objects s id request events)) ∙ e) in
        let b = unobjected _ _ _ a.1 in
        let room : leb s.capacity (counted s) ≡ false = b.0 in
        let free : some (has_id id) (s.stored ++ s.opens) ≡ false = (unobjected _ _ _ b.1).0 in
        let neither = or_neither (some (has_id id) s.stored) (some (has_id id) s.opens)
        (sym (some_append (has_id id) s.stored s.opens) ∙ free) in
        rw (act_resume s id request events, room, not_owner id s.opens neither.1)
        (ap (reply (call.number id)) (same_table refl refl counts stored refl refl refl refl))
      where
        new : one.Subscription
        new = resumed request id (watermark_of s.log) events

        after : State
        after = with_next (with_ones s (s.stored ++ (new ∷ [])) s.opens) (next_id_after s.next id)

        counts : counted s + 1 ≡ counted after
        counts = omega (arith, counted_is s, counted_is after, length-append s.stored (new ∷ []))

        stored : map subscription_of s.stored ++ (returned (resuming id) ∷ []) ≡ map subscription_of after.stored
        stored =
            ap (λ x. map subscription_of s.stored ++ (x ∷ [])) (resumed_back id)
            ∙ sym (map-append subscription_of s.stored (new ∷ []))

    -- where the table is full, the Rust has no context
    pub add_full : (now : Instant) → leb s.capacity (counted s) ≡ true
        → call_on (call.add request events now) (original_of s) ≡ reply (call.refused Full) (original_of s)
    unfolding call_on add_with_id original_of
    add_full now full = rw full

    pub resume_full : (id : ℕ) → leb s.capacity (counted s) ≡ true
        → call_on (call.resume id request events) (original_of s) ≡ reply (call.refused Full) (original_of s)
    unfolding call_on add_with_id original_of
    resume_full id full = rw full
