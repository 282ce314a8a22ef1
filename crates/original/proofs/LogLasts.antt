-- What lasts through every note, purge and clearing of a log, and holds of a fresh one, holds of the log of every state of a history: no
-- other call touches it. So identities have 64 bits, and the entries and the next identity settle the log.
-- Assumes nothing.
use mathlib.Core.Path.{◌≡◌, refl, sym, ap, ◌∙◌, subst⁻¹}
use mathlib.Core.Bool.{Bool, true, false, cond}
use mathlib.Core.List.{List, [], ◌∷◌}
use Prim.Native.Nat.{ℕ, ◌≤◌}
use native.Mathlib.Omega.{arith}
use lib.Dec.{ltb}
use lib.ListN.{length}
use Rattle.lists.specs.Search.{some}
use Rattle.lists.proofs.Bools.{split}
use Rattle.changes.specs.declared.ChangedAttrs.{ChangedAttrs}
use Rattle.changes.specs.Logs.{kept, fresh_log, noted, purged, cleared}
use Rattle.changes.specs.Reach.{Tidy}
use Rattle.changes.proofs.Answering.{fresh_tidy}
use Rattle.changes.proofs.Promises.{after_most, note_next, note_tidy, purge_next, purge_tidy, clear_next, clear_tidy}
use Rattle.rules.specs.States.{State}
use Rattle.rules.specs.Calls as call
use Rattle.rules.specs.Calls.{Settings, Op}
use Rattle.rules.specs.Machine.{ready, least_seen, reported, completed_in, Turn, turned, round_from, act, step}
use Rattle.rules.proofs.Acts.{act_new, act_note, reported_none, act_complete, act_completed, act_purge, round_over, round_goes_on, round_falls_silent, act_round}
use Rattle.rules.proofs.Lives.{handed_state}
use Rattle.rules.proofs.LogKept.{log_kept_lem}
use Rattle.rules.proofs.Refusals.{step_either}

-- ---- a report and a completion leave the log, and so does a round

report_log : (at : Settings) (s : State) → (reported at s).state.log ≡ s.log
report_log at s =
    split (some (ready at s) s.stored)
    (λ t. ap (λ u. u.log) (handed_state at s t))
    (λ t. ap (λ r. r.state.log) (reported_none at s t))

complete_log : (id o : ℕ) (s : State) → (completed_in id o s).state.log ≡ s.log
complete_log id o s = ap (λ r. r.state.log) (sym (act_completed s id o) ∙ act_complete s id o)

round_log : (at : Settings) (os : List ℕ) (t : Turn) → (round_from at os t).state.log ≡ t.state.log
round_log at [] t = ap (λ u. u.state.log) (round_over at t)
round_log at (o ∷ os) t =
    split (some (ready at t.state) t.state.stored)
    (λ f. ap (λ u. u.state.log) (round_goes_on at o os t f)
    ∙ round_log at os (turned at o t)
    ∙ complete_log _ o (reported at t.state).state
    ∙ report_log at t.state)
    (λ f. ap (λ u. u.state.log) (round_falls_silent at o os t f))

-- ---- what lasts

-- through what a log goes through
pub record Lasts (P : ChangedAttrs → Type 0) : Type 0 where
  pub fresh : P fresh_log
  pub note : (g : ChangedAttrs) → kept g ≡ true → (e c a : ℕ) → P g → P (noted g e c a).log
  pub purge : (g : ChangedAttrs) (t : ℕ) → P g → P (purged g t).log
  pub clear : (g : ChangedAttrs) → P g → P (cleared g).log

module _ (P : ChangedAttrs → Type 0) (lasts : Lasts P) where
  purge_lasts : (s : State) → P s.log
      → P
      (cond (ltb 0 (length s.opens)) s.log
      (cond (ltb 0 (length s.stored)) (purged s.log (least_seen s.stored)).log (cleared s.log).log))
  purge_lasts s h = go (ltb 0 (length s.opens)) (ltb 0 (length s.stored))
    where
      go : (a b : Bool) → P (cond a s.log (cond b (purged s.log (least_seen s.stored)).log (cleared s.log).log))
      go true b = h
      go false true = lasts.purge s.log (least_seen s.stored) h
      go false false = lasts.clear s.log h

  -- a call that leaves the log
  left : (op : Op) (s : State) → (step op s).state.log ≡ s.log → P s.log → P (step op s).state.log
  left op s e h = subst⁻¹ P e h

  -- a call that may touch it, where it acts
  acting : (op : Op) (s : State) → P (act op s).state.log → P s.log → P (step op s).state.log
  acting op s a h = step_either (λ r. P r.state.log) op s (λ e. a) (λ why e. h)

  pub log_lasts : (op : Op) (s : State) → kept s.log ≡ true → P s.log → P (step op s).state.log
  log_lasts (call.new capacity) s k h = acting (call.new capacity) s (rw (act_new s capacity) lasts.fresh) h
  log_lasts (call.add request events now) s k h = left (call.add request events now) s (log_kept_lem _ s refl) h
  log_lasts (call.resume id request events) s k h = left (call.resume id request events) s (log_kept_lem _ s refl) h
  log_lasts (call.note e c a) s k h = acting (call.note e c a) s (rw (act_note s e c a) (lasts.note s.log k e c a h)) h
  log_lasts (call.report at) s k h = left (call.report at) s (log_kept_lem _ s refl) h
  log_lasts (call.complete id o) s k h = left (call.complete id o) s (log_kept_lem _ s refl) h
  log_lasts (call.remove choice reason) s k h = left (call.remove choice reason) s (log_kept_lem _ s refl) h
  log_lasts call.clear s k h = left call.clear s (log_kept_lem _ s refl) h
  log_lasts call.purge s k h = acting call.purge s (rw (act_purge s) (purge_lasts s h)) h
  log_lasts (call.attribute id e c a) s k h = left (call.attribute id e c a) s (log_kept_lem _ s refl) h
  log_lasts (call.send_if_empty id kind) s k h = left (call.send_if_empty id kind) s (log_kept_lem _ s refl) h
  log_lasts (call.next_instant events kind) s k h = left (call.next_instant events kind) s (log_kept_lem _ s refl) h
  log_lasts (call.any_reportable now events kind) s k h = left (call.any_reportable now events kind) s (log_kept_lem _ s refl) h
  log_lasts call.next_keep_alive s k h = left call.next_keep_alive s (log_kept_lem _ s refl) h
  log_lasts (call.statistics fabric) s k h = left (call.statistics fabric) s (log_kept_lem _ s refl) h
  log_lasts (call.has_subscription fabric peer) s k h = left (call.has_subscription fabric peer) s (log_kept_lem _ s refl) h
  log_lasts (call.round at os ids) s k h =
      acting (call.round at os ids) s
      (rw (act_round s at os ids) (subst⁻¹ P (round_log at os (record { hand_outs = 0; ids = ids; state = s })) h)) h

-- identities have 64 bits
abbrev pub Narrow : ChangedAttrs → Type 0
Narrow g = g.next ≤ 18446744073709551615

pub narrow_lasts : Lasts Narrow
narrow_lasts =
    record {
      fresh = omega arith;
      note = λ g k e c a h. rw (note_next g k e c a) (after_most g.next h);
      purge = λ g t h. rw (purge_next g t) h;
      clear = λ g h. rw (clear_next g) h;
    }

-- places beyond the entries are blank
pub tidy_lasts : Lasts Tidy
tidy_lasts =
    record {
      fresh = fresh_tidy;
      note = λ g k e c a h. note_tidy g k e c a;
      purge = λ g t h. purge_tidy g t h;
      clear = λ g h. clear_tidy g h;
    }
