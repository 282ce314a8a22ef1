-- What the loop of `run` cites: the bytes of a scan, one after another, lead to where the scan leads and to what it found; where no line ended
-- the chunk is used up, and where one did its answer is put.
-- Assumes nothing.
use mathlib.Core.Path.{◌≡◌, refl, sym, ap, ◌∙◌}
use mathlib.Core.Bool.{Bool, true, false}
use mathlib.Core.List.{List, [], ◌∷◌}
use Prim.Native.Nat.{ℕ, suc, ◌+◌, ◌-◌, ◌≤◌, ◌<◌}
use native.Mathlib.Nat.{add-zero, le_of_eq}
use native.Mathlib.Omega.{arith}
use lib.Dec.{leb}
use lib.ListN.{length, length-drop, take, drop, drop_of_length-le}
use lib.Seq.{drop-drop}
use Rattle.lists.proofs.Bools.{clash}
use Rattle.lists.proofs.Parts.{rest}
use Rattle.cutting.specs.declared.Found.{Found}
use Rattle.cutting.specs.declared.Found.TheVariants as found
use Rattle.cutting.specs.declared.Reading.{Reading}
use Rattle.cutting.specs.declared.Scanned.{Scanned}
use Rattle.cutting.specs.declared.Stepped.{Stepped}
use Rattle.cutting.specs.Steps.{step_of, ends_of, close_of, scan_from, scan_of}
use Rattle.cutting.proofs.Steps.{scan_ends, scan_goes, scan_none}
use Rattle.cutting.proofs.Scans.{ends_not, scan_from_lem, scan_is}
use Rattle.lines.specs.declared.Line.{Line}
use Rattle.printing.specs.Answers.{answer_of, put_of, answer_room}
use Rattle.places.specs.declared.Table.{Table}
use Rattle.places.specs.Calls.{Tabled}
use Rattle.answering.specs.Replies.{coded}
use Rattle.answering.specs.Answers.{answer_in}
use Rattle.tracing.specs.declared.Session.{Session}
use Rattle.tracing.specs.Runs.{Work, session_of, begun, line_found, moved, text_of, answered_to, told, byte_in, run_from, finish_of}

-- where a run stands, by the loop's variables
abbrev pub standing : Table → Reading → List ℕ → List ℕ → ℕ → ℕ → Work
standing t r held out used wrote = record { session = session_of t r; held = held; out = out; used = used; wrote = wrote }

-- there is room for an answer
abbrev pub Room : Work → Bool
Room x = leb (x.wrote + answer_room) (length x.out)

pub run_full : (x : Work) (s : List ℕ) → Room x ≡ false → run_from x s ≡ x
unfolding run_from
run_full x [] h = refl
run_full x (b ∷ s) h = rw (h, run_from)

pub run_done : (x : Work) → run_from x [] ≡ x
unfolding run_from
run_done x = refl

pub run_next : (x : Work) (b : ℕ) (s : List ℕ) → Room x ≡ true → run_from x (b ∷ s) ≡ run_from (byte_in x b) s
unfolding run_from
run_next x b s h = rw (h, run_from)

-- the scan of s, where i bytes have passed before
module _ (i : ℕ) (x : Work) (s : List ℕ) where
  abbrev k : Scanned × List ℕ
  k = scan_from i x.session.reading x.held s

  abbrev Led : Scanned × List ℕ → Type 0
  Led p = run_from x s ≡ run_from (told (moved x p.0.reading p.1 (p.0.used - i)) p.0.found) (drop (p.0.used - i) s)

module _ (i : ℕ) (x : Work) (b : ℕ) (s : List ℕ) (room : Room x ≡ true) where
  abbrev t : Stepped
  t = (step_of x.session.reading x.held b).0

  abbrev held' : List ℕ
  held' = (step_of x.session.reading x.held b).1

  stops : Led i x (b ∷ s) (record { reading = t.reading; found = t.found; used = i + 1 }, held')
  unfolding byte_in
  stops = let one : i + 1 - i ≡ 1 = omega arith in rw one (run_next x b s room)

  goes : (p : Scanned × List ℕ) → ends_of t.found ≡ false → i + 1 ≤ p.0.used → Led (i + 1) (moved x t.reading held' 1) s p
      → Led i x (b ∷ s) p
  unfolding byte_in
  goes p e from ih =
      let n : p.0.used - i ≡ suc (p.0.used - (i + 1)) = omega arith in
      let m : x.used + 1 + (p.0.used - (i + 1)) ≡ x.used + suc (p.0.used - (i + 1)) = omega arith in
      run_next x b s room
      ∙ ap (λ (f : Found). run_from (told (moved x t.reading held' 1) f) s) (ends_not t.found e)
      ∙ ih
      ∙ rw n
      (ap (λ (n : ℕ). run_from (told (standing x.session.table p.0.reading p.1 x.out n x.wrote) p.0.found) (drop (p.0.used - (i + 1)) s)) m)

  abbrev y : Work
  y = moved x t.reading held' 1

  by_first : (e : Bool) → ends_of t.found ≡ e → Led (i + 1) y s (k (i + 1) y s) → Led i x (b ∷ s) (k i x (b ∷ s))
  by_first true e ih = rw (scan_ends i x.session.reading x.held b s t held' refl e) stops
  by_first false e ih =
      rw (scan_goes i x.session.reading x.held b s t held' refl e)
      (goes (k (i + 1) y s) e (scan_from_lem (i + 1) y.session.reading y.held s).from ih)

scanned_from : (i : ℕ) (x : Work) (s : List ℕ) → Room x ≡ true → Led i x s (k i x s)
scanned_from i x [] room =
    let none : i - i ≡ 0 = omega arith in
    rw (scan_none i x.session.reading x.held, none, add-zero)
scanned_from i x (b ∷ s) room =
    by_first i x b s room (ends_of (t i x b s room).found) refl (scanned_from (i + 1) (y i x b s room) s room)

-- a line that ended is answered
ended : (x : Work) (f : Found) → ends_of f ≡ true → told x f ≡ answered_to x (line_found x.held f)
ended x found.Nothing e = absurd (clash e refl)
ended x found.Bad e = refl
ended x (found.Whole n) e = refl

-- a turn of the loop: the scan of what is left of the chunk s
module _ (r : Reading) (held : List ℕ) (used : ℕ) (s : List ℕ) (u : Scanned) (held'' : List ℕ)
    (scan : (u, held'') ≡ scan_of r held (take (length s - used) (drop used s))) where
  scan_rest : (u, held'') ≡ scan_of r held (drop used s)
  scan_rest = scan ∙ ap (scan_of r held) (rest s used)

  pub turn_within : used ≤ length s → used + u.used ≤ length s
  turn_within h =
      let p = scan_is r held (drop used s) in
      let e : u.used ≡ (scan_of r held (drop used s)).0.used = ap (λ (q : Scanned × List ℕ). q.0.used) scan_rest in
      omega (arith, p.within, length-drop used s)

  pub turn_moves : used < length s → 0 < u.used
  turn_moves h =
      let p = scan_is r held (drop used s) in
      let e : u.used ≡ (scan_of r held (drop used s)).0.used = ap (λ (q : Scanned × List ℕ). q.0.used) scan_rest in
      let g : 0 < length (drop used s) = omega (arith, length-drop used s) in
      omega (arith, p.moves g)

  turn_ends : ends_of u.found ≡ false → used ≤ length s → used + u.used ≡ length s
  turn_ends f h =
      let p = scan_is r held (drop used s) in
      let e : u.used ≡ (scan_of r held (drop used s)).0.used = ap (λ (q : Scanned × List ℕ). q.0.used) scan_rest in
      let g : (scan_of r held (drop used s)).0.found ≡ found.Nothing = sym (ap (λ (q : Scanned × List ℕ). q.0.found) scan_rest) ∙ ends_not u.found f in
      omega (arith, p.whole g, length-drop used s)

module _ (t : Table) (r : Reading) (held out : List ℕ) (used wrote : ℕ) (s : List ℕ) (u : Scanned) (held'' : List ℕ)
    (scan : (u, held'') ≡ scan_of r held (take (length s - used) (drop used s))) (room : leb (wrote + answer_room) (length out) ≡ true) where
  abbrev after : Work
  after = standing t u.reading held'' out (used + u.used) wrote

  led : run_from (standing t r held out used wrote) (drop used s) ≡ run_from (told after u.found) (drop (used + u.used) s)
  led =
      let x = standing t r held out used wrote in
      let none : u.used - 0 ≡ u.used = omega arith in
      scanned_from 0 x (drop used s) room
      ∙ ap (λ (q : Scanned × List ℕ). run_from (told (moved x q.0.reading q.1 (q.0.used - 0)) q.0.found) (drop (q.0.used - 0) (drop used s)))
      (sym (scan_rest r held used s u held'' scan))
      ∙ ap (λ (n : ℕ). run_from (told (moved x u.reading held'' n) u.found) (drop n (drop used s))) none
      ∙ ap (run_from (told after u.found)) (drop-drop u.used used s)

  -- no line ended: the chunk is used up
  pub turn_none : used ≤ length s → ends_of u.found ≡ false
      → run_from (standing t r held out used wrote) (drop used s) ≡ after
  turn_none h f =
      led
      ∙ ap (λ (g : Found). run_from (told after g) (drop (used + u.used) s)) (ends_not u.found f)
      ∙ ap (run_from after) (drop_of_length-le s (le_of_eq (sym (turn_ends r held used s u held'' scan f h))))
      ∙ run_done after

  -- a line ended: it is answered
  pub turn_answered : ends_of u.found ≡ true → (l : Line) (a : Tabled ℕ) (w : ℕ) (out' : List ℕ)
      → l ≡ line_found held'' u.found
      → a ≡ answer_in t l
      → (w, out') ≡ put_of answer_room out wrote (answer_of u.reading.number (coded a.answer).code (coded a.answer).value)
      → run_from (standing t r held out used wrote) (drop used s)
      ≡ run_from (standing a.table u.reading held'' out' (used + u.used) w) (drop (used + u.used) s)
  unfolding answered_to
  turn_answered e l a w out' line answer put =
      led
      ∙ ap (λ (x : Work). run_from x (drop (used + u.used) s))
      (ended after u.found e
      ∙ ap (answered_to after) (sym line)
      ∙ ap (λ (b : Tabled ℕ). standing b.table u.reading held''
      (put_of answer_room out wrote (answer_of u.reading.number (coded b.answer).code (coded b.answer).value)).1
      (used + u.used)
      (put_of answer_room out wrote (answer_of u.reading.number (coded b.answer).code (coded b.answer).value)).0) (sym answer)
      ∙ ap (λ (p : ℕ × List ℕ). standing a.table u.reading held'' p.1 (used + u.used) p.0) (sym put))

-- the input's end
module _ (x : Session) (held out : List ℕ) (u : Stepped) (close : u ≡ close_of x.reading) where
  abbrev last : Work
  last = moved (begun x held out) (close_of x.reading).reading held 0

  pub finish_none : ends_of u.found ≡ false → (0, out) ≡ finish_of x held out
  unfolding finish_of
  finish_none f =
      let e : (close_of x.reading).found ≡ found.Nothing = sym (ap (λ (v : Stepped). v.found) close) ∙ ends_not u.found f in
      sym (ap (λ (g : Found). ((told last g).wrote, (told last g).out)) e)

  pub finish_answered : ends_of u.found ≡ true → (l : Line) (a : Tabled ℕ) (w : ℕ) (out' : List ℕ)
      → l ≡ line_found held u.found
      → a ≡ answer_in x.table l
      → (w, out') ≡ put_of answer_room out 0 (answer_of u.reading.number (coded a.answer).code (coded a.answer).value)
      → (w, out') ≡ finish_of x held out
  unfolding finish_of answered_to
  finish_answered e l a w out' line answer put =
      put
      ∙ ap (λ (b : Tabled ℕ). put_of answer_room out 0 (answer_of u.reading.number (coded b.answer).code (coded b.answer).value)) (answer ∙ ap (answer_in x.table) line)
      ∙ ap (λ (v : Stepped). put_of answer_room out 0 (text_of x.table v.reading.number (line_found held v.found))) close
      ∙ sym (ap (λ (y : Work). (y.wrote, y.out)) (ended last (close_of x.reading).found (ap (λ (v : Stepped). ends_of v.found) (sym close) ∙ e)))
