-- The ids of the live ones in one array: a turn of copying some of them, and both parts behind one another.
-- Assumes nothing.
use Rattle.std.proofs.Common.{◌≡◌, ℕ, suc, ◌+◌, ◌<◌, ◌≤◌, List, [], ◌∷◌, ◌++◌, map, length, get_or, take, drop, set, ◌∙◌, add-one, append_assoc, arith, length-take-le, drop-cons, take-suc}
use mathlib.Core.List.{map-append}
use lib.Seq.{set_at, take_at}
use Rattle.std.proofs.lemmas.List.{length-map}
use Rattle.subscription.specs.declared.Subscription.{Subscription}
use Rattle.subscription.specs.Life.{blank}

abbrev pub ids_of : List Subscription → List ℕ
ids_of xs = map (λ x. x.id) xs

-- one more id
pub copied : (old : List ℕ) {ids : List ℕ} (xs : List Subscription) (i : ℕ) → i < length xs → length xs ≤ length old
    → ids ≡ ids_of (take i xs) ++ drop i old → set ids i (get_or xs i blank).id ≡ ids_of (take (i + 1) xs) ++ drop (i + 1) old
copied old xs i h fits e =
    let x = get_or xs i blank in
    let within : i < length old = omega arith in
    let many : length (ids_of (take i xs)) ≡ i = length-map (take i xs) (λ x. x.id) ∙ length-take-le i xs (omega arith) in
    let more : ids_of (take (i + 1) xs) ≡ ids_of (take i xs) ++ (x.id ∷ []) =
    rw (add-one, take-suc xs i blank h) (map-append (λ x. x.id) (take i xs) (x ∷ [])) in
    rw (e, more, drop-cons old i 0 within, append_assoc, add-one)
    (set_at (ids_of (take i xs)) (get_or old i 0) (drop (suc i) old) x.id i many)

-- the ids of the stored ones, and behind them those of the open ones
pub both_ids : (stored opens : List Subscription) (old more post : List ℕ) {first second : List ℕ} → first ≡ ids_of stored ++ old
    → second ≡ ids_of opens ++ more → take (length (stored ++ opens)) (take (length stored) first ++ (second ++ post)) ≡ ids_of (stored ++ opens)
both_ids stored opens old more post e f =
    let front = length-map stored (λ x. x.id) in
    let all = length-map (stored ++ opens) (λ x. x.id) in
    let parts = map-append (λ (x : Subscription). x.id) stored opens in
    rw (e, f, take_at (ids_of stored) old (length stored) front, append_assoc, ← append_assoc (ids_of stored) (ids_of opens) (more ++ post), ← parts)
    (take_at (ids_of (stored ++ opens)) (more ++ post) (length (stored ++ opens)) all)
