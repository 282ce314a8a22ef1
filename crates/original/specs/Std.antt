-- What the Rust takes from its standard library and from its containers, under the names that they have there. An instant is its
-- milliseconds. Numbers have no width: a sum that wraps or saturates says at how many bits, and a cast that can lose no bit, by the type of
-- what it casts, is left out.
-- Assumes nothing.
use Rattle.std.specs.Prelude.{Bool, true, false, cond, List, [], ◌∷◌, ◌++◌, ℕ, zero, suc, ◌+◌, ◌-◌, ◌*◌, ◌%◌, ◌^◌, min, leb, ltb, length, take, set, get_or, Option, Some, None, slice_get}

-- ---- options

module _ {A : Type 0} where
  -- `Option::unwrap_or`
  abbrev pub unwrap_or : Option A → A → A
  unwrap_or None other = other
  unwrap_or (Some x) other = x

  -- `Option::is_some`
  abbrev pub is_some : Option A → Bool
  is_some None = false
  is_some (Some x) = true

module _ {A B : Type 0} where
  -- `Option::map`
  abbrev pub map_some : (A → B) → Option A → Option B
  map_some f None = None
  map_some f (Some x) = Some (f x)

-- ---- numbers

-- `saturating_add`
abbrev pub saturating_add : ℕ → ℕ → ℕ → ℕ
saturating_add bits a b = min (a + b) (2 ^ bits - 1)

-- `wrapping_add`
abbrev pub wrapping_add : ℕ → ℕ → ℕ → ℕ
wrapping_add bits a b = (a + b) % 2 ^ bits

-- `wrapping_sub`, and `-=` where nothing checks it
abbrev pub wrapping_sub : ℕ → ℕ → ℕ → ℕ
wrapping_sub bits a b = (a + (2 ^ bits - b)) % 2 ^ bits

-- `<<`
abbrev pub shift_left : ℕ → ℕ → ℕ → ℕ
shift_left bits a by = a * 2 ^ by % 2 ^ bits

-- ---- instants

-- `Instant::MIN`
abbrev pub instant_min : ℕ
instant_min = 0

-- `Instant::MAX`
abbrev pub instant_max : ℕ
instant_max = 18446744073709551615

-- `Instant::checked_add` of a `Duration::from_secs`
unfoldable pub checked_add : ℕ → ℕ → Option ℕ
checked_add at secs = cond (leb (at + secs * 1000) instant_max) (Some (at + secs * 1000)) None

-- ---- vectors

module _ {A : Type 0} where
  -- `Vec::swap_remove`: the last one is put at the place, and the vector is one shorter
  unfoldable pub swap_remove : ℕ → List A → List A
  swap_remove i [] = []
  swap_remove i (x ∷ xs) = take (length xs) (set (x ∷ xs) i (get_or (x ∷ xs) (length xs) x))

  -- `Vec::push` of a vector that holds at most so many
  unfoldable pub push : ℕ → A → List A → Option (List A)
  push most x l = cond (ltb (length l) most) (Some (l ++ (x ∷ []))) None

  -- `Iterator::position`
  unfoldable pub position : (A → Bool) → List A → Option ℕ
  position p [] = None
  position p (x ∷ xs) = cond (p x) (Some 0) (map_some suc (position p xs))

  -- `Iterator::find`
  unfoldable pub find : (A → Bool) → List A → Option A
  find p [] = None
  find p (x ∷ xs) = cond (p x) (Some x) (find p xs)

  -- `if let Some(x) = v.iter_mut().find(p) { *x = f(x) }`: the vector then, or nothing where none is found
  unfoldable pub find_mut : (A → Bool) → (A → A) → List A → Option (List A)
  find_mut p f [] = None
  find_mut p f (x ∷ xs) = cond (p x) (Some (f x ∷ xs)) (map_some (λ l. x ∷ l) (find_mut p f xs))

  -- `while i < v.len() { if p(&v[i]) { v.swap_remove(i); } else { i += 1; } }`: the first number is how many turns are left to it
  unfoldable pub remove_while : ℕ → (A → Bool) → ℕ → List A → List A
  remove_while zero p i l = l
  remove_while (suc n) p i l =
      elim (slice_get l i) [
        | None ↦ l
        | Some x ↦ elim (p x) [ true ↦ remove_while n p i (swap_remove i l) | false ↦ remove_while n p (suc i) l ]
      ]

-- `Iterator::min`, under way
unfoldable pub min_from : ℕ → List ℕ → ℕ
min_from least [] = least
min_from least (n ∷ ns) = min_from (min least n) ns

-- `Iterator::min`
abbrev pub iter_min : List ℕ → Option ℕ
iter_min [] = None
iter_min (n ∷ ns) = Some (min_from n ns)
