-- What entering a note does to the list of entries: the note is stood for, what was stood for stays so, no identity comes from nowhere, and
-- there are never more than sixteen.
-- Assumes nothing.
use mathlib.Core.Path.{◌≡◌, refl, sym, ◌∙◌}
use mathlib.Core.Bool.{Bool, true, false, not, cond, ◌&&◌}
use mathlib.Core.List.{List, [], ◌∷◌, ◌++◌}
use mathlib.Core.Logic.{⊎_elim}
use Prim.Native.Nat.{ℕ, ◌≤◌, ◌<◌, max}
use native.Mathlib.Omega.{arith}
use borrow.Author.Tests.{lt-ltb, le-ltb, ltb-true, ltb-false, not-true}
use lib.Dec.{ltb}
use lib.ListN.{length, length-append}
use Rattle.entries.specs.declared.ChangedAttr.{ChangedAttr}
use Rattle.entries.specs.declared.Level.{Level}
use Rattle.entries.specs.declared.Level.TheVariants.{Cluster, Endpoint}
use Rattle.lists.specs.Search.{some}
use Rattle.lists.specs.Removal.{sweep}
use Rattle.entries.specs.Paths.{with_identity, all_wild, covers, over, under, above}
use Rattle.notes.specs.Notes.{refreshed, placed, largest, newest, folded, crowded, inserted, entered}
use Rattle.notes.specs.Reach.{reaches}
use Rattle.lists.proofs.Bools.{split, clash, and_both, or_either, or_left, or_right}
use Rattle.lists.proofs.Searches.{some_append, some_front, some_end, some_weaken, some_tells, some_by, some_unchanged, some_changed, some_changing, length_changed}
use Rattle.lists.proofs.Removals.{length_swept, stays, was_there}
use Rattle.entries.proofs.Covering.{covers_self, covers_trans, wild_covers, over_covers, under_covers, path_covers, above_at}
use Rattle.notes.proofs.Laws.{reaches_by, reaches_covers, reaches_late}
use Rattle.notes.proofs.Groups.{largest_covers, folded_room}

-- ---- identities

-- the greatest identity of the entries that p holds of is at least that of each
newest_least : (p q : ChangedAttr → Bool) (k : ℕ) (l : List ChangedAttr)
    → ((x : ChangedAttr) → q x ≡ true → (p x ≡ true) × (k ≤ x.identity)) → some q l ≡ true → k ≤ newest p l
unfolding some newest
newest_least p q k [] f h = absurd (clash h refl)
newest_least p q k (x ∷ xs) f h =
    ⊎_elim
    (λ e. let w = f x e in rw (w.0, newest) (omega arith))
    (λ e. omega (arith, newest_least p q k xs f e))
    (or_either (q x) (some q xs) h)

-- and is one that some entry has
newest_had : (p : ChangedAttr → Bool) (k : ℕ) (l : List ChangedAttr) → k < newest p l → some (above k) l ≡ true
unfolding some newest
newest_had p k [] h = absurd (omega arith)
newest_had p k (x ∷ xs) h =
    split (above k x)
    (λ t. or_left (some (above k) xs) t)
    (λ t. let low : x.identity ≤ k = ltb-false _ _ (sym (above_at k x) ∙ t) in
    split (p x)
    (λ u. or_right (above k x) (newest_had p k xs (let w = rw (u, newest) at h in omega arith)))
    (λ u. or_right (above k x) (newest_had p k xs (let w = rw (u, newest) at h in omega arith))))

-- some identity is above s exactly where the greatest is
pub newest_above : (s : ℕ) (l : List ChangedAttr) → some (above s) l ≡ ltb s (newest (above 0) l)
unfolding some newest
newest_above s [] = sym (le-ltb s 0 (omega arith))
newest_above s (x ∷ xs) =
    let n = newest (above 0) xs in
    let ih = newest_above s xs in
    let at : cond (above 0 x) x.identity 0 ≡ x.identity =
    split (above 0 x) (λ t. rw t) (λ t. rw t (let z = ltb-false 0 x.identity (sym (above_at 0 x) ∙ t) in omega arith)) in
    split (above s x)
    (λ t. or_left (some (above s) xs) t
    ∙ sym (lt-ltb s (max (cond (above 0 x) x.identity 0) n) (let w = ltb-true s x.identity (sym (above_at s x) ∙ t) in omega arith)))
    (λ t. let low = ltb-false s x.identity (sym (above_at s x) ∙ t) in
    split (ltb s n)
    (λ u. or_right (above s x) (ih ∙ u) ∙ sym (lt-ltb s (max (cond (above 0 x) x.identity 0) n) (let w = ltb-true s n u in omega arith)))
    (λ u. rw t (ih ∙ u) ∙ sym (le-ltb s (max (cond (above 0 x) x.identity 0) n) (let w = ltb-false s n u in omega arith))))

module _ (n : ChangedAttr) where
  -- ---- the ways to place a note: what holds of each holds of the outcome
  module _ (P : List ChangedAttr → Type 0) where
    placed_by : (l : List ChangedAttr) → (some (over n) l ≡ true → P (refreshed n l)) → P (l ++ (n ∷ [])) → P (placed n l)
    unfolding placed
    placed_by l f g = split (some (over n) l) (λ t. rw (t, placed) (f t)) (λ t. rw (t, placed) g)

    crowded_by : (l : List ChangedAttr)
        → ((level : Level) → 1 < (largest level l).size → P (placed n (folded (largest level l).by l)))
        → P (all_wild n.identity ∷ []) → P (crowded n l)
    unfolding crowded
    crowded_by l f g =
        split (ltb 1 (largest Cluster l).size)
        (λ t. rw (t, crowded) (f Cluster (ltb-true _ _ t)))
        (λ t. split (ltb 1 (largest Endpoint l).size)
        (λ u. rw (t, u, crowded) (f Endpoint (ltb-true _ _ u)))
        (λ u. rw (t, u, crowded) g))

    inserted_by : (l : List ChangedAttr) → (length l < 16 → P (l ++ (n ∷ []))) → P (crowded n l) → P (inserted n l)
    unfolding inserted
    inserted_by l f g = split (ltb (length l) 16) (λ t. rw (t, inserted) (f (ltb-true _ _ t))) (λ t. rw (t, inserted) g)

    entered_by : (l : List ChangedAttr) → (some (over n) l ≡ true → P (refreshed n l)) → P (inserted n (sweep (under n) l))
        → P (entered n l)
    unfolding entered
    entered_by l f g = split (some (over n) l) (λ t. rw (t, entered) (f t)) (λ t. rw (t, entered) g)

  -- ---- the note is stood for
  module _ (r : ChangedAttr → Bool) (told : (x : ChangedAttr) → covers x n ≡ true → r (with_identity n.identity x) ≡ true) where
    at_end : (l : List ChangedAttr) → some r (l ++ (n ∷ [])) ≡ true
    at_end l = some_end r l n (told n (covers_self n))

    in_place : (l : List ChangedAttr) → some (over n) l ≡ true → some r (refreshed n l) ≡ true
    unfolding refreshed
    in_place l h = some_changing (over n) r (with_identity n.identity) l (λ x c. told x (sym (over_covers n x) ∙ c)) h

    -- whatever holds of every entry that covers the note and has its identity holds of some entry afterwards
    pub entered_has : (l : List ChangedAttr) → some r (entered n l) ≡ true
    unfolding some
    entered_has l =
        let P : List ChangedAttr → Type 0 = λ m. some r m ≡ true in
        let rest = sweep (under n) l in
        entered_by P l (in_place l)
        (inserted_by P rest (λ h. at_end rest)
        (crowded_by P rest
        (λ level h. let m = folded (largest level rest).by rest in placed_by P m (in_place m) (at_end m))
        (or_left false (told (all_wild n.identity) (wild_covers n.identity n)))))

  -- ---- what was stood for stays so
  module _ (q : ChangedAttr) (k : ℕ) (late : k ≤ n.identity) where
    -- an entry that covers q stands for it with the note's identity too
    renewed_reaches : (x : ChangedAttr) → covers x q ≡ true → reaches q k (with_identity n.identity x) ≡ true
    renewed_reaches x h = reaches_by q (with_identity n.identity x) k (path_covers n.identity q.identity x q ∙ h) late

    refreshed_keeps : (l : List ChangedAttr) → some (reaches q k) l ≡ true → some (reaches q k) (refreshed n l) ≡ true
    unfolding refreshed
    refreshed_keeps l h =
        some_changed (over n) (reaches q k) (with_identity n.identity) l (λ x e. renewed_reaches x (reaches_covers q x k e)) h

    placed_keeps : (l : List ChangedAttr) → some (reaches q k) l ≡ true → some (reaches q k) (placed n l) ≡ true
    placed_keeps l h =
        placed_by (λ m. some (reaches q k) m ≡ true) l (λ t. refreshed_keeps l h) (some_front (reaches q k) l (n ∷ []) h)

    -- of two entries, one covered by the other, the coarser covers what the finer does
    coarser : (by x : ChangedAttr) → (reaches q k x && under by x) ≡ true → covers by q ≡ true
    coarser by x h = let w = and_both _ _ h in covers_trans by x q (sym (under_covers by x) ∙ w.1) (reaches_covers q x k w.0)

    kept_out : (by x : ChangedAttr) → (reaches q k x && not (under by x)) ≡ true → under by x ≡ false
    kept_out by x h = not-true (under by x) (and_both (reaches q k x) (not (under by x)) h).1

    -- what is not covered by an entry outlives the removal of what is
    outlives : (by : ChangedAttr) (l : List ChangedAttr) → some (λ x. reaches q k x && not (under by x)) l ≡ true
        → some (reaches q k) (sweep (under by) l) ≡ true
    outlives by l h =
        some_weaken (λ x. reaches q k x && not (under by x)) (reaches q k) (sweep (under by) l) (λ x e. (and_both _ _ e).0)
        (stays (under by) (λ x. reaches q k x && not (under by x)) l (kept_out by) h)

    folded_end : (by : ChangedAttr) (l : List ChangedAttr) → some (λ x. reaches q k x && under by x) l ≡ true
        → reaches q k (with_identity (newest (under by) l) by) ≡ true
    folded_end by l h =
        reaches_by q (with_identity (newest (under by) l) by) k
        (path_covers (newest (under by) l) q.identity by q ∙ some_tells (λ x. reaches q k x && under by x) l (coarser by) h)
        (newest_least (under by) (λ x. reaches q k x && under by x) k l
        (λ x e. let w = and_both _ _ e in (w.1, reaches_late q x k w.0)) h)

    folded_keeps : (by : ChangedAttr) (l : List ChangedAttr) → some (reaches q k) l ≡ true → some (reaches q k) (folded by l) ≡ true
    unfolding folded
    folded_keeps by l h =
        ⊎_elim
        (λ e. some_end (reaches q k) (sweep (under by) l) (with_identity (newest (under by) l) by) (folded_end by l e))
        (λ e. some_front (reaches q k) (sweep (under by) l) (with_identity (newest (under by) l) by ∷ []) (outlives by l e))
        (some_by (reaches q k) (under by) l h)

    inserted_keeps : (l : List ChangedAttr) → some (reaches q k) l ≡ true → some (reaches q k) (inserted n l) ≡ true
    unfolding some
    inserted_keeps l h =
        let P : List ChangedAttr → Type 0 = λ m. some (reaches q k) m ≡ true in
        inserted_by P l (λ t. some_front (reaches q k) l (n ∷ []) h)
        (crowded_by P l
        (λ level t. placed_keeps (folded (largest level l).by l) (folded_keeps (largest level l).by l h))
        (or_left false (renewed_reaches (all_wild n.identity) (wild_covers n.identity q))))

    -- through a later note, what some entry stands for with identity k or a later one, some entry still does
    pub entered_keeps : (l : List ChangedAttr) → some (reaches q k) l ≡ true → some (reaches q k) (entered n l) ≡ true
    entered_keeps l h =
        ⊎_elim
        (λ e. entered_has (reaches q k)
        (λ x c. renewed_reaches x (covers_trans x n q c (some_tells (λ x. reaches q k x && under n x) l (coarser n) e))) l)
        (λ e. entered_by (λ m. some (reaches q k) m ≡ true) l (λ t. refreshed_keeps l h)
        (inserted_keeps (sweep (under n) l) (outlives n l e)))
        (some_by (reaches q k) (under n) l h)

  -- ---- no identity comes from nowhere
  module _ (w : ℕ) (low : n.identity ≤ w) where
    -- an entry with the note's identity is not above w
    not_above : (x : ChangedAttr) → above w (with_identity n.identity x) ≡ false
    not_above x = above_at w (with_identity n.identity x) ∙ le-ltb w n.identity low

    -- an entry above w is one that was there
    abbrev Old : List ChangedAttr → List ChangedAttr → Type 0
    Old l m = some (above w) m ≡ true → some (above w) l ≡ true

    ended_old : (l m : List ChangedAttr) → Old l m → Old l (m ++ (n ∷ []))
    unfolding some
    ended_old l m f h =
        ⊎_elim f
        (λ e. ⊎_elim (λ t. absurd (clash t (not_above n))) (λ t. absurd (clash t refl)) (or_either (above w n) false e))
        (or_either (some (above w) m) (some (above w) (n ∷ [])) (sym (some_append (above w) m (n ∷ [])) ∙ h))

    refreshed_old : (l m : List ChangedAttr) → Old l m → Old l (refreshed n m)
    unfolding refreshed
    refreshed_old l m f h = f (some_unchanged (over n) (above w) (with_identity n.identity) m not_above h)

    folded_old : (by : ChangedAttr) (l m : List ChangedAttr) → Old l m → Old l (folded by m)
    unfolding folded some
    folded_old by l m f h =
        let e = with_identity (newest (under by) m) by in
        ⊎_elim
        (λ t. f (was_there (under by) (above w) m t))
        (λ t. ⊎_elim (λ u. f (newest_had (under by) w m (ltb-true _ _ (sym (above_at w e) ∙ u)))) (λ u. absurd (clash u refl))
        (or_either (above w e) false t))
        (or_either (some (above w) (sweep (under by) m)) (some (above w) (e ∷ []))
        (sym (some_append (above w) (sweep (under by) m) (e ∷ [])) ∙ h))

    -- after a note an identity above its own is one that was there before
    pub entered_old : (l : List ChangedAttr) → some (above w) (entered n l) ≡ true → some (above w) l ≡ true
    unfolding some
    entered_old l =
        let rest = sweep (under n) l in
        let was : Old l rest = was_there (under n) (above w) l in
        entered_by (Old l) l (λ t. refreshed_old l l (λ e. e))
        (inserted_by (Old l) rest (λ t. ended_old l rest was)
        (crowded_by (Old l) rest
        (λ level t. let m = folded (largest level rest).by rest in
        let old : Old l m = folded_old (largest level rest).by l rest was in
        placed_by (Old l) m (λ u. refreshed_old l m old) (ended_old l m old))
        (λ e. ⊎_elim (λ t. absurd (clash t (not_above (all_wild n.identity)))) (λ t. absurd (clash t refl))
        (or_either (above w (all_wild n.identity)) false e))))

  -- ---- at most sixteen
  one_more : (l : List ChangedAttr) → length l < 16 → length (l ++ (n ∷ [])) ≤ 16
  one_more l h = omega (arith, length-append l (n ∷ []))

  refreshed_length : (l : List ChangedAttr) → length (refreshed n l) ≡ length l
  unfolding refreshed
  refreshed_length l = length_changed (over n) (with_identity n.identity) l

  pub entered_fits : (l : List ChangedAttr) → length l ≤ 16 → length (entered n l) ≤ 16
  entered_fits l h =
      let P : List ChangedAttr → Type 0 = λ m. length m ≤ 16 in
      let rest = sweep (under n) l in
      let fits : length rest ≤ 16 = omega (arith, length_swept (under n) l) in
      entered_by P l (λ t. omega (arith, refreshed_length l))
      (inserted_by P rest (one_more rest)
      (crowded_by P rest
      (λ level t. let m = folded (largest level rest).by rest in
      let room : length m < 16 = folded_room rest (largest level rest).by fits (largest_covers rest level refl t) in
      placed_by P m (λ u. omega (arith, refreshed_length m)) (one_more m room))
      (omega arith)))
