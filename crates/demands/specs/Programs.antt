-- Demand 3 of a program in place of the code, over whatever state it keeps: its answers are asked, on histories of which document 01's
-- machine says who is live, open and unheard. The programs are those of crate original, which asks demand 2 of them.
-- Assumes nothing.
use Rattle.std.specs.Prelude.{◌≡◌, true, false, ◌&&◌, List, map, ℕ, ◌+◌, ◌<◌, eqb, take, None}
use Rattle.subscription.specs.declared.Settings.{Settings}
use Rattle.lists.specs.Search.{some}
use Rattle.entries.specs.Paths.{entry, covers}
use Rattle.rules.specs.States.{fresh, capacity_fits, has_id, id_live}
use Rattle.rules.specs.Calls as call
use Rattle.rules.specs.Calls.{Op}
use Rattle.rules.specs.Machine.{refusal, run}
use Rattle.original.specs.Programs.{Program, reached}
use Rattle.heard.specs.Hearing.{notes_in, unheard}
use Rattle.heard.specs.Playing.{bare, odd, allowed_by}
use Rattle.heard.specs.Demand.{noted, RoundBegins}

module _ {S : Type 0} where
  -- the program's state after a history, a note, and a history
  abbrev pub reached_since : (ℕ → S) → Program S → ℕ → List Op → ℕ → ℕ → ℕ → List Op → S
  reached_since begin p capacity before endpoint cluster attr since =
      reached p since (p (call.note endpoint cluster attr) (reached p before (begin capacity))).1

  -- "every question to its open report about an attribute under that note is answered yes"
  abbrev pub TellsOfNotes : (ℕ → S) → Program S → Type 0
  TellsOfNotes begin p =
      (capacity : ℕ) (before since : List Op) (endpoint cluster attr i e c a : ℕ)
      → capacity_fits capacity ≡ true
      → notes_in before + 1 + notes_in since < 18446744073709551615
      → id_live i (run before (fresh capacity)) ≡ true
      → unheard i since (noted capacity before endpoint cluster attr) ≡ true
      → covers (entry endpoint cluster attr 0) (entry e c a 0) ≡ true
      → some (has_id i) (run since (noted capacity before endpoint cluster attr)).opens ≡ true
      → (p (call.attribute i e c a) (reached_since begin p capacity before endpoint cluster attr since)).0 ≡ call.yes_no true

  -- a round, "neither refused nor cut short", "has by then handed out everyone stored whom an earlier unheard note concerns and whose
  -- allowed instant had come": their ids are written
  abbrev pub RoundsReach : (ℕ → S) → Program S → Type 0
  RoundsReach begin p =
      (capacity : ℕ) (before since : List Op) (endpoint cluster attr i : ℕ) (at : Settings) (outcomes ids : List ℕ) (n : ℕ)
      (written : List ℕ)
      → capacity_fits capacity ≡ true
      → notes_in before + 1 + notes_in since < 18446744073709551615
      → id_live i (run before (fresh capacity)) ≡ true
      → unheard i since (noted capacity before endpoint cluster attr) ≡ true
      → RoundBegins at (run since (noted capacity before endpoint cluster attr))
      → some odd (map (bare at.events) outcomes) ≡ false
      → some (λ x. has_id i x && allowed_by at.now x) (run since (noted capacity before endpoint cluster attr)).stored ≡ true
      → refusal (call.round at outcomes ids) (run since (noted capacity before endpoint cluster attr)) ≡ None
      → (p (call.round at outcomes ids) (reached_since begin p capacity before endpoint cluster attr since)).0 ≡ call.rounded n true written
      → some (λ y. eqb y i) (take n written) ≡ true
