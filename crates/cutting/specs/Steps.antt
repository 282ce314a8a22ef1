-- The way through an input byte by byte. No reader has to believe it: `cut_found` of the proofs says that it finds the lines of Cuts.
-- Assumes nothing.
use Rattle.std.specs.Prelude.{Bool, true, false, cond, List, [], ◌∷◌, ◌++◌, ℕ, ◌+◌, eqb, leb, ltb, length, take, set}
use Rattle.fields.specs.Bytes.{CR, LF}
use Rattle.cutting.specs.Cuts.{Text, whole, bad}
use Rattle.cutting.specs.declared.Reading.{Reading}
use Rattle.cutting.specs.declared.Stepped.{Stepped}
use Rattle.cutting.specs.declared.Scanned.{Scanned}
use Rattle.cutting.specs.declared.Found.{Found}
use Rattle.cutting.specs.declared.Found.TheVariants.{Nothing, Bad, Whole}

-- at a line's begin, with so many lines before it
abbrev pub fresh_of : ℕ → ℕ → Reading
fresh_of most number = record { most = most; number = number; len = 0; bad = false; cr = false }

-- the line is bad, whatever follows
abbrev pub spoilt_of : Reading → Bool → Reading
spoilt_of r cr = record { most = r.most; number = r.number; len = r.len; bad = true; cr = cr }

-- a CR that may begin the line's end
abbrev pub waiting_of : Reading → Reading
waiting_of r = record { most = r.most; number = r.number; len = r.len; bad = r.bad; cr = true }

-- so many bytes of the line are held
abbrev pub holding_of : Reading → ℕ → Reading
holding_of r len = record { most = r.most; number = r.number; len = len; bad = r.bad; cr = r.cr }

-- no line ended, and a line ended
abbrev pub still_of : Reading → Stepped
still_of r = record { reading = r; found = Nothing }

abbrev pub ended_of : Reading → Found → Stepped
ended_of r f = record { reading = fresh_of r.most (r.number + 1); found = f }

-- the line that ends with what is held; an empty one is bad
abbrev pub ending_of : Reading → Found
ending_of r = cond r.bad Bad (cond (eqb r.len 0) Bad (Whole r.len))

-- one byte, and the held bytes after it
--
--          behind a CR          else
--   LF     the line ends        bad
--   CR     bad, waits again     waits
--   other  bad                  held, or bad where no place is free
unfoldable pub step_of : Reading → List ℕ → ℕ → Stepped × List ℕ
step_of r held b =
    cond (leb r.most r.number) (still_of r, held)
    (cond (eqb b LF) (cond r.cr (ended_of r (ending_of r)) (still_of (spoilt_of r false)), held)
    (cond (eqb b CR) (still_of (cond r.cr (spoilt_of r true) (waiting_of r)), held)
    (cond r.cr (still_of (spoilt_of r false), held)
    (cond (ltb r.len (length held)) (still_of (holding_of r (r.len + 1)), set held r.len b) (still_of (spoilt_of r false), held)))))

-- the input's end: a CR that waits is a lone one
unfoldable pub close_of : Reading → Stepped
close_of r =
    cond (leb r.most r.number) (still_of r)
    (cond r.cr (ended_of r Bad)
    (cond r.bad (ended_of r Bad)
    (cond (eqb r.len 0) (still_of r) (ended_of r (Whole r.len)))))

-- whether a line ended
abbrev pub ends_of : Found → Bool
ends_of Nothing = false
ends_of Bad = true
ends_of (Whole n) = true

-- the bytes of a chunk up to the end of a line, or all of them, where i have passed
unfoldable pub scan_from : ℕ → Reading → List ℕ → List ℕ → Scanned × List ℕ
scan_from i r held [] = (record { reading = r; found = Nothing; used = i }, held)
scan_from i r held (b ∷ s) =
    cond (ends_of (step_of r held b).0.found)
    (record { reading = (step_of r held b).0.reading; found = (step_of r held b).0.found; used = i + 1 }, (step_of r held b).1)
    (scan_from (i + 1) (step_of r held b).0.reading (step_of r held b).1 s)

abbrev pub scan_of : Reading → List ℕ → List ℕ → Scanned × List ℕ
scan_of r held s = scan_from 0 r held s

-- the line that was found, if one was
abbrev pub text_in : List ℕ → Found → List Text
text_in held Nothing = []
text_in held Bad = bad ∷ []
text_in held (Whole n) = whole (take n held) ∷ []

-- a chunk byte by byte: the reading and the held bytes behind it, and the lines that ended in it
unfoldable pub after : Reading → List ℕ → List ℕ → Reading × List ℕ
after r held [] = (r, held)
after r held (b ∷ s) = after (step_of r held b).0.reading (step_of r held b).1 s

unfoldable pub found : Reading → List ℕ → List ℕ → List Text
found r held [] = []
found r held (b ∷ s) =
    text_in (step_of r held b).1 (step_of r held b).0.found ++ found (step_of r held b).0.reading (step_of r held b).1 s

-- all the lines of an input, its end with it
unfoldable pub found_in : Reading → List ℕ → List ℕ → List Text
found_in r held s = found r held s ++ text_in (after r held s).1 (close_of (after r held s).0).found

-- the same, of an input that comes in chunks
unfoldable pub found_over : Reading → List ℕ → List (List ℕ) → List Text
found_over r held [] = text_in held (close_of r).found
found_over r held (s ∷ ss) = found r held s ++ found_over (after r held s).0 (after r held s).1 ss
