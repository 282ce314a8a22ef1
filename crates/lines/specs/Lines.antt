-- A whole line without its CRLF, as document 01 has it, "Trace lines": a word, a comma, and the fields of that word.
-- Where a line begins and ends is not said here. Assumes nothing.
use Rattle.std.specs.Prelude.{Option, Some, None, find, Bool, true, false, ◌&&◌, List, [], ◌∷◌, ℕ, eqb, length, drop, get_or}
use Rattle.fields.specs.Bytes.{comma}
use Rattle.fields.specs.Rows.{flag, bits8, bits16, bits32, bits64, numbers_of}
use Rattle.lines.specs.Letters.{a, d, e, k, n, o, p, r, t, w}
use Rattle.lines.specs.declared.Kind.{Kind}
use Rattle.lines.specs.declared.Line.{Line}
use Rattle.lines.specs.declared.Line.TheVariants.{New, Add, Note, Report, Done, Attr, Wake, Bad}
use Rattle.lines.specs.declared.Kind.TheVariants as kind

-- the word of a kind, with its comma
abbrev pub word_of : Kind → List ℕ
word_of kind.New = n ∷ e ∷ w ∷ comma ∷ []
word_of kind.Add = a ∷ d ∷ d ∷ comma ∷ []
word_of kind.Note = n ∷ o ∷ t ∷ e ∷ comma ∷ []
word_of kind.Report = r ∷ e ∷ p ∷ o ∷ r ∷ t ∷ comma ∷ []
word_of kind.Done = d ∷ o ∷ n ∷ e ∷ comma ∷ []
word_of kind.Attr = a ∷ t ∷ t ∷ r ∷ comma ∷ []
word_of kind.Wake = w ∷ a ∷ k ∷ e ∷ comma ∷ []

-- a word stands at the front of a line
unfoldable pub begins : List ℕ → List ℕ → Bool
begins [] s = true
begins (x ∷ xs) [] = false
begins (x ∷ xs) (b ∷ s) = eqb b x && begins xs s

abbrev pub seven : List Kind
seven = kind.New ∷ kind.Add ∷ kind.Note ∷ kind.Report ∷ kind.Done ∷ kind.Attr ∷ kind.Wake ∷ []

-- the kind of document 01's seven whose word the line begins with
abbrev pub kind_of : List ℕ → Option Kind
kind_of s = find (λ (k : Kind). begins (word_of k) s) seven

-- "new,capacity / add,now,fabric,peer,min,max,events,rx / note,endpoint,cluster,attribute / report,now,events,icd,all / done,id,outcome /
-- attr,id,endpoint,cluster,attribute / wake,events,icd", and "capacity, fabric and outcome 8 bits, min, max and rx 16, id 32, now, peer and
-- events 64", endpoint 16, cluster and attribute 32
abbrev pub widths_of : Kind → List ℕ
widths_of kind.New = bits8 ∷ []
widths_of kind.Add = bits64 ∷ bits8 ∷ bits64 ∷ bits16 ∷ bits16 ∷ bits64 ∷ bits16 ∷ []
widths_of kind.Note = bits16 ∷ bits32 ∷ bits32 ∷ []
widths_of kind.Report = bits64 ∷ bits64 ∷ flag ∷ flag ∷ []
widths_of kind.Done = bits32 ∷ bits8 ∷ []
widths_of kind.Attr = bits32 ∷ bits16 ∷ bits32 ∷ bits32 ∷ []
widths_of kind.Wake = bits64 ∷ flag ∷ []

-- a line of a kind, of its numbers in order
abbrev pub filled : Kind → List ℕ → Line
filled kind.New v = New (get_or v 0 0)
filled kind.Add v = Add (get_or v 0 0) (get_or v 1 0) (get_or v 2 0) (get_or v 3 0) (get_or v 4 0) (get_or v 5 0) (get_or v 6 0)
filled kind.Note v = Note (get_or v 0 0) (get_or v 1 0) (get_or v 2 0)
filled kind.Report v = Report (get_or v 0 0) (get_or v 1 0) (eqb (get_or v 2 0) 1) (eqb (get_or v 3 0) 1)
filled kind.Done v = Done (get_or v 0 0) (get_or v 1 0)
filled kind.Attr v = Attr (get_or v 0 0) (get_or v 1 0) (get_or v 2 0) (get_or v 3 0)
filled kind.Wake v = Wake (get_or v 0 0) (eqb (get_or v 1 0) 1)

-- the line of a kind, if its fields are all there
abbrev pub made : Kind → Option (List ℕ) → Line
made kind None = Bad
made kind (Some v) = filled kind v

-- a line by its kind and the fields behind the word; "A line of any other shape is bad"
abbrev pub line_by : Option Kind → List ℕ → Line
line_by None s = Bad
line_by (Some kind) s = made kind (numbers_of (widths_of kind) (drop (length (word_of kind)) s))

-- the line that all of a text is
unfoldable pub line_of : List ℕ → Line
line_of s = line_by (kind_of s) s
