-- What a line does to a table and answers: the table's call by the line's kind. That this is what document 01's rules do is said in Rules
-- and proved. Assumes nothing.
use Rattle.std.specs.Prelude.{Bool, ℕ, Result, Ok, Err, ⊤}
use Rattle.lists.specs.Search.{one}
use Rattle.refusal.specs.declared.Refusal.{Refusal}
use Rattle.refusal.specs.declared.Refusal.TheVariants.{BadLine}
use Rattle.instants.specs.Instants.{instant}
use Rattle.time.specs.Intervals.{keep_alive_of}
use Rattle.subscription.specs.declared.Request.{Request}
use Rattle.subscription.specs.declared.Settings.{Settings}
use Rattle.places.specs.declared.Table.{Table}
use Rattle.places.specs.Calls.{Tabled, tabled, refused_in, new_table, add_to, note_in, report_in, complete_in, attribute_at, next_at}
use Rattle.lines.specs.declared.Line.{Line}
use Rattle.lines.specs.declared.Line.TheVariants.{New, Add, Note, Report, Done, Attr, Wake, Bad}
use Rattle.answering.specs.Replies.{valued, valued_in, handed_value}

-- what a line asks to be admitted, and what it asks a report with
abbrev pub request_of : ℕ → ℕ → ℕ → ℕ → ℕ → Request
request_of fabric peer min max rx = record { peer = peer; shortest = min; longest = max; rx = rx; fabric = fabric }

abbrev pub settings_of : ℕ → ℕ → Bool → Bool → Settings
settings_of now events icd all = record { now = instant now; events = events; kind = keep_alive_of icd; all = all }

-- "Values: capacity; id; identity; id or 0 for Nothing; 1 kept or 0; 1 or 0; instant."

-- "a refused "new" makes none": the table that was there stays
abbrev pub renewed_by : Table → Result ⊤ Refusal → Table → Tabled ℕ
renewed_by t (Ok done) made = tabled (Ok made.capacity) made
renewed_by t (Err why) made = refused_in t why

-- new,capacity
unfoldable pub renewed_in : Table → ℕ → Tabled ℕ
renewed_in t capacity = renewed_by t (new_table capacity).answer (new_table capacity).table

-- add,now,fabric,peer,min,max,events,rx
unfoldable pub added_in : Table → Request → ℕ → ℕ → Tabled ℕ
added_in t request events now = valued_in (λ id. id) (add_to t request events (instant now))

-- note,endpoint,cluster,attribute
unfoldable pub noted_in : Table → ℕ → ℕ → ℕ → Tabled ℕ
noted_in t endpoint cluster attr = valued_in (λ x. x.identity) (note_in t endpoint cluster attr)

-- report,now,events,icd,all
unfoldable pub reported_in : Table → Settings → Tabled ℕ
reported_in t at = valued_in handed_value (report_in t at)

-- done,id,outcome
unfoldable pub done_in : Table → ℕ → ℕ → Tabled ℕ
done_in t id outcome = valued_in (λ x. one x.kept) (complete_in t id outcome)

-- attr,id,endpoint,cluster,attribute
abbrev pub asked_in : Table → ℕ → ℕ → ℕ → ℕ → Result ℕ Refusal
asked_in t id endpoint cluster attr = valued one (attribute_at t id endpoint cluster attr)

-- wake,events,icd
abbrev pub waking_in : Table → ℕ → Bool → Result ℕ Refusal
waking_in t events icd = valued (λ at. at.ms) (next_at t events (keep_alive_of icd))

-- the seven kinds; "A line of any other shape is bad."
unfoldable pub answer_in : Table → Line → Tabled ℕ
answer_in t (New capacity) = renewed_in t capacity
answer_in t (Add now fabric peer min max events rx) = added_in t (request_of fabric peer min max rx) events now
answer_in t (Note endpoint cluster attribute) = noted_in t endpoint cluster attribute
answer_in t (Report now events icd all) = reported_in t (settings_of now events icd all)
answer_in t (Done id outcome) = done_in t id outcome
answer_in t (Attr id endpoint cluster attribute) = tabled (asked_in t id endpoint cluster attribute) t
answer_in t (Wake events icd) = tabled (waking_in t events icd) t
answer_in t Bad = refused_in t BadLine
