-- What a line does by document 01's rules: the line's call of the machine of crate rules, and its answer's code and value.
-- Assumes nothing.
use Rattle.std.specs.Prelude.{Option, Some, None, ℕ}
use Rattle.lists.specs.Search.{one}
use Rattle.refusal.specs.declared.Refusal.TheVariants.{BadLine}
use Rattle.instants.specs.Instants.{instant}
use Rattle.time.specs.Intervals.{keep_alive_of}
use Rattle.rules.specs.States.{State}
use Rattle.rules.specs.Calls.{Op, Answer}
use Rattle.rules.specs.Machine.{Outcome, outcome, step}
use Rattle.rules.specs.Calls as call
use Rattle.lines.specs.declared.Line.{Line}
use Rattle.lines.specs.declared.Line.TheVariants.{New, Add, Note, Report, Done, Attr, Wake, Bad}
use Rattle.places.specs.Views.{view}
use Rattle.places.specs.Calls.{Tabled}
use Rattle.answering.specs.Replies.{Reply, told, refused_with, coded}
use Rattle.answering.specs.Answers.{request_of, settings_of}

-- the call of a line: "new,capacity / add,now,fabric,peer,min,max,events,rx / note,endpoint,cluster,attribute / report,now,events,icd,all /
-- done,id,outcome / attr,id,endpoint,cluster,attribute / wake,events,icd"
unfoldable pub call_of : Line → Option Op
call_of (New capacity) = Some (call.new capacity)
call_of (Add now fabric peer min max events rx) = Some (call.add (request_of fabric peer min max rx) events (instant now))
call_of (Note endpoint cluster attribute) = Some (call.note endpoint cluster attribute)
call_of (Report now events icd all) = Some (call.report (settings_of now events icd all))
call_of (Done id outcome) = Some (call.complete id outcome)
call_of (Attr id endpoint cluster attribute) = Some (call.attribute id endpoint cluster attribute)
call_of (Wake events icd) = Some (call.next_instant events (keep_alive_of icd))
call_of Bad = None

-- "Values: capacity; id; identity; id or 0 for Nothing; 1 kept or 0; 1 or 0; instant."; no line asks for the last four
abbrev pub reply_of : Answer → Reply
reply_of (call.refused why) = refused_with why
reply_of (call.number n) = told n
reply_of (call.heard identity wakes) = told identity
reply_of call.nothing = told 0
reply_of (call.handed id rx) = told id
reply_of (call.completed stays failed) = told (one stays)
reply_of (call.yes_no b) = told (one b)
reply_of (call.instant at) = told at.ms
reply_of call.done = told 0
reply_of (call.keep_alive at) = told 0
reply_of (call.stats places of_fabric established) = told 0
reply_of (call.rounded hand_outs silent ids) = told 0

-- a line's reply and the state after it; a bad line alters nothing
pub record Said : Type 0 where
  pub reply : Reply
  pub state : State

-- as the machine answers
abbrev pub said_by : Outcome → Said
said_by o = record { reply = reply_of o.answer; state = o.state }

-- by the line's call
abbrev pub line_by : Option Op → State → Said
line_by None s = record { reply = refused_with BadLine; state = s }
line_by (Some op) s = said_by (step op s)

-- one line by the rules
unfoldable pub line_step : Line → State → Said
line_step l s = line_by (call_of l) s

-- what the code answers, as the rules say it
abbrev pub spoken : Tabled ℕ → Said
spoken r = record { reply = coded r.answer; state = view r.table }
