-- The step of the office: what becomes of one request, what it is answered, and the history that it leaves.
use Rattle.std.specs.Prelude.{ℕ, ℤ, Bool, ◌&&◌, bytes_eq, if◌then◌else◌, List, ◌∷◌, Option, Some, None, Result, Ok, Err}
use Rattle.act_bodies.specs.declared.key.Key.{Key}
use Rattle.identify_core.specs.Acts.{principal}
use Rattle.act_model.specs.declared.deed.Deed.{Deed}
use Rattle.act_model.specs.declared.entry.Entry.{Entry}
use Rattle.act_model.specs.declared.heard.Asked.{Asked}
use Rattle.act_model.specs.declared.heard.Asked.TheVariants as asked
use Rattle.act_model.specs.declared.heard.Heard.{Heard}
use Rattle.act_model.specs.declared.query.Query.{Query}
use Rattle.act_model.specs.declared.query.Query.TheVariants as query
use Rattle.act_model.specs.declared.reply.Part.TheVariants as part
use Rattle.act_model.specs.declared.reply.Refusal.{Refusal}
use Rattle.act_model.specs.declared.reply.Refusal.TheVariants.{Unread, OtherRequest, UnknownThing}
use Rattle.act_model.specs.declared.reply.Reply.{Reply}
use Rattle.act_model.specs.declared.reply.Reply.TheVariants.{Done, Refused}
use Rattle.act_model.specs.declared.reply.Thing.{Thing}
use Rattle.act_model.specs.declared.reply.Thing.TheVariants as thing
use Rattle.act_model.specs.declared.request.Request.{Request}
use Rattle.act_model.specs.declared.request.Verb.{Verb}
use Rattle.act_model.specs.Rows.{◌>>=◌}
use Rattle.act_model.specs.Requests.{is_act, same_verb}
use Rattle.act_model.specs.Roster.{members}
use Rattle.act_model.specs.Deeds.{deeds}
use Rattle.act_model.specs.History.{Kept, next_moment, next_receipt, numbered_entry}
use Rattle.act_model.specs.Replies.{entry_answer}
use Rattle.act_model.specs.Hearing.{bytes_in, hear}
use Rattle.act_model.specs.Refusals.{work_within}
use Rattle.act_model.specs.Tallies.{tally, tally_text}
use Rattle.act_model.specs.Holdings.{holdings}
use Rattle.act_model.specs.Designations.{row_acts_of, links_of}
use Rattle.act_model.specs.Numbers.{numbers_of}
use Rattle.act_model.specs.Shelves.{track_head}
use Rattle.act_model.specs.Catalogue.{catalogue}
use Rattle.act_model.specs.QueryTexts.{object_text, tracklet_text, isolated_text, half_month_line, name_text}

-- what becomes of a request: it is refused; its number was used, and this is the reply that is kept for it; it is a
-- query, and this text tells what it asks; or it becomes an entry
pub data Outcome : Type 0 where
  Refuses : Refusal → Outcome
  Keeps : Reply → Outcome
  Tells : List ℕ → Outcome
  Adds : Entry → Outcome

-- ---- an act whose number was used

-- the request of this verb and these bytes is the one that became the entry
abbrev pub is_resend : Verb → List ℕ → Entry → Bool
is_resend verb bytes entry = same_verb verb entry.verb && bytes_eq bytes entry.body

-- the reply that is kept for the entry's number: the answer of the entry's own time to the same request, and else a
-- refusal
abbrev pub kept_reply : Verb → List ℕ → Kept → Reply
kept_reply verb bytes k =
    if is_resend verb bytes k.entry then Done (entry_answer k.before k.entry)
    else Refused (OtherRequest (next_receipt k.before))

abbrev pub unless_kept : Option Kept → Heard → List ℕ → Outcome → Outcome
unless_kept (Some k) heard bytes goes_on = Keeps (kept_reply heard.verb bytes k)
unless_kept None heard bytes goes_on = goes_on

-- ---- an act whose number was not used

-- the entry that an act becomes at this moment
abbrev pub new_entry : Heard → List ℕ → ℤ → Entry
new_entry heard bytes moment =
    record { caller = heard.caller.number; number = heard.number; moment = moment; verb = heard.verb; body = bytes }

-- an act becomes its entry, unless what it would do is refused
abbrev pub unless_refused : Result Deed Refusal → Entry → Outcome
unless_refused (Ok deed) entry = Adds entry
unless_refused (Err refusal) entry = Refuses refusal

-- ---- a query

-- the text that tells what is asked, or the refusal where the thing isn't there
abbrev pub answer_of_receipt : ℕ → Option Kept → Result (List ℕ) Refusal
answer_of_receipt number (Some k) = Ok (entry_answer k.before k.entry)
answer_of_receipt number None = Err (UnknownThing (thing.Receipt number))

-- the text of a thing that is there, or the refusal of one that isn't
abbrev pub answer_of_thing : {A : Type 0} → Thing → (A → List ℕ) → Option A → Result (List ℕ) Refusal
answer_of_thing what text (Some found) = Ok (text found)
answer_of_thing what text None = Err (UnknownThing what)

-- what a caller's query is told at this history
unfoldable pub answer_of_query : List Entry → ℕ → Query → Result (List ℕ) Refusal
answer_of_query past caller (query.Receipt number) = answer_of_receipt number (numbered_entry past caller number)
answer_of_query past caller query.Tally = Ok (tally_text (tally past))
answer_of_query past caller (query.Object d) =
    answer_of_thing (thing.Designation d) (object_text (holdings (deeds past)) (links_of (deeds past))
    (numbers_of (deeds past)))
    (principal (links_of (deeds past)) d)
answer_of_query past caller (query.Tracklet t) =
    answer_of_thing (thing.Tracklet t) (tracklet_text (holdings (deeds past)) (links_of (deeds past)) t)
    (track_head (holdings (deeds past)).tracklets t)
answer_of_query past caller query.Isolated = Ok (isolated_text (holdings (deeds past)))
answer_of_query past caller (query.HalfMonth half) = Ok (half_month_line (row_acts_of (deeds past)) half)
answer_of_query past caller (query.Name name) = Ok (name_text (links_of (deeds past)) (numbers_of (deeds past)) name)
answer_of_query past caller query.Catalogue = Ok (catalogue past)

-- the query that is asked; an act is none
abbrev pub query_in : Asked → Result Query Refusal
query_in (asked.Query query) = Ok query
query_in (asked.Act act) = Err (Unread part.Verb)
query_in (asked.Header what line) = Err (Unread part.Verb)

abbrev pub tells : Result (List ℕ) Refusal → Outcome
tells (Ok text) = Tells text
tells (Err refusal) = Refuses refusal

-- ---- the step

-- an act: the reply that is kept for its number; else the later refusals; else it becomes an entry
abbrev pub act_step : Option ℕ → List Entry → Heard → List ℕ → ℤ → Outcome
act_step limit past heard bytes moment =
    unless_kept (numbered_entry past heard.caller.number heard.number) heard bytes
    (unless_refused (work_within limit past bytes moment heard) (new_entry heard bytes moment))

-- a query reads the office and leaves it
abbrev pub query_step : List Entry → Heard → Outcome
query_step past heard = tells do
  query ← query_in heard.asked
  answer_of_query past heard.caller.number query

-- a request that was heard, which comes at this moment
abbrev pub heard_step : Option ℕ → List Entry → Heard → List ℕ → ℤ → Outcome
heard_step limit past heard bytes moment =
    if is_act heard.verb then act_step limit past heard bytes moment else query_step past heard

abbrev pub unless_unheard : Result Outcome Refusal → Outcome
unless_unheard (Ok outcome) = outcome
unless_unheard (Err refusal) = Refuses refusal

-- what becomes of a request at a history, with this reading of the clock, where the journal may have this many bytes:
-- its bytes are taken, it is heard, and it makes its step
unfoldable pub outcome : Key → Option ℕ → List Entry → Request → ℤ → Outcome
outcome founder limit past request reading = unless_unheard do
  bytes ← bytes_in request.body
  heard ← hear founder (members (deeds past)) request bytes
  Ok (heard_step limit past heard bytes (next_moment past reading))

-- the reply to a request of which this becomes, and the history that it leaves
abbrev pub reply_and_history : List Entry → Outcome → Reply × List Entry
reply_and_history past (Refuses refusal) = (Refused refusal, past)
reply_and_history past (Keeps reply) = (reply, past)
reply_and_history past (Tells text) = (Done text, past)
reply_and_history past (Adds entry) = (Done (entry_answer past entry), entry ∷ past)

unfoldable pub step : Key → Option ℕ → List Entry → Request → ℤ → Reply × List Entry
step founder limit past request reading = reply_and_history past (outcome founder limit past request reading)
