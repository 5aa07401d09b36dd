-- What is heard of a request before the history is asked. Each question is answered by what it finds, or by the first
-- refusal that holds; the next one takes what was found.
use Rattle.std.specs.Prelude.{ℕ, ◌^◌, Bool, nat_lt, ◌==◌, ◌&&◌, if◌then◌else◌, List, [], ◌∷◌, length, Option, Some}
use Rattle.std.specs.Prelude.{None, Result, Ok, Err}
use Rattle.act_bodies.specs.declared.key.Key.{Key}
use Rattle.act_model.specs.declared.act.Act.{Act}
use Rattle.act_model.specs.declared.act.ActFault.{ActFault}
use Rattle.act_model.specs.declared.act.ActFault.TheVariants as fault
use Rattle.act_model.specs.declared.heard.Asked.{Asked}
use Rattle.act_model.specs.declared.heard.Asked.TheVariants as asked
use Rattle.act_model.specs.declared.heard.Heard.{Heard}
use Rattle.act_model.specs.declared.query.Query.{Query}
use Rattle.act_model.specs.declared.reply.Excess.TheVariants as excess
use Rattle.act_model.specs.declared.reply.Part.TheVariants as part
use Rattle.act_model.specs.declared.reply.Refusal.{Refusal}
use Rattle.act_model.specs.declared.reply.Refusal.TheVariants.{TooLarge, Unread, UnknownKey, NoMemory}
use Rattle.read_ahead.specs.declared.body.Body.{Body}
use Rattle.read_ahead.specs.declared.body.Body.TheVariants.{Whole, TooLong, NoRoom}
use Rattle.act_model.specs.declared.request.Request.{Request}
use Rattle.act_model.specs.declared.request.Verb.{Verb}
use Rattle.act_model.specs.declared.request.TheConstants.{BODY_BYTES, BODY_LINES}
use Rattle.act_model.specs.declared.roster.Caller.{Caller}
use Rattle.act_model.specs.declared.roster.Member.{Member}
use Rattle.act_model.specs.Rows.{first_row, unless, ◌>>=◌}
use Rattle.act_model.specs.Requests.{is_act, is_unknown, line_feeds}
use Rattle.act_model.specs.Acts.{act_of}
use Rattle.act_model.specs.Queries.{query_of}
use Rattle.act_model.specs.Roster.{caller_of}

-- a body that is too large
abbrev pub size_rows : List ℕ → List (Bool × Refusal)
size_rows bytes =
    (nat_lt BODY_BYTES (length bytes), TooLarge (excess.Length (length bytes)))
    ∷ (nat_lt BODY_LINES (line_feeds bytes), TooLarge (excess.Lines (line_feeds bytes)))
    ∷ []

-- The bytes of a body that is small enough. One that was too long was thrown away, and one for which there was no
-- memory is answered so, whatever else the request says.
abbrev pub bytes_in : Body → Result (List ℕ) Refusal
bytes_in (Whole bytes) = unless (first_row (size_rows bytes)) (Ok bytes)
bytes_in (TooLong size) = Err (TooLarge (excess.Length size))
bytes_in NoRoom = Err NoMemory

-- a verb that names nothing
abbrev pub verb_rows : Verb → List (Bool × Refusal)
verb_rows verb = (is_unknown verb, Unread part.Verb) ∷ []

-- an act's number is 1 to 999,999,999,999,999,999, and a query's is 0
abbrev pub is_number_of : Verb → ℕ → Bool
is_number_of verb number = if is_act verb then nat_lt 0 number && nat_lt number (10 ^ 18) else number == 0

-- the number of a request of this verb
abbrev pub number_in : Verb → Option ℕ → Result ℕ Refusal
number_in verb None = Err (Unread part.Number)
number_in verb (Some number) = if is_number_of verb number then Ok number else Err (Unread part.Number)

-- what the body of an act asks: an act, or a batch that has a fault of its headers, which is refused later
abbrev pub asked_in : Result Act ActFault → Result Asked Refusal
asked_in (Ok act) = Ok (asked.Act act)
asked_in (Err (fault.Header what line)) = Ok (asked.Header what line)
asked_in (Err fault.Unread) = Err (Unread part.Body)
asked_in (Err fault.NoMemory) = Err NoMemory

-- what the body of a query asks
abbrev pub queried_in : Option Query → Result Asked Refusal
queried_in (Some query) = Ok (asked.Query query)
queried_in None = Err (Unread part.Body)

-- what a verb and a body ask
abbrev pub asked_of : Verb → List ℕ → Result Asked Refusal
asked_of verb bytes = if is_act verb then asked_in (act_of verb bytes) else queried_in (query_of verb bytes)

-- whoever has the key
abbrev pub caller_in : Option Caller → Result Caller Refusal
caller_in (Some caller) = Ok caller
caller_in None = Err UnknownKey

-- what is heard of a request with these bytes, where these are enrolled: its verb, its number, what it asks, and who
-- asks
unfoldable pub hear : Key → List Member → Request → List ℕ → Result Heard Refusal
hear founder enrolled request bytes =
    unless (first_row (verb_rows request.verb)) do
      number ← number_in request.verb request.number
      asked ← asked_of request.verb bytes
      caller ← caller_in (caller_of founder enrolled request.key)
      Ok (record { verb = request.verb; number = number; asked = asked; caller = caller })
