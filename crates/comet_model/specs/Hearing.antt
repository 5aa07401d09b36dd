-- What is heard of a request before the register is asked. Each question is answered by what it finds, or by the first
-- refusal that holds; the next one takes what was found.
use Rattle.std.specs.Prelude.{ℕ, ◌^◌, Bool, not, nat_lt, ◌==◌, ◌&&◌, if◌then◌else◌, List, [], ◌∷◌, length, Option, Some}
use Rattle.std.specs.Prelude.{None, Result, Ok, Err}
use Rattle.packed_names.specs.declared.name.Name.TheVariants as names
use Rattle.packed_names.specs.Ranges.{IsName}
use Rattle.read_ahead.specs.declared.body.Body.{Body}
use Rattle.read_ahead.specs.declared.body.Body.TheVariants.{Whole, TooLong, NoRoom}
use Rattle.act_bodies.specs.declared.key.Key.{Key}
use Rattle.act_bodies.specs.Keys.{same_key}
use Rattle.act_model.specs.declared.reply.Excess.TheVariants as excess
use Rattle.act_model.specs.declared.reply.Part.TheVariants as part
use Rattle.act_model.specs.declared.request.TheConstants.{BODY_BYTES, BODY_LINES}
use Rattle.act_model.specs.Requests.{line_feeds}
use Rattle.act_model.specs.Rows.{first_row}
use Rattle.comet_model.specs.declared.heard.CometAsked.{CometAsked}
use Rattle.comet_model.specs.declared.heard.CometAsked.TheVariants as asked
use Rattle.comet_model.specs.declared.heard.CometHeard.{CometHeard}
use Rattle.comet_model.specs.declared.naming.Naming.{Naming}
use Rattle.comet_model.specs.declared.reply.CometRefusal.{CometRefusal}
use Rattle.comet_model.specs.declared.reply.CometRefusal.TheVariants.{TooLarge, Unread, UnknownKey, NoMemory}
use Rattle.comet_model.specs.declared.request.CometRequest.{CometRequest}
use Rattle.comet_model.specs.declared.request.CometVerb.{CometVerb}
use Rattle.comet_model.specs.declared.request.CometVerb.TheVariants.{Comet, Register, Translate, Unknown}
use Rattle.comet_model.specs.Rows.{unless, ◌>>=◌}
use Rattle.comet_model.specs.Requests.{is_act, is_unknown}
use Rattle.comet_model.specs.Namings.{naming_of}

-- a body that is too large
abbrev pub size_rows : List ℕ → List (Bool × CometRefusal)
size_rows bytes =
    (nat_lt BODY_BYTES (length bytes), TooLarge (excess.Length (length bytes)))
    ∷ (nat_lt BODY_LINES (line_feeds bytes), TooLarge (excess.Lines (line_feeds bytes)))
    ∷ []

-- The bytes of a body that is small enough. One that was too long was thrown away, and one for which there was no
-- memory is answered so, whatever else the request says.
abbrev pub bytes_in : Body → Result (List ℕ) CometRefusal
bytes_in (Whole bytes) = unless (first_row (size_rows bytes)) (Ok bytes)
bytes_in (TooLong size) = Err (TooLarge (excess.Length size))
bytes_in NoRoom = Err NoMemory

-- a verb that names nothing
abbrev pub verb_rows : CometVerb → List (Bool × CometRefusal)
verb_rows verb = (is_unknown verb, Unread part.Verb) ∷ []

-- an act's number is 1 to 999,999,999,999,999,999, and a query's is 0
abbrev pub is_number_of : CometVerb → ℕ → Bool
is_number_of verb number = if is_act verb then nat_lt 0 number && nat_lt number (10 ^ 18) else number == 0

-- the number of a request of this verb
abbrev pub number_in : CometVerb → Option ℕ → Result ℕ CometRefusal
number_in verb None = Err (Unread part.Number)
number_in verb (Some number) = if is_number_of verb number then Ok number else Err (Unread part.Number)

-- what a request says of itself before its body is read: its number, where its verb names something
abbrev pub number_claimed : CometVerb → Option ℕ → Result ℕ CometRefusal
number_claimed verb number = unless (first_row (verb_rows verb)) (number_in verb number)

-- what the body of the act asks
abbrev pub naming_by : Option Naming → Result CometAsked CometRefusal
naming_by (Some naming) = Ok (asked.Names naming)
naming_by None = Err (Unread part.Body)

-- what is asked by a body that is empty
abbrev pub if_empty : CometAsked → List ℕ → Result CometAsked CometRefusal
if_empty asked [] = Ok asked
if_empty asked (byte ∷ rest) = Err (Unread part.Body)

-- what a verb and a body ask; each body is one of a batch to be translated
unfoldable pub asked_of : CometVerb → List ℕ → Result CometAsked CometRefusal
asked_of Comet bytes = naming_by (naming_of bytes)
asked_of Register bytes = if_empty asked.Register bytes
asked_of Translate bytes = Ok asked.Translate
asked_of Unknown bytes = Err (Unread part.Verb)

-- what reading a body makes sure of: the designation is one
abbrev pub IsAskedInRange : CometAsked → Type 0
IsAskedInRange (asked.Names naming) = IsName (names.Designation naming.object)
IsAskedInRange asked.Register = Unit {0}
IsAskedInRange asked.Translate = Unit {0}

-- the founding officer alone may ask
abbrev pub key_rows : Key → Key → List (Bool × CometRefusal)
key_rows founder key = (not (same_key key founder), UnknownKey) ∷ []

-- what is heard of a request with these bytes: its number, and what it asks
unfoldable pub hear : Key → CometRequest → List ℕ → Result CometHeard CometRefusal
hear founder request bytes = do
  number ← number_claimed request.verb request.number
  asked ← asked_of request.verb bytes
  unless (first_row (key_rows founder request.key)) (Ok (record { number = number; asked = asked }))
