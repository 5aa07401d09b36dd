-- HTTP requests to the office: what their heads say, what a message is, and the messages of a stream.
use Rattle.std.specs.Prelude.{◌≡◌, ℕ, ◌≤◌, Bool, true, false, ◌&&◌, ◌||◌, if◌then◌else◌, nat_lt, nat_le, bytes_eq}
use Rattle.std.specs.Prelude.{codes, List, [], ◌∷◌, ◌++◌, length, map, take, drop, ◌==◌}
use Rattle.std.specs.declared.option.Option.{Option}
use Rattle.std.specs.declared.option.Option.TheVariants.{Some, None}
use Rattle.httparse.specs.Grammar.{RequestHead, print_request, ReadsRequest}
use Rattle.httparse.specs.Spans.{name_and_value}
use Rattle.http1.specs.Fields.{Header, values_named, elements_named, has_option}
use Rattle.ascii_text.specs.declared.digits.Radix.TheVariants.{Ten}
use Rattle.ascii_text.specs.Reading.{◌>>=◌, digits_at, number_at}
use Rattle.act_bodies.specs.declared.key.Key.{Key}
use Rattle.act_bodies.specs.Keys.{key_of}
use Rattle.act_model.specs.declared.request.Verb.{Verb}
use Rattle.act_model.specs.declared.request.Verb.TheVariants.{Unknown}
use Rattle.act_model.specs.Requests.{verb_of, is_act}
use Rattle.desk_http.specs.declared.head.HeadParts.{HeadParts}
use Rattle.desk_http.specs.declared.route.Asked.{Asked}
use Rattle.desk_http.specs.declared.TheConstants.{HEAD_BYTES, HEAD_FIELDS, LENGTH_DIGITS, NUMBER_DIGITS}

-- ---- the fields that are read

-- the fields of a head: the name of each, and its value without the blanks and tabs round it
abbrev pub fields_of : RequestHead → List Header
fields_of head = map name_and_value head.fields

-- the value of a field that stands at most once; an empty text where it is missing
abbrev pub at_most_one : List (List ℕ) → Option (List ℕ)
at_most_one [] = Some []
at_most_one (value ∷ []) = Some value
at_most_one (value ∷ other ∷ more) = None

-- the caller's key, Desk-Key: a missing one is empty
abbrev pub key_in : List Header → Option Key
key_in fields = do
  text ← at_most_one (values_named (codes "desk-key") fields)
  Some (key_of text)

-- the number that digits write
abbrev pub digits_in : List ℕ → Option ℕ
digits_in text = do
  read ← digits_at Ten (length text) text
  Some read.0

-- 1 to 10 digits, of which the first may be zeros
unfoldable pub length_in : List ℕ → Option ℕ
length_in text = if nat_lt 0 (length text) && nat_le (length text) LENGTH_DIGITS then digits_in text else None

-- the length of the body, Content-Length: 0 where it is missing
abbrev pub body_length : List (List ℕ) → Option ℕ
body_length [] = Some 0
body_length (value ∷ []) = length_in value
body_length (value ∷ other ∷ more) = None

-- no Transfer-Encoding
abbrev pub uncoded : List (List ℕ) → Option (List ℕ)
uncoded [] = Some []
uncoded (value ∷ more) = None

-- a part of Connection, between commas and without the blanks and tabs round it, is `close` in letters of any case
abbrev pub names_close : List Header → Bool
names_close fields = has_option (codes "close") (elements_named (codes "connection") fields)

-- ---- routes

-- the text in front of a byte, and the text after it, where it stands
unfoldable pub cut_at : ℕ → List ℕ → Option (List ℕ × List ℕ)
cut_at byte [] = None
cut_at byte (first ∷ text) = if first == byte then Some ([], text) else do
  parts ← cut_at byte text
  Some (first ∷ parts.0, parts.1)

-- the text after this front
abbrev pub past : List ℕ → List ℕ → Option (List ℕ)
past front text = if bytes_eq (take (length front) text) front then Some (drop (length front) text) else None

-- what no route leads to
abbrev pub nothing_asked : Asked
nothing_asked = record { number = Some 0; verb = Unknown }

-- a whole text that is `0`, or 1 to 18 digits without a leading zero
abbrev pub whole_number : Option (ℕ × List ℕ) → Option ℕ
whole_number None = None
whole_number (Some (number, [])) = Some number
whole_number (Some (number, more ∷ rest)) = None

-- the number of an act
abbrev pub number_in : List ℕ → Option ℕ
number_in text = whole_number (number_at NUMBER_DIGITS text)

-- the verb of an act; any other names nothing here
abbrev pub act_verb : Verb → Verb
act_verb verb = if is_act verb then verb else Unknown

-- the verb of a query; any other names nothing here
abbrev pub query_verb : Verb → Verb
query_verb verb = if is_act verb then Unknown else verb

-- `{number}/{verb}`, where the number has a byte
abbrev pub act_parts : Option (List ℕ × List ℕ) → Asked
act_parts None = nothing_asked
act_parts (Some (number, word)) =
    if nat_lt 0 (length number) then record { number = number_in number; verb = act_verb (verb_of word) }
    else nothing_asked

-- an act: POST `/v1/act/{number}/{verb}`
unfoldable pub act_asked : List ℕ → List ℕ → Asked
act_asked method text = if bytes_eq method (codes "POST") then act_parts (cut_at 47 text) else nothing_asked

-- a query: GET or POST `/v1/ask/{verb}`, under the number 0
unfoldable pub query_asked : List ℕ → Option (List ℕ) → Asked
query_asked method None = nothing_asked
query_asked method (Some word) =
    if bytes_eq method (codes "GET") || bytes_eq method (codes "POST")
    then record { number = Some 0; verb = query_verb (verb_of word) }
    else nothing_asked

-- an act, where the text of one is given, or else a query
abbrev pub act_or_query : List ℕ → Option (List ℕ) → Option (List ℕ) → Asked
act_or_query method None query = query_asked method query
act_or_query method (Some act) query = act_asked method act

-- what a method asks of a target. Any other target, and any other method, names nothing.
unfoldable pub asked_of : List ℕ → List ℕ → Asked
asked_of method target = act_or_query method (past (codes "/v1/act/") target) (past (codes "/v1/ask/") target)

-- ---- heads

-- What a head says, by its method, its target, the version after `HTTP/1.` and its fields, where it keeps the rules:
-- neither Desk-Key nor Content-Length twice, a length of 1 to 10 digits, and no Transfer-Encoding. The answer to
-- HTTP/1.0 is the last one, and so is the answer to a request with `close` in its Connection.
unfoldable pub said_of : List ℕ → List ℕ → ℕ → List Header → Option HeadParts
said_of method target minor fields = do
  none ← uncoded (values_named (codes "transfer-encoding") fields)
  key ← key_in fields
  size ← body_length (values_named (codes "content-length") fields)
  Some (record {
    key = key;
    asked = asked_of method target;
    length = size;
    closes = (minor == 0) || names_close fields;
  })

-- what a head says
abbrev pub said_by : RequestHead → Option HeadParts
said_by head = said_of head.method head.target head.minor (fields_of head)

-- a head stands at the front of the bytes, before this rest: it has at most 8,192 bytes and 32 fields, keeps the rules,
-- and says this
pub record IsHead (bytes : List ℕ) (parts : HeadParts) (rest : List ℕ) : Type 0 where
  pub head : RequestHead
  pub reads : ReadsRequest bytes head rest
  pub short : length (print_request head) ≤ HEAD_BYTES
  pub few : length head.fields ≤ HEAD_FIELDS
  pub says : said_by head ≡ Some parts

-- ---- messages

-- a request as it came: what its head says, and its body
pub record Message : Type 0 where
  pub parts : HeadParts
  pub body : List ℕ

-- a message stands at the front of the bytes, before this rest: a head, and after it a body of the length that it says
pub record IsMessage (bytes : List ℕ) (message : Message) (rest : List ℕ) : Type 0 where
  pub head : IsHead bytes message.parts (message.body ++ rest)
  pub long : length message.body ≡ message.parts.length

-- no head stands at the front
abbrev pub NoHead : List ℕ → Type 0
NoHead bytes = (parts : HeadParts) (rest : List ℕ) → IsHead bytes parts rest → ⊥

-- a head stands at the front
abbrev pub HasHead : List ℕ → Type 0
HasHead bytes = (parts : HeadParts) × (rest : List ℕ) × IsHead bytes parts rest

-- no message stands at the front
abbrev pub NoMessage : List ℕ → Type 0
NoMessage bytes = (message : Message) (rest : List ℕ) → IsMessage bytes message rest → ⊥

-- no message stands at the front, whatever bytes may follow
abbrev pub NeverMessage : List ℕ → Type 0
NeverMessage bytes = (more : List ℕ) → NoMessage (bytes ++ more)

-- ---- streams

-- one fact after a message that closes, and another after one that doesn't
abbrev pub Behind : Bool → Type 0 → Type 0 → Type 0
Behind true closing others = closing
Behind false closing others = others

-- The messages of a stream, from its front on, up to a rest that begins with none. After a message that closes nothing
-- is read.
abbrev pub IsStream : List ℕ → List Message → List ℕ → Type 0
IsStream bytes [] rest = (bytes ≡ rest) × NoMessage rest
IsStream bytes (message ∷ messages) rest =
    (middle : List ℕ) × IsMessage bytes message middle
    × Behind message.parts.closes ((messages ≡ []) × (middle ≡ rest)) (IsStream middle messages rest)
