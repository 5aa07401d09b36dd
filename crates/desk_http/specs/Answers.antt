-- Requests that are read out of a source: what each answer says of the bytes that were read ahead and those that came
-- after them.
use Rattle.std.specs.Prelude.{◌≡◌, ℕ, Bool, ◌<◌, ◌≤◌, List, length, Result, Ok, Err}
use Rattle.std.specs.declared.option.Option.{Option}
use Rattle.call_log.specs.Counts.{Rises}
use Rattle.read_ahead.specs.declared.body.Body.{Body}
use Rattle.read_ahead.specs.declared.body.Body.TheVariants as bodies
use Rattle.act_model.specs.declared.request.Request.{Request}
use Rattle.act_model.specs.declared.request.TheConstants.{BODY_BYTES}
use Rattle.desk_http.specs.declared.heard.Heard.{Heard}
use Rattle.desk_http.specs.declared.heard.Heard.TheVariants as answers
use Rattle.desk_http.specs.declared.heard.Whole.{Whole}
use Rattle.desk_http.specs.declared.head.HeadParts.{HeadParts}
use Rattle.read_ahead.specs.declared.halt.Halt.{Halt}
use Rattle.read_ahead.specs.declared.halt.Halt.TheVariants as halts
use Rattle.read_ahead.specs.Reading.{NoneComes, Halts}
use Rattle.desk_http.specs.Heads.{IsHead, Message, IsMessage, NoMessage}

-- ---- requests

-- what is said of a body is true of its text: what was kept is all of it, what is too long to be kept has this length,
-- and memory was refused only for what isn't too long
abbrev pub IfKept : Body → List ℕ → Type 0
IfKept (bodies.Whole bytes) text = (bytes ≡ text) × (length text ≤ BODY_BYTES)
IfKept (bodies.TooLong size) text = (size ≡ length text) × (BODY_BYTES < size)
IfKept bodies.NoRoom text = length text ≤ BODY_BYTES

-- a message stands at the front of the bytes, before this rest, and was read: each of its parts, what is said of its
-- body, and whether the answer to it is the last one
pub record IsRequestRead (front : List ℕ) (request : Request) (last : Bool) (rest : List ℕ) : Type 0 where
  pub message : Message
  pub stands : IsMessage front message rest
  pub key : request.key ≡ message.parts.key
  pub number : request.number ≡ message.parts.asked.number
  pub verb : request.verb ≡ message.parts.asked.verb
  pub body : IfKept request.body message.body
  pub closes : last ≡ message.parts.closes

-- no message comes: none can stand at the front any more, or the source is at its end inside one
abbrev pub NoMessageComes : List ℕ → Option (List ℕ) → Type 0
NoMessageComes = NoneComes NoMessage

-- what an answer says of the bytes at the front, of the rest that it leaves read ahead, and of what the source has left
abbrev pub ReadsMessage : List ℕ → List ℕ → Option (List ℕ) → Heard → Type 0
ReadsMessage front rest left (answers.Request request last) = IsRequestRead front request last rest
ReadsMessage front rest left answers.End = Halts NoMessage front rest left halts.End
ReadsMessage front rest left answers.Unread = Halts NoMessage front rest left halts.Bad
ReadsMessage front rest left answers.ReadFault = Halts NoMessage front rest left halts.Failed

-- a fact where the answer is a request
abbrev pub OnRequest : Heard → Type 0 → Type 0
OnRequest (answers.Request request last) P = P
OnRequest answers.End P = Unit {0}
OnRequest answers.Unread P = Unit {0}
OnRequest answers.ReadFault P = Unit {0}

-- the source's count of faults rose in a call that answers ReadFault, and stayed in any other
abbrev pub Counts : Heard → ℕ → ℕ → Type 0
Counts answers.ReadFault before now = Rises before now
Counts (answers.Request request last) before now = now ≡ before
Counts answers.End before now = now ≡ before
Counts answers.Unread before now = now ≡ before

-- ---- a head and its body, one after the other

-- a head was read, or it is said why no message is
abbrev pub ReadsHead : List ℕ → List ℕ → Option (List ℕ) → Result HeadParts Halt → Type 0
ReadsHead front rest left (Ok parts) = IsHead front parts rest
ReadsHead front rest left (Err halt) = Halts NoMessage front rest left halt

-- a head and a body were read
pub record IsWholeRead (front : List ℕ) (whole : Whole) (rest : List ℕ) : Type 0 where
  pub text : List ℕ
  pub stands : IsMessage front (record { parts = whole.parts; body = text }) rest
  pub kept : IfKept whole.body text

-- head and body were read, or it is said why no message is
abbrev pub ReadsWhole : List ℕ → List ℕ → Option (List ℕ) → Result Whole Halt → Type 0
ReadsWhole front rest left (Ok whole) = IsWholeRead front whole rest
ReadsWhole front rest left (Err halt) = Halts NoMessage front rest left halt
