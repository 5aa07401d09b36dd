-- The messages of a connection, from its front on.
use Rattle.std.specs.Prelude.{◌≡◌, ◌⊎◌, ℕ, ◌<◌, ◌≤◌, true, false, List, [], ◌∷◌, ◌++◌, length}
use Rattle.desk_http.specs.Heads.{Message, IsMessage, IsStream}
use Rattle.desk_http.specs.Reading.{IsAwaited}
use Rattle.http_connection.specs.declared.TheConstants.{ANSWERS}

-- these messages stand at the front of the bytes, one after the other, before this rest, and none of them asks to
-- close
abbrev pub IsOpen : List ℕ → List Message → List ℕ → Type 0
IsOpen bytes [] rest = bytes ≡ rest
IsOpen bytes (message ∷ messages) rest =
    (middle : List ℕ) × IsMessage bytes message middle × (message.parts.closes ≡ false) × IsOpen middle messages rest

-- the last of the messages asks to close
pub record IsClosed (messages : List Message) : Type 0 where
  pub first : List Message
  pub last : Message
  pub are : messages ≡ first ++ last ∷ []
  pub closes : last.parts.closes ≡ true

-- the stream of the bytes ends with a message that asks to close, or nothing is left behind it
pub record HasNoHeadFault (bytes : List ℕ) : Type 0 where
  pub messages : List Message
  pub rest : List ℕ
  pub stream : IsStream bytes messages rest
  pub whole : IsClosed messages ⊎ (rest ≡ [])

-- after the messages that have come, of which all that were answered ask to go on and which are fewer than 1,000, a
-- further one may still come
pub record AwaitsNext (answered : ℕ) (came : List ℕ) : Type 0 where
  pub messages : List Message
  pub rest : List ℕ
  pub front : IsOpen came messages rest
  pub few : length messages ≤ answered
  pub under : length messages < ANSWERS
  pub awaited : IsAwaited rest
