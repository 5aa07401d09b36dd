-- Request frames: what a frame is, its bytes, and the frames of a stream.
use Rattle.std.specs.Prelude.{◌≡◌, ℕ, ◌-◌, ◌^◌, ◌<◌, ◌≤◌, ◌⊎◌, List, [], ◌∷◌, ◌++◌, length, decimal}
use Rattle.std.specs.List.{AllByRecursion}
use Rattle.frame_grammar.specs.declared.TheConstants.{KEY_BYTES, NUMBER_DIGITS, VERB_BYTES, LENGTH_DIGITS}

-- ---- texts

-- a printable character of ASCII that is no blank
abbrev pub IsPrintable : ℕ → Type 0
IsPrintable byte = (33 ≤ byte) × (byte ≤ 126)

-- a decimal digit
abbrev pub IsDigit : ℕ → Type 0
IsDigit byte = (48 ≤ byte) × (byte ≤ 57)

-- a small letter or a digit
abbrev pub IsVerbByte : ℕ → Type 0
IsVerbByte byte = IsDigit byte ⊎ ((97 ≤ byte) × (byte ≤ 122))

-- a text of one to `most` bytes, each of them of a class
pub record IsToken (IsOfClass : ℕ → Type 0) (most : ℕ) (text : List ℕ) : Type 0 where
  pub some : 0 < length text
  pub few : length text ≤ most
  pub each : AllByRecursion IsOfClass text

-- the key by which the caller is known
abbrev pub IsKey : List ℕ → Type 0
IsKey text = IsToken IsPrintable KEY_BYTES text

-- the word that says what is asked
abbrev pub IsVerb : List ℕ → Type 0
IsVerb text = IsToken IsVerbByte VERB_BYTES text

-- ---- frames

-- a request frame: who asks, the request's number, what is asked, and the text that belongs to it
pub record Frame : Type 0 where
  pub key : List ℕ
  pub number : ℕ
  pub verb : List ℕ
  pub body : List ℕ

-- a frame that can be written: each part keeps to its bytes and its length
pub record IsFrame (f : Frame) : Type 0 where
  pub key : IsKey f.key
  pub number : f.number < 10 ^ NUMBER_DIGITS
  pub verb : IsVerb f.verb
  pub body : length f.body < 10 ^ LENGTH_DIGITS

-- the bytes of a frame before what follows it: key, blank, number, blank, verb, blank, length of the body, line feed,
-- body
abbrev pub frame_bytes : Frame → List ℕ → List ℕ
frame_bytes f rest =
    f.key ++ 32 ∷ (decimal f.number ++ 32 ∷ (f.verb ++ 32 ∷ (decimal (length f.body) ++ 10 ∷ (f.body ++ rest))))

-- the bytes of frames, one at once after the other, before what follows them
abbrev pub stream_bytes : List Frame → List ℕ → List ℕ
stream_bytes [] rest = rest
stream_bytes (f ∷ frames) rest = frame_bytes f (stream_bytes frames rest)

-- no frame stands at the front
abbrev pub NoFrame : List ℕ → Type 0
NoFrame bytes = (f : Frame) (rest : List ℕ) → IsFrame f → bytes ≡ frame_bytes f rest → ⊥

-- no frame stands at the front, whatever bytes may follow
abbrev pub NeverFrame : List ℕ → Type 0
NeverFrame bytes = (more : List ℕ) → NoFrame (bytes ++ more)

-- the session of a text: the frames from its front on, up to a rest that begins with no frame
pub record IsSession (bytes : List ℕ) (frames : List Frame) (rest : List ℕ) : Type 0 where
  pub whole : bytes ≡ stream_bytes frames rest
  pub each : AllByRecursion IsFrame frames
  pub ended : NoFrame rest

-- the offset that a session reaches: where its rest begins
abbrev pub reached : List ℕ → List ℕ → ℕ
reached bytes rest = length bytes - length rest

-- ---- heads

-- what the head of a frame says: a frame with the length of its body in the body's place
pub record HeadParts : Type 0 where
  pub key : List ℕ
  pub number : ℕ
  pub verb : List ℕ
  pub length : ℕ

-- a head that can be written
pub record IsHead (h : HeadParts) : Type 0 where
  pub key : IsKey h.key
  pub number : h.number < 10 ^ NUMBER_DIGITS
  pub verb : IsVerb h.verb
  pub length : h.length < 10 ^ LENGTH_DIGITS

-- the bytes of a head, its line feed among them, before what follows it
abbrev pub head_bytes : HeadParts → List ℕ → List ℕ
head_bytes h rest = h.key ++ 32 ∷ (decimal h.number ++ 32 ∷ (h.verb ++ 32 ∷ (decimal h.length ++ 10 ∷ rest)))

-- the head of a frame: framed f rest is headed (head_of f) (f.body ++ rest)
abbrev pub head_of : Frame → HeadParts
head_of f = record { key = f.key; number = f.number; verb = f.verb; length = length f.body }

-- the frame that a head and a body make
abbrev pub frame_of : HeadParts → List ℕ → Frame
frame_of h body = record { key = h.key; number = h.number; verb = h.verb; body = body }

-- no head stands at the front
abbrev pub NoHead : List ℕ → Type 0
NoHead bytes = (h : HeadParts) (rest : List ℕ) → IsHead h → bytes ≡ head_bytes h rest → ⊥

-- these bytes are the front of a head: some bytes that may follow complete it
abbrev pub BeginsHead : List ℕ → Type 0
BeginsHead bytes = (more : List ℕ) × (h : HeadParts) × IsHead h × (bytes ++ more ≡ head_bytes h [])
