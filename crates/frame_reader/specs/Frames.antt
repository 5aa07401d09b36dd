-- Frames that are read out of a source: what each answer says of the bytes that were read ahead and those that came
-- after them.
use Rattle.std.specs.Prelude.{◌≡◌, ◌<◌, ◌≤◌, ℕ, List, [], length, drop, Result, Ok, Err}
use Rattle.std.specs.declared.option.Option.{Option}
use Rattle.frame_grammar.specs.declared.TheConstants.{HEAD_BYTES}
use Rattle.frame_grammar.specs.Frames.{Frame, IsFrame, frame_bytes, NoFrame, NeverFrame, HeadParts, IsHead, head_bytes}
use Rattle.read_ahead.specs.declared.halt.Halt.{Halt}
use Rattle.read_ahead.specs.Reading.{IsBody, NoneComes, Halts}
use Rattle.frame_reader.specs.Reading.{IsAwaited}
use Rattle.frame_reader.specs.declared.frame.ReadFrame.{ReadFrame}
use Rattle.frame_reader.specs.declared.head.HeldHead.{HeldHead}
use Rattle.frame_reader.specs.declared.head.HeldFront.{HeldFront}
use Rattle.frame_reader.specs.declared.head.HeldFront.TheVariants as fronts

-- ---- frames

-- a frame stands at the front of the bytes, before this rest, and was read: each of its parts, what is said about its
-- body, and how many bytes it has
pub record IsFrameRead (front : List ℕ) (read : ReadFrame) (rest : List ℕ) : Type 0 where
  pub frame : Frame
  pub good : IsFrame frame
  pub stands : front ≡ frame_bytes frame rest
  pub key : read.key.items ≡ frame.key
  pub number : read.number ≡ frame.number
  pub verb : read.verb.items ≡ frame.verb
  pub body : IsBody read.body frame.body
  pub size : read.size ≡ length (frame_bytes frame [])

-- no frame comes: none can stand at the front any more, or the source is at its end inside one
abbrev pub NoFrameComes : List ℕ → Option (List ℕ) → Type 0
NoFrameComes = NoneComes NoFrame

-- What an answer says of the bytes at the front, of the rest that it leaves read ahead, and of what the source has
-- left: a frame was read, or it is said why none is.
abbrev pub ReadsFrame : List ℕ → List ℕ → Option (List ℕ) → Result ReadFrame Halt → Type 0
ReadsFrame front rest left (Ok read) = IsFrameRead front read rest
ReadsFrame front rest left (Err halt) = Halts NoFrame front rest left halt

-- ---- a frame's head

-- what a head says
abbrev pub parts_of : HeldHead → HeadParts
parts_of head = record { key = head.key.items; number = head.number; verb = head.verb.items; length = head.length }

-- a head stands at the front of the bytes, before this rest, and was read
pub record IsHeadRead (front : List ℕ) (head : HeldHead) (rest : List ℕ) : Type 0 where
  pub good : IsHead (parts_of head)
  pub stands : front ≡ head_bytes (parts_of head) rest
  pub size : head.size ≡ length (head_bytes (parts_of head) [])
  pub few : head.size ≤ HEAD_BYTES

-- what the front of the bytes that have come is
abbrev pub ReadsFront : List ℕ → HeldFront → Type 0
ReadsFront bytes (fronts.Whole head) = IsHeadRead bytes head (drop head.size bytes) × (head.size ≤ length bytes)
ReadsFront bytes fronts.Part = IsAwaited bytes × (length bytes < HEAD_BYTES)
ReadsFront bytes fronts.Bad = NeverFrame bytes

-- a head was read, or it is said why no frame is
abbrev pub ReadsHead : List ℕ → List ℕ → Option (List ℕ) → Result HeldHead Halt → Type 0
ReadsHead front rest left (Ok head) = IsHeadRead front head rest
ReadsHead front rest left (Err halt) = Halts NoFrame front rest left halt
