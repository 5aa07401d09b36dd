-- One step of serving: the next frame of the source is read and answered, or it is told why there is none.
use Rattle.std.specs.Prelude.{◌≡◌, ℕ, ◌-◌, ◌≤◌, ◌<◌, List, [], ◌++◌, length, Option, Result, Ok, Err}
use Rattle.std.specs.Io.KnownBytes.{Appends, Keeps}
use Rattle.call_log.specs.Counts.{Rises}
use Rattle.desk_io.specs.Outside.{AppendsPart}
use Rattle.desk_io.specs.Reads.{Passes, Comes}
use Rattle.desk_io.specs.declared.outside.Failed.{Failed}
use Rattle.frame_grammar.specs.Frames.{Frame, IsFrame, frame_bytes, NoFrame}
use Rattle.read_ahead.specs.declared.halt.Halt.TheVariants.{End}
use Rattle.read_ahead.specs.Reading.{Halts}
use Rattle.frame_reader.specs.Reading.{AwaitsFrame}
use Rattle.frame_reader.specs.Frames.{NoFrameComes}
use Rattle.frame_service.specs.declared.serving.Stop.{Stop}
use Rattle.frame_service.specs.declared.serving.Stop.TheVariants.{Over, NoFrameAt, ReadFailed, WriteFailed}
use Rattle.frame_service.specs.Exchanges.{Exchange, replies_of, Attending, Attends}
use Rattle.frame_service.specs.Runs.{AwaitsNext, AreServed, offset_at}

-- where serving stands between two frames: the attendant with its clock, what the sink took, the source, and the bytes
-- that were read ahead of it
pub record Standing (S A : Type 0) : Type 0 where
  pub at : Attending A
  pub taken : Option (List ℕ)
  pub source : S
  pub ahead : List ℕ

-- where answering a frame begins and ends: the attendant with its clock, and what the sink took
pub record Answering (A : Type 0) : Type 0 where
  pub at : Attending A
  pub taken : Option (List ℕ)

-- serving as it stands, without the source
abbrev pub answering_of : {S A : Type 0} → Standing S A → Answering A
answering_of standing = record { at = standing.at; taken = standing.taken }

-- a reply was written whole, or a front of it and not all
abbrev pub Writes : Option (List ℕ) → Option (List ℕ) → List ℕ → Result ℕ Failed → Type 0
Writes old new reply (Ok size) = Appends old new reply
Writes old new reply (Err failed) = AppendsPart old new reply

-- a frame was answered, and of its reply this was written
pub record AnswersFrame {A : Type 0} (answers : Attending A → Exchange → Attending A → Type 0) (old new : Answering A)
    (frame : Frame) (result : Result ℕ Failed) : Type 0 where
  pub reply : List ℕ
  pub answered : answers old.at (record { frame = frame; reply = reply }) new.at
  pub writes : Writes old.taken new.taken reply result

-- the frame at the front was read, and answered so
pub record TurnsFrame {S A : Type 0} (answers : Attending A → Exchange → Attending A → Type 0) (old new : Standing S A)
    (front : List ℕ) (size : ℕ) (result : Result ℕ Failed) : Type 0 where
  pub frame : Frame
  pub good : IsFrame frame
  pub stands : front ≡ frame_bytes frame new.ahead
  pub size_is : size ≡ length (frame_bytes frame [])
  pub answers_it : AnswersFrame answers (answering_of old) (answering_of new) frame result

-- the attendant, its clock and the sink are as they were
pub record IsUntouched {S A : Type 0} (old new : Standing S A) : Type 0 where
  pub at : new.at ≡ old.at
  pub sink : Keeps old.taken new.taken

-- What became of the bytes at the front, those that were read ahead and those that came, where the source has `left`: a
-- frame of this many bytes was answered, or serving stops, at the offset at which the front begins.
abbrev pub Turns : {S A : Type 0} → (Attending A → Exchange → Attending A → Type 0) → Standing S A → Standing S A
    → List ℕ → Option (List ℕ) → (offset : ℕ) → Result ℕ Stop → Type 0
Turns answers old new front left offset (Ok size) = TurnsFrame answers old new front size (Ok size)
Turns answers old new front left offset (Err WriteFailed) =
    (size : ℕ) × (failed : Failed) × TurnsFrame answers old new front size (Err failed)
Turns answers old new front left offset (Err Over) = Halts NoFrame front new.ahead left End × IsUntouched old new
Turns answers old new front left offset (Err (NoFrameAt place)) =
    NoFrameComes front left × (0 < length front) × (place ≡ offset) × IsUntouched old new
Turns answers old new front left offset (Err ReadFailed) = NoFrame front × IsUntouched old new

-- the source's count of faults rose where the source failed, and stayed in any other step
abbrev pub SourceFaults : Result ℕ Stop → ℕ → ℕ → Type 0
SourceFaults (Err ReadFailed) before now = Rises before now
SourceFaults (Ok size) before now = now ≡ before
SourceFaults (Err Over) before now = now ≡ before
SourceFaults (Err (NoFrameAt place)) before now = now ≡ before
SourceFaults (Err WriteFailed) before now = now ≡ before

-- the sink's count of faults rose where the sink failed, and stayed in any other step
abbrev pub SinkFaults : Result ℕ Stop → ℕ → ℕ → Type 0
SinkFaults (Err WriteFailed) before now = Rises before now
SinkFaults (Ok size) before now = now ≡ before
SinkFaults (Err Over) before now = now ≡ before
SinkFaults (Err (NoFrameAt place)) before now = now ≡ before
SinkFaults (Err ReadFailed) before now = now ≡ before

-- a piece of the source's bytes came after those that were read ahead, while a frame was awaited, and this became of
-- them
pub record TakesStep {S : Type 0} (left : S → Option (List ℕ)) (gives : Passes S) {A : Type 0}
    (answers : Attending A → Exchange → Attending A → Type 0) (old new : Standing S A) (offset : ℕ)
    (result : Result ℕ Stop) : Type 0 where
  pub piece : List ℕ
  pub came : Comes left gives (AwaitsFrame old.ahead) old.source new.source piece
  pub turns : Turns answers old new (old.ahead ++ piece) (left new.source) offset result

-- How far serving has come: over the bytes that came so far, of which those at the end are still read ahead, and with
-- an offset up to which they are answered.
pub record Progress {S : Type 0} (left : S → Option (List ℕ)) (gives : Passes S) {A : Type 0}
    (answers : Attending A → Exchange → Attending A → Type 0) (start now : Standing S A) (offset : ℕ) : Type 0 where
  pub came : List ℕ
  pub served : List Exchange
  pub appended : Appends start.taken now.taken (replies_of served)
  pub frames : AreServed came now.ahead served
  pub attends : Attends answers start.at served now.at
  pub comes : Comes left gives (AwaitsNext (length served)) start.source now.source came
  pub place : offset ≡ offset_at (length came - length now.ahead)
  pub within : length now.ahead ≤ length came
