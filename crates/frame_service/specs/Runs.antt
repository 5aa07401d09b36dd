-- Which frames of a source were answered, and what was written, by why serving stopped.
use Rattle.std.specs.Prelude.{◌≡◌, ℕ, ◌-◌, ◌^◌, ◌<◌, ◌≤◌, min, List, [], ◌∷◌, ◌++◌, length, take}
use Rattle.std.specs.List.{AllByRecursion}
use Rattle.frame_grammar.specs.Frames.{Frame, IsFrame, stream_bytes, NeverFrame, IsSession, reached}
use Rattle.frame_service.specs.declared.serving.Stop.{Stop}
use Rattle.frame_service.specs.declared.serving.Stop.TheVariants.{Over, NoFrameAt, ReadFailed, WriteFailed}
use Rattle.frame_service.specs.Exchanges.{Exchange, frames_of, replies_of}

-- The bytes that came from the source, and after them those that are left there, none where that isn't known; how many
-- frames were answered, each with its whole reply; and the bytes that were written.
pub record Run : Type 0 where
  pub came : List ℕ
  pub more : List ℕ
  pub answered : ℕ
  pub texts : List ℕ

-- after the frames that have come, which were all answered, a further frame may still come
abbrev pub AwaitsNext : ℕ → List ℕ → Type 0
AwaitsNext answered came =
    (frames : List Frame) × (rest : List ℕ) × IsSession came frames rest × (length frames ≤ answered)
    × ¬ NeverFrame rest

-- the bytes are the frames that were served, before a rest
pub record AreServed (bytes rest : List ℕ) (served : List Exchange) : Type 0 where
  pub stream : bytes ≡ stream_bytes (frames_of served) rest
  pub whole : AllByRecursion IsFrame (frames_of served)

-- the frames of the bytes' session were answered, up to a rest at which no frame stands, and their replies were written
pub record AnswersFrames (bytes rest : List ℕ) (run : Run) (served : List Exchange) : Type 0 where
  pub session : IsSession bytes (frames_of served) rest
  pub answered : run.answered ≡ length served
  pub texts : run.texts ≡ replies_of served

-- the bytes are frames and nothing else
abbrev pub IsWhole : List ℕ → Type 0
IsWhole bytes = (frames : List Frame) × IsSession bytes frames []

-- an offset is counted up to the greatest that its type has
abbrev pub offset_at : ℕ → ℕ
offset_at place = min place (2 ^ 64 - 1)

-- the source was read to its end, and its bytes are frames, which were answered
abbrev pub AnswersAll : Run → List Exchange → Type 0
AnswersAll run served = (run.more ≡ []) × AnswersFrames run.came [] run served

-- the frames before the bytes' first place at which no frame stands were answered, and that place is the offset
pub record StopsAt (run : Run) (offset : ℕ) (served : List Exchange) : Type 0 where
  pub rest : List ℕ
  pub over : AnswersFrames (run.came ++ run.more) rest run served
  pub some : 0 < length rest
  pub place : offset ≡ offset_at (reached (run.came ++ run.more) rest)

-- the source failed: the frames of the bytes that came were answered
abbrev pub StopsReading : Run → List Exchange → Type 0
StopsReading run served = (rest : List ℕ) × AnswersFrames run.came rest run served

-- The sink failed inside a reply: the frames before one frame were answered whole, and of the reply to that frame the
-- sink took a front and not all of it.
pub record StopsWriting (run : Run) (served : List Exchange) : Type 0 where
  pub whole : List Exchange
  pub last : Exchange
  pub rest : List ℕ
  pub taken : ℕ
  pub served_are : served ≡ whole ++ last ∷ []
  pub frames : AreServed run.came rest served
  pub answered : run.answered ≡ length whole
  pub part : taken < length last.reply
  pub texts : run.texts ≡ replies_of whole ++ take taken last.reply

-- which frames were answered where serving stopped so
abbrev pub Stops : Run → Stop → List Exchange → Type 0
Stops run Over served = AnswersAll run served
Stops run (NoFrameAt offset) served = StopsAt run offset served
Stops run ReadFailed served = StopsReading run served
Stops run WriteFailed served = StopsWriting run served
