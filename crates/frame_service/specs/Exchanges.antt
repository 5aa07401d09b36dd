-- Frames that an attendant answers, one after another.
use Rattle.std.specs.Prelude.{◌≡◌, ℕ, ℤ, List, [], ◌∷◌, map, flat_map, Option}
use Rattle.frame_grammar.specs.Frames.{Frame}
use Rattle.frame_grammar.specs.Replies.{reply_frame}
use Rattle.read_ahead.specs.Reading.{IsBody}
use Rattle.frame_reader.specs.declared.frame.ReadFrame.{ReadFrame}
use Rattle.act_model.specs.Clocks.{ClockState, clock_of}
use Rattle.act_model.specs.Replies.{text_bytes}
use Rattle.frame_service.specs.declared.spoken.Spoken.{Spoken}

-- the parts of a frame were read so, and what is said about its body is true
pub record IsReadAs (frame : Frame) (read : ReadFrame) : Type 0 where
  pub key : read.key.items ≡ frame.key
  pub number : read.number ≡ frame.number
  pub verb : read.verb.items ≡ frame.verb
  pub body : IsBody read.body frame.body

-- the bytes of a reply as it is written
abbrev pub spoken_bytes : Spoken → List ℕ
spoken_bytes spoken = reply_frame spoken.status (text_bytes spoken.text)

-- a frame, and the bytes of its reply
pub record Exchange : Type 0 where
  pub frame : Frame
  pub reply : List ℕ

abbrev pub frames_of : List Exchange → List Frame
frames_of served = map (λ one. one.frame) served

abbrev pub replies_of : List Exchange → List ℕ
replies_of served = flat_map (λ one. one.reply) served

-- an attendant between two frames, and its clock
pub record Attending (A : Type 0) : Type 0 where
  pub attendant : A
  pub clock : ClockState

-- an attendant, and what a clock says about itself
abbrev pub attending_of : {A C : Type 0} → (C → ℕ → Option ℤ) → (C → ℤ) → A → C → Attending A
attending_of reading last attendant clock = record { attendant = attendant; clock = clock_of reading last clock }

-- these frames were answered, each from where the one before it left the attendant and its clock
abbrev pub Attends : {A : Type 0} → (Attending A → Exchange → Attending A → Type 0) → Attending A → List Exchange
    → Attending A → Type 0
Attends answers before [] after = after ≡ before
Attends {A = A} answers before (one ∷ served) after =
    (between : Attending A) × answers before one between × Attends answers between served after
