-- Turns of the office, one request each, and conducts: turns one after another. Where the office stands on a disk, an
-- act may be left in doubt, and the next act mends it first.
use Rattle.std.specs.Prelude.{◌≡◌, ◌⊎◌, Bool, true, false, if◌then◌else◌, ℕ, ◌+◌, ◌<◌, ℤ, pos, List, [], ◌∷◌, map}
use Rattle.std.specs.Prelude.{filter_map, Option, Some, None, IfSome, IsSome, sum_by}
use Rattle.frame_grammar.specs.Frames.{Frame}
use Rattle.frame_grammar.specs.Replies.{reply_frame}
use Rattle.obs_time.specs.Instants.{IsInstantNs}
use Rattle.act_bodies.specs.declared.key.Key.{Key}
use Rattle.act_model.specs.declared.request.Verb.{Verb}
use Rattle.act_model.specs.declared.request.Request.{Request}
use Rattle.act_model.specs.declared.entry.Entry.{Entry}
use Rattle.act_model.specs.declared.keeper.OfficeState.{OfficeState}
use Rattle.act_model.specs.declared.reply.Refusal.TheVariants.{DiskFault, NoMemory}
use Rattle.act_model.specs.declared.reply.Reply.{Reply}
use Rattle.act_model.specs.declared.reply.Reply.TheVariants.{Refused}
use Rattle.act_bodies.specs.Keys.{key_of}
use Rattle.act_model.specs.Requests.{verb_of, is_act, body_of}
use Rattle.act_model.specs.Replies.{status_of, text_of}
use Rattle.act_model.specs.Step.{Adds, outcome, step}

-- the request of a frame
abbrev pub request_of : Frame → Request
request_of frame =
    record { key = key_of frame.key; number = Some frame.number; verb = verb_of frame.verb; body = body_of frame.body }

-- A request, the clock's reading where it took one, the reply, and by how much the disk's count of faults rose. A count
-- rises where it stands at the end of its type, too.
pub record Turn : Type 0 where
  pub request : Request
  pub reading : Option ℤ
  pub reply : Reply
  pub rise : ℕ

-- a request whose verb is that of an act takes one reading of the clock, a moment of the years 1800 to 2199; any other
-- takes none
abbrev pub TakesReading : Verb → Option ℤ → Type 0
TakesReading verb (Some reading) = (is_act verb ≡ true) × IsInstantNs reading
TakesReading verb None = is_act verb ≡ false

-- the reply is that of the step; or it is that memory was refused, which changes nothing
abbrev pub Answers : Key → Option ℕ → List Entry → Request → ℤ → Reply → List Entry → Type 0
Answers founder limit past request reading reply after =
    (step founder limit past request reading ≡ (reply, after)) ⊎ ((reply ≡ Refused NoMemory) × (after ≡ past))

-- ---- the act in doubt

-- the office with this history, and no act in doubt
abbrev pub at_rest : List Entry → OfficeState
at_rest past = record { settled = past; doubt = None }

-- the office with this history, after an entry could not be kept: it may be in doubt
abbrev pub unless_untouched : Bool → List Entry → Entry → OfficeState
unless_untouched doubt past entry = record { settled = past; doubt = if doubt then Some entry else None }

-- mending settles the history so: the act in doubt was kept or it wasn't; where none is in doubt there is nothing to
-- mend
abbrev pub Mends : List Entry → Option Entry → List Entry → Type 0
Mends past None mended = mended ≡ past
Mends past (Some entry) mended = (mended ≡ entry ∷ past) ⊎ (mended ≡ past)

-- ---- the turn of an act

-- where the disk failed in mending, nothing else was done, and the act stays in doubt
pub record FailsToMend (before : OfficeState) (turn : Turn) (after : OfficeState) : Type 0 where
  pub doubted : IsSome before.doubt
  pub reply : turn.reply ≡ Refused (DiskFault false)
  pub stays : after ≡ before
  pub rose : 0 < turn.rise

-- The act becomes an entry at this history, and the disk failed in keeping it: it isn't kept, or it is in doubt, as the
-- reply says.
pub record FailsToKeep (founder : Key) (limit : Option ℕ) (past : List Entry) (turn : Turn) (reading : ℤ)
    (after : OfficeState) : Type 0 where
  pub entry : Entry
  pub doubt : Bool
  pub adds : outcome founder limit past turn.request reading ≡ Adds entry
  pub reply : turn.reply ≡ Refused (DiskFault doubt)
  pub leaves : after ≡ unless_untouched doubt past entry
  pub rose : 0 < turn.rise

-- the turn was taken at this history, and nothing is in doubt
pub record Settles (founder : Key) (limit : Option ℕ) (past : List Entry) (turn : Turn) (reading : ℤ)
    (after : OfficeState) : Type 0 where
  pub answers : Answers founder limit past turn.request reading turn.reply after.settled
  pub settled : after.doubt ≡ None

-- an act after mending, at the history that mending left
pub record ActsMended (founder : Key) (limit : Option ℕ) (before : OfficeState) (turn : Turn) (reading : ℤ)
    (after : OfficeState) : Type 0 where
  pub mended : List Entry
  pub mends : Mends before.settled before.doubt mended
  pub acts : Settles founder limit mended turn reading after ⊎ FailsToKeep founder limit mended turn reading after

-- ---- the turn of a query

-- a query is answered at the settled history, and the office stays
pub record Asks (founder : Key) (limit : Option ℕ) (before : OfficeState) (turn : Turn)
    (after : OfficeState) : Type 0 where
  pub answers : Answers founder limit before.settled turn.request (pos 0) turn.reply before.settled
  pub stays : after ≡ before

-- ---- turns

-- a request that took a reading of the clock is an act, and any other a query
abbrev pub Takes : Key → Option ℕ → OfficeState → Turn → Option ℤ → OfficeState → Type 0
Takes founder limit before turn (Some reading) after = FailsToMend before turn after
    ⊎ ActsMended founder limit before turn reading after
Takes founder limit before turn None after = Asks founder limit before turn after

pub record IsTurn (founder : Key) (limit : Option ℕ) (before : OfficeState) (turn : Turn)
    (after : OfficeState) : Type 0 where
  pub reads : TakesReading turn.request.verb turn.reading
  pub takes : Takes founder limit before turn turn.reading after

-- turns one after another, each from the state that the last one left
abbrev pub Conduct : Key → Option ℕ → OfficeState → List Turn → OfficeState → Type 0
Conduct founder limit before [] after = after ≡ before
Conduct founder limit before (turn ∷ turns) after =
    (between : OfficeState) × IsTurn founder limit before turn between × Conduct founder limit between turns after

-- by how much the disk's count of faults rose in the turns together
abbrev pub rises_of : List Turn → ℕ
rises_of turns = sum_by (λ turn. turn.rise) turns

abbrev pub requests_of : List Turn → List Request
requests_of turns = map (λ turn. turn.request) turns

-- the readings of the clock that the turns took, in order
abbrev pub readings_of : List Turn → List ℤ
readings_of turns = filter_map (λ turn. turn.reading) turns

-- these readings are the clock's next ones, as far as it tells them
abbrev pub AreReadings : (ℕ → Option ℤ) → ℕ → List ℤ → Type 0
AreReadings told from [] = Unit {0}
AreReadings told from (reading ∷ readings) =
    IfSome (told from) (λ t. reading ≡ t) × AreReadings told (from + 1) readings

-- the reply as it is written to the sink
abbrev pub written_reply : Reply → List ℕ
written_reply reply = reply_frame (status_of reply) (text_of reply)
