-- Turns of the register, one request each, and conducts: turns one after another. The register stands on a disk of its
-- own, so that an act may be left in doubt, and the next act mends it first. The office's deeds stay the same in a
-- conduct.
use Rattle.std.specs.Prelude.{◌≡◌, ◌⊎◌, Bool, true, false, ℕ, ◌<◌, ℤ, pos, List, [], ◌∷◌, map, filter_map}
use Rattle.std.specs.Prelude.{Option, Some, None, IsSome, sum_by}
use Rattle.frame_grammar.specs.Frames.{Frame}
use Rattle.frame_grammar.specs.Replies.{reply_frame}
use Rattle.obs_time.specs.Instants.{IsInstantNs}
use Rattle.act_bodies.specs.declared.key.Key.{Key}
use Rattle.act_bodies.specs.Keys.{key_of}
use Rattle.act_model.specs.declared.deed.Deed.{Deed}
use Rattle.act_model.specs.declared.entry.Entry.{Entry}
use Rattle.act_model.specs.declared.keeper.OfficeState.{OfficeState}
use Rattle.act_model.specs.Requests.{body_of}
use Rattle.act_model.specs.Turns.{unless_untouched, Mends}
use Rattle.comet_model.specs.declared.reply.CometRefusal.TheVariants.{DiskFault, NoMemory}
use Rattle.comet_model.specs.declared.reply.CometReply.{CometReply}
use Rattle.comet_model.specs.declared.reply.CometReply.TheVariants.{Refused}
use Rattle.comet_model.specs.declared.request.CometRequest.{CometRequest}
use Rattle.comet_model.specs.declared.request.CometVerb.{CometVerb}
use Rattle.comet_model.specs.Requests.{verb_of, is_act}
use Rattle.comet_model.specs.Replies.{status_of, text_of}
use Rattle.comet_model.specs.Step.{Adds, outcome, step}

-- the request of a frame
abbrev pub request_of : Frame → CometRequest
request_of frame =
    record { key = key_of frame.key; number = Some frame.number; verb = verb_of frame.verb; body = body_of frame.body }

-- A request, the clock's reading where it took one, the reply, and by how much the disk's count of faults rose. A count
-- rises where it stands at the end of its type, too.
pub record CometTurn : Type 0 where
  pub request : CometRequest
  pub reading : Option ℤ
  pub reply : CometReply
  pub rise : ℕ

-- a request whose verb is that of the act takes one reading of the clock, a moment of the years 1800 to 2199; any other
-- takes none
abbrev pub TakesReading : CometVerb → Option ℤ → Type 0
TakesReading verb (Some reading) = (is_act verb ≡ true) × IsInstantNs reading
TakesReading verb None = is_act verb ≡ false

-- the reply is that of the step; or it is that memory was refused, which changes nothing
abbrev pub Answers : Key → Option ℕ → List Deed → List Entry → CometRequest → ℤ → CometReply → List Entry → Type 0
Answers founder limit desk past request reading reply after =
    (step founder limit desk past request reading ≡ (reply, after)) ⊎ ((reply ≡ Refused NoMemory) × (after ≡ past))

-- ---- the turn of an act

-- where the disk failed in mending, nothing else was done, and the act stays in doubt
pub record FailsToMend (before : OfficeState) (turn : CometTurn) (after : OfficeState) : Type 0 where
  pub doubted : IsSome before.doubt
  pub reply : turn.reply ≡ Refused (DiskFault false)
  pub stays : after ≡ before
  pub rose : 0 < turn.rise

-- The act becomes an entry of this register, and the disk failed in keeping it: it isn't kept, or it is in doubt, as
-- the reply says.
pub record FailsToKeep (founder : Key) (limit : Option ℕ) (desk : List Deed) (past : List Entry) (turn : CometTurn)
    (reading : ℤ) (after : OfficeState) : Type 0 where
  pub entry : Entry
  pub doubt : Bool
  pub adds : outcome founder limit desk past turn.request reading ≡ Adds entry
  pub reply : turn.reply ≡ Refused (DiskFault doubt)
  pub leaves : after ≡ unless_untouched doubt past entry
  pub rose : 0 < turn.rise

-- the turn was taken at this register, and nothing is in doubt
pub record Settles (founder : Key) (limit : Option ℕ) (desk : List Deed) (past : List Entry) (turn : CometTurn)
    (reading : ℤ) (after : OfficeState) : Type 0 where
  pub answers : Answers founder limit desk past turn.request reading turn.reply after.settled
  pub settled : after.doubt ≡ None

-- an act after mending, at the register that mending left
pub record ActsMended (founder : Key) (limit : Option ℕ) (desk : List Deed) (before : OfficeState) (turn : CometTurn)
    (reading : ℤ) (after : OfficeState) : Type 0 where
  pub mended : List Entry
  pub mends : Mends before.settled before.doubt mended
  pub acts : Settles founder limit desk mended turn reading after
      ⊎ FailsToKeep founder limit desk mended turn reading after

-- ---- the turn of a query

-- a query is answered at the settled register, which stays
pub record Asks (founder : Key) (limit : Option ℕ) (desk : List Deed) (before : OfficeState) (turn : CometTurn)
    (after : OfficeState) : Type 0 where
  pub answers : Answers founder limit desk before.settled turn.request (pos 0) turn.reply before.settled
  pub stays : after ≡ before

-- ---- turns

-- a request that took a reading of the clock is an act, and any other a query
abbrev pub Takes : Key → Option ℕ → List Deed → OfficeState → CometTurn → Option ℤ → OfficeState → Type 0
Takes founder limit desk before turn (Some reading) after = FailsToMend before turn after
    ⊎ ActsMended founder limit desk before turn reading after
Takes founder limit desk before turn None after = Asks founder limit desk before turn after

pub record IsTurn (founder : Key) (limit : Option ℕ) (desk : List Deed) (before : OfficeState) (turn : CometTurn)
    (after : OfficeState) : Type 0 where
  pub reads : TakesReading turn.request.verb turn.reading
  pub takes : Takes founder limit desk before turn turn.reading after

-- turns one after another, each from the state that the last one left
abbrev pub Conduct : Key → Option ℕ → List Deed → OfficeState → List CometTurn → OfficeState → Type 0
Conduct founder limit desk before [] after = after ≡ before
Conduct founder limit desk before (turn ∷ turns) after =
    (between : OfficeState) × IsTurn founder limit desk before turn between
    × Conduct founder limit desk between turns after

-- by how much the disk's count of faults rose in the turns together
abbrev pub rises_of : List CometTurn → ℕ
rises_of turns = sum_by (λ turn. turn.rise) turns

abbrev pub requests_of : List CometTurn → List CometRequest
requests_of turns = map (λ turn. turn.request) turns

-- the readings of the clock that the turns took, in order
abbrev pub readings_of : List CometTurn → List ℤ
readings_of turns = filter_map (λ turn. turn.reading) turns

-- the reply as it is written to the sink
abbrev pub written_reply : CometReply → List ℕ
written_reply reply = reply_frame (status_of reply) (text_of reply)
