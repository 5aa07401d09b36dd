-- How frames are answered by a register: the turns of the frames' requests.
use Rattle.std.specs.Prelude.{◌≡◌, List, map, Some}
use Rattle.frame_reader.specs.declared.frame.ReadFrame.{ReadFrame}
use Rattle.frame_service.specs.Exchanges.{Exchange, frames_of}
use Rattle.act_bodies.specs.Keys.{key_of}
use Rattle.act_model.specs.Clocks.{ClockState, Gives}
use Rattle.act_model.specs.Deeds.{deeds}
use Rattle.mpc_desk.specs.Pairs.{PairState}
use Rattle.command_ends.specs.Disks.{DiskWords}
use Rattle.comet_model.specs.declared.reply.CometReply.{CometReply}
use Rattle.comet_model.specs.declared.request.CometRequest.{CometRequest}
use Rattle.comet_model.specs.Requests.{verb_of}
use Rattle.comet_model.specs.Turns.{CometTurn, request_of, requests_of, readings_of, written_reply}
use Rattle.comet_desk.specs.Desks.{CometDeskState}
use Rattle.comets_command.specs.Conducted.{TurnBeside}

-- a register, and the office beside it, which is read
pub record FrontState (D : Type 0) : Type 0 where
  pub office : PairState D
  pub register : CometDeskState D

-- the request of a frame, as it was read
abbrev pub request_read : ReadFrame → CometRequest
request_read read =
    record {
      key = key_of read.key.items;
      number = Some read.number;
      verb = verb_of read.verb.items;
      body = read.body;
    }

-- A frame was answered by one turn of a register, that of its request, with the reply of the turn. The office beside it
-- stays.
pub record AnswersBeside {D : Type 0} (on : DiskWords D) (old : FrontState D) (before : ClockState) (one : Exchange)
    (new : FrontState D) (after : ClockState) : Type 0 where
  pub reply : CometReply
  pub turn : TurnBeside on (deeds old.office.chained.state.settled) old.register (request_of one.frame) reply
      new.register before after
  pub office : new.office ≡ old.office
  pub written : one.reply ≡ written_reply reply

-- the turns are those of the requests of these frames, in their order, with their replies, and with the clock's
-- readings in order
pub record AreTurnsOf (before after : ClockState) (served : List Exchange) (turns : List CometTurn) : Type 0 where
  pub requests : requests_of turns ≡ map request_of (frames_of served)
  pub replies : map (λ turn. written_reply turn.reply) turns ≡ map (λ one. one.reply) served
  pub clock : Gives before after (readings_of turns)

-- frames of which this holds were answered by the turns
abbrev pub Serves : ClockState → ClockState → (List Exchange → Type 0) → List CometTurn → Type 0
Serves before after AreSo turns = (served : List Exchange) × AreSo served × AreTurnsOf before after served turns
