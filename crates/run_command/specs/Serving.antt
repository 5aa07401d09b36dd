-- How frames are answered by a desk: the turns of the frames' requests.
use Rattle.std.specs.Prelude.{◌≡◌, List, map, Some}
use Rattle.frame_reader.specs.declared.frame.ReadFrame.{ReadFrame}
use Rattle.frame_service.specs.Exchanges.{Exchange, frames_of}
use Rattle.act_bodies.specs.Keys.{key_of}
use Rattle.act_model.specs.declared.reply.Reply.{Reply}
use Rattle.act_model.specs.declared.request.Request.{Request}
use Rattle.act_model.specs.Clocks.{ClockState, Gives}
use Rattle.act_model.specs.Requests.{verb_of}
use Rattle.act_model.specs.Turns.{Turn, request_of, requests_of, readings_of, written_reply}
use Rattle.mpc_desk.specs.Desks.{DeskState}
use Rattle.command_ends.specs.Disks.{DiskWords}
use Rattle.run_command.specs.Conducted.{TakesTurn}

-- the request of a frame, as it was read
abbrev pub request_read : ReadFrame → Request
request_read read =
    record {
      key = key_of read.key.items;
      number = Some read.number;
      verb = verb_of read.verb.items;
      body = read.body;
    }

-- a frame was answered by one turn of a desk, that of its request, with the reply of the turn
pub record AnswersBy {D : Type 0} (on : DiskWords D) (old : DeskState D) (before : ClockState) (one : Exchange)
    (new : DeskState D) (after : ClockState) : Type 0 where
  pub reply : Reply
  pub turn : TakesTurn on old (request_of one.frame) reply new before after
  pub written : one.reply ≡ written_reply reply

-- the turns are those of the requests of these frames, in their order, with their replies, and with the clock's
-- readings in order
pub record AreTurnsOf (before after : ClockState) (served : List Exchange) (turns : List Turn) : Type 0 where
  pub requests : requests_of turns ≡ map request_of (frames_of served)
  pub replies : map (λ turn. written_reply turn.reply) turns ≡ map (λ one. one.reply) served
  pub clock : Gives before after (readings_of turns)

-- frames of which this holds were answered by the turns
abbrev pub Serves : ClockState → ClockState → (List Exchange → Type 0) → List Turn → Type 0
Serves before after AreSo turns = (served : List Exchange) × AreSo served × AreTurnsOf before after served turns
