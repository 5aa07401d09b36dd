-- How a frame that was read is answered.
use Rattle.std.proofs.Common.{◌≡◌, ℕ, Bool, true, false, cond, List, length, Some, refl, sym, ap, subst, ◌∙◌, inl, inr, arith}
use Rattle.std.specs.Prelude.{◌⊎◌, nat_lt}
use Rattle.std.proofs.lemmas.Bool.Decides.{nat_tests}
use Rattle.frame_grammar.specs.Frames.{Frame}
use Rattle.frame_grammar.specs.Replies.{reply_frame}
use Rattle.read_ahead.specs.declared.body.Body.{Body}
use Rattle.read_ahead.specs.declared.body.Body.TheVariants.{Whole, TooLong, NoRoom}
use Rattle.read_ahead.specs.Reading.{IsBody}
use Rattle.frame_reader.specs.declared.frame.ReadFrame.{ReadFrame}
use Rattle.frame_service.specs.declared.spoken.Spoken.{Spoken}
use Rattle.frame_service.specs.Exchanges.{IsReadAs, spoken_bytes}
use Rattle.act_bodies.specs.Keys.{key_of}
use Rattle.act_model.specs.declared.request.TheConstants.{BODY_BYTES}
use Rattle.act_model.specs.Clocks.{ClockState}
use Rattle.act_model.specs.Deeds.{deeds}
use Rattle.act_model.specs.Replies.{text_bytes}
use Rattle.act_model.specs.Requests.{body_of}
use Rattle.command_ends.specs.Disks.{DiskWords}
use Rattle.comet_model.specs.declared.reply.CometReply.{CometReply}
use Rattle.comet_model.specs.declared.request.CometRequest.{CometRequest}
use Rattle.comet_model.specs.Replies.{status_of}
use Rattle.comet_model.specs.Requests.{verb_of}
use Rattle.comet_model.specs.Turns.{request_of, written_reply}
use Rattle.comets_command.specs.Conducted.{TurnBeside}
use Rattle.comets_command.specs.Serving.{FrontState, request_read, AnswersBeside}
use Rattle.comets_command.specs.Spoken.{IsSpoken}
use Rattle.comets_command.proofs.NoRoom.{NoRoomLaws}
use Rattle.comets_command.proofs.RegisterTurns.{turn_standing}

-- a body that was read is the request's, but for one that had no room
body_kept : (body : Body) (text : List ℕ) → IsBody body text → (body ≡ body_of text) ⊎ (body ≡ NoRoom)
body_kept (Whole bytes) text (is, short) =
    let test : nat_lt BODY_BYTES (length text) ≡ false = grind (arith, nat_tests) in
    inl (ap (λ (b : List ℕ). Whole b) is ∙ sym (ap (λ (b : Bool). cond b (TooLong (length text)) (Whole text)) test))
body_kept (TooLong size) text (is, long) =
    let test : nat_lt BODY_BYTES (length text) ≡ true = grind (arith, nat_tests) in
    inl (ap (λ (n : ℕ). TooLong n) is ∙ sym (ap (λ (b : Bool). cond b (TooLong (length text)) (Whole text)) test))
body_kept NoRoom text small = inr refl

frame_is : (reply : CometReply) (spoken : Spoken) → IsSpoken reply spoken → spoken_bytes spoken ≡ written_reply reply
frame_is reply spoken (status, text) =
    ap (λ (n : ℕ). reply_frame n (text_bytes spoken.text)) status ∙ ap (λ (t : List ℕ). reply_frame (status_of reply) t) text

module _ (room : NoRoomLaws) {D : Type 0} (on : DiskWords D) (old : FrontState D) (before : ClockState) (new : FrontState D) (after : ClockState) (read : ReadFrame) (frame : Frame) (r : IsReadAs frame read) where
  abbrev Turn : CometRequest → CometReply → Type 0
  Turn q reply = TurnBeside on (deeds old.office.chained.state.settled) old.register q reply new.register before after

  -- the turn of the request that was read is that of the frame's request
  turn_of_frame : (reply : CometReply) → Turn (request_read read) reply → Turn (request_of frame) reply
  turn_of_frame reply turn = by (body_kept read.body frame.body r.body)
    where
      by : (read.body ≡ body_of frame.body) ⊎ (read.body ≡ NoRoom) → Turn (request_of frame) reply
      by (inl same) =
          let request : request_read read ≡ request_of frame =
          ap (λ (k : List ℕ). record { key = key_of k; number = Some read.number; verb = verb_of read.verb.items; body = read.body }) r.key
          ∙ ap (λ (n : ℕ). record { key = key_of frame.key; number = Some n; verb = verb_of read.verb.items; body = read.body }) r.number
          ∙ ap (λ (v : List ℕ). record { key = key_of frame.key; number = Some frame.number; verb = verb_of v; body = read.body }) r.verb
          ∙ ap (λ (b : Body). record { key = key_of frame.key; number = Some frame.number; verb = verb_of frame.verb; body = b }) same in
          subst (λ (q : CometRequest). Turn q reply) request turn
      by (inr none) =
          turn_standing on (deeds old.office.chained.state.settled) old.register new.register room (request_read read) (request_of frame) reply none (ap verb_of r.verb) before after turn

  pub answered_by : (q : CometRequest) (reply : CometReply) (spoken : Spoken) → q ≡ request_read read → Turn q reply → new.office ≡ old.office → IsSpoken reply spoken
      → AnswersBeside on old before (record { frame = frame; reply = spoken_bytes spoken }) new after
  answered_by q reply spoken is turn office says = record {
    reply = reply;
    turn = turn_of_frame reply (subst (λ (x : CometRequest). Turn x reply) is turn);
    office = office;
    written = frame_is reply spoken says;
  }
