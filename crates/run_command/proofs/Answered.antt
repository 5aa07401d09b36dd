-- How a frame that was read is answered.
use Rattle.std.proofs.Common.{◌≡◌, ℕ, Bool, true, false, cond, List, length, Some, refl, sym, ap, subst, ◌∙◌, inl, inr, arith}
use Rattle.std.specs.Prelude.{◌⊎◌, nat_lt}
use Rattle.std.proofs.lemmas.Bool.Decides.{nat_tests}
use Rattle.frame_grammar.specs.Replies.{reply_frame}
use Rattle.read_ahead.specs.declared.body.Body.{Body}
use Rattle.read_ahead.specs.declared.body.Body.TheVariants.{Whole, TooLong, NoRoom}
use Rattle.read_ahead.specs.Reading.{IsBody}
use Rattle.frame_reader.specs.declared.frame.ReadFrame.{ReadFrame}
use Rattle.frame_grammar.specs.Frames.{Frame}
use Rattle.frame_service.specs.declared.spoken.Spoken.{Spoken}
use Rattle.frame_service.specs.Exchanges.{IsReadAs, spoken_bytes}
use Rattle.act_bodies.specs.Keys.{key_of}
use Rattle.act_model.specs.declared.request.Request.{Request}
use Rattle.act_model.specs.declared.request.TheConstants.{BODY_BYTES}
use Rattle.act_model.specs.declared.reply.Refusal.TheVariants.{NoLine, NoMemory}
use Rattle.act_model.specs.declared.reply.Reply.{Reply}
use Rattle.act_model.specs.declared.reply.Reply.TheVariants.{Refused}
use Rattle.act_model.specs.Requests.{body_of, verb_of}
use Rattle.act_model.specs.Replies.{status_of, text_bytes}
use Rattle.act_model.specs.Turns.{request_of, written_reply}
use Rattle.command_ends.specs.Disks.{DiskWords}
use Rattle.mpc_desk.specs.Desks.{DeskState}
use Rattle.act_model.specs.Clocks.{ClockState}
use Rattle.run_command.specs.Conducted.{TakesTurn}
use Rattle.run_command.specs.Serving.{request_read, AnswersBy}
use Rattle.run_command.specs.Spoken.{IsSpoken, Speaks}
use Rattle.run_command.proofs.Laws.{WantLaws}
use Rattle.run_command.proofs.DeskTurns.{turn_wanting, turn_standing}

-- a body that was read is the request's, but for one that had no room
body_kept : (body : Body) (text : List ℕ) → IsBody body text → (body ≡ body_of text) ⊎ (body ≡ NoRoom)
body_kept (Whole bytes) text (is, short) =
    let test : nat_lt BODY_BYTES (length text) ≡ false = grind (arith, nat_tests) in
    inl (ap (λ (b : List ℕ). Whole b) is ∙ sym (ap (λ (b : Bool). cond b (TooLong (length text)) (Whole text)) test))
body_kept (TooLong size) text (is, long) =
    let test : nat_lt BODY_BYTES (length text) ≡ true = grind (arith, nat_tests) in
    inl (ap (λ (n : ℕ). TooLong n) is ∙ sym (ap (λ (b : Bool). cond b (TooLong (length text)) (Whole text)) test))
body_kept NoRoom text small = inr refl

frame_is : (reply : Reply) (spoken : Spoken) → IsSpoken reply spoken → spoken_bytes spoken ≡ written_reply reply
frame_is reply spoken (status, text) =
    ap (λ (n : ℕ). reply_frame n (text_bytes spoken.text)) status ∙ ap (λ (t : List ℕ). reply_frame (status_of reply) t) text

module _ (wants : WantLaws) {D : Type 0} (on : DiskWords D) (old : DeskState D) (before : ClockState) (new : DeskState D) (after : ClockState) (read : ReadFrame) (frame : Frame) (r : IsReadAs frame read) where
  -- the turn of the request that was read is that of the frame's request
  turn_of_frame : (reply : Reply) → TakesTurn on old (request_read read) reply new before after → TakesTurn on old (request_of frame) reply new before after
  turn_of_frame reply turn = by (body_kept read.body frame.body r.body)
    where
      by : (read.body ≡ body_of frame.body) ⊎ (read.body ≡ NoRoom) → TakesTurn on old (request_of frame) reply new before after
      by (inl same) =
          let request : request_read read ≡ request_of frame =
          ap (λ (k : List ℕ). record { key = key_of k; number = Some read.number; verb = verb_of read.verb.items; body = read.body }) r.key
          ∙ ap (λ (n : ℕ). record { key = key_of frame.key; number = Some n; verb = verb_of read.verb.items; body = read.body }) r.number
          ∙ ap (λ (v : List ℕ). record { key = key_of frame.key; number = Some frame.number; verb = verb_of v; body = read.body }) r.verb
          ∙ ap (λ (b : Body). record { key = key_of frame.key; number = Some frame.number; verb = verb_of frame.verb; body = b }) same in
          subst (λ (q : Request). TakesTurn on old q reply new before after) request turn
      by (inr none) = turn_standing on old new wants (request_read read) (request_of frame) reply none (ap verb_of r.verb) before after turn

  -- it is answered by that turn, or by out of memory in the place of the lines of a refusal
  answered : (reply : Reply) (spoken : Spoken) → TakesTurn on old (request_read read) reply new before after → Speaks reply spoken
      → AnswersBy on old before (record { frame = frame; reply = spoken_bytes spoken }) new after
  answered reply spoken turn (inl is) = record { reply = reply; turn = turn_of_frame reply turn; written = frame_is reply spoken is }
  answered reply spoken turn (inr (lines, refused, is)) =
      let same = subst (λ (x : Reply). TakesTurn on old (request_read read) x new before after) refused turn in
      record {
        reply = Refused NoMemory;
        turn = turn_wanting on old new wants (request_of frame) lines before after (turn_of_frame (Refused (NoLine lines)) same);
        written = frame_is (Refused NoMemory) spoken is;
      }

  pub answered_by : (q : Request) (reply : Reply) (spoken : Spoken) → q ≡ request_read read → TakesTurn on old q reply new before after → Speaks reply spoken
      → AnswersBy on old before (record { frame = frame; reply = spoken_bytes spoken }) new after
  answered_by q reply spoken is turn = answered reply spoken (subst (λ (x : Request). TakesTurn on old x reply new before after) is turn)
