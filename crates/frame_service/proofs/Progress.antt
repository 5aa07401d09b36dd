-- How far serving has come, step by step, and what is left where it stops.
use Rattle.std.proofs.Common.{◌≡◌, ℕ, ◌+◌, ◌-◌, ◌^◌, ◌<◌, ◌≤◌, min, List, [], ◌∷◌, ◌++◌, length, take, Option, Ok, Err, refl, sym, ap, subst, ◌∙◌, arith, inl, inr}
use Rattle.std.specs.Io.KnownBytes.{Appends}
use Rattle.std.proofs.KnownBytes.{Appends-nil, Appends-trans, Appends-kept}
use Rattle.std.proofs.lemmas.List.{length-append, length-map}
use Rattle.desk_io.specs.Reads.{Passes, Comes, Comes-nil, Comes-trans, Comes-weaker}
use Rattle.desk_io.specs.declared.outside.Failed.{Failed}
use Rattle.frame_grammar.specs.Frames.{Frame, frame_bytes, NoFrame, NeverFrame, IsSession, reached}
use Rattle.read_ahead.specs.Reading.{Supplies}
use Rattle.read_ahead.specs.Supplied.{remaining, none_left, none_before, supplies}
use Rattle.frame_reader.specs.declared.frame.ReadFrame.{ReadFrame}
use Rattle.frame_reader.specs.Reading.{AwaitsFrame}
use Rattle.frame_reader.specs.Frames.{IsFrameRead, NoFrameComes}
use Rattle.frame_service.specs.declared.serving.Stop.{Stop}
use Rattle.frame_service.specs.declared.serving.Stop.TheVariants as stop
use Rattle.frame_service.specs.Exchanges.{Exchange, frames_of, replies_of, Attending, Attends}
use Rattle.frame_service.specs.Runs.{Run, AwaitsNext, offset_at, AreServed, AnswersFrames, Stops}
use Rattle.frame_service.specs.Steps.{Standing, answering_of, IsUntouched, AnswersFrame, TurnsFrame, TakesStep, Progress}
use Rattle.frame_service.proofs.Served.{FrameLaws, replies_more, attends_more, served_bytes, served_more}

-- where no frame comes any more, a byte has come
front_some : (some : (bytes : List ℕ) → NeverFrame bytes → 0 < length bytes) (front : List ℕ) (left : Option (List ℕ)) → NoFrameComes front left → 0 < length front
front_some some front left (inl never) = some front never
front_some some front left (inr (none, begun, end)) = begun

-- what is allowed while some frames are answered is allowed while more are
awaits_more : (m n : ℕ) → m ≤ n → (came : List ℕ) → AwaitsNext m came → AwaitsNext n came
awaits_more m n less came (frames, rest, session, few, never) = (frames, rest, session, omega arith, never)

-- the offset goes on by the frame's bytes
place_more : (came piece ahead all rest offset size : ℕ) → offset ≡ offset_at (came - ahead) → ahead ≤ came → all ≡ came + piece → ahead + piece ≡ size + rest
    → min (offset + size) (2 ^ 64 - 1) ≡ offset_at (all - rest)
place_more came piece ahead all rest offset size place within sum front = omega arith

frame_length : (laws : FrameLaws) (frame : Frame) (rest : List ℕ) → length (frame_bytes frame rest) ≡ length (frame_bytes frame []) + length rest
frame_length laws frame rest = ap length (sym (laws.frame_goes_on frame [] rest)) ∙ length-append (frame_bytes frame []) rest

module _ {S : Type 0} (left : S → Option (List ℕ)) (gives : Passes S) {A : Type 0} (answers : Attending A → Exchange → Attending A → Type 0) (start : Standing S A) where
  -- nothing has come
  pub progress_start : start.ahead ≡ [] → Progress left gives answers start start 0
  progress_start unread = record {
    came = [];
    served = [];
    appended = Appends-nil start.taken;
    frames = record { stream = sym unread; whole = tt };
    attends = refl;
    comes = Comes-nil left gives (AwaitsNext 0) start.source;
    place = ap (λ (a : List ℕ). offset_at (0 - length a)) (sym unread);
    within = omega (arith, ap length unread);
  }

  module _ (laws : FrameLaws) (here : Standing S A) (offset : ℕ) (p : Progress left gives answers start here offset) where
    -- while a frame is awaited after those that were answered, the next one is
    next_awaited : (came : List ℕ) → AwaitsFrame here.ahead came → AwaitsNext (length p.served) (p.came ++ came)
    next_awaited came awaited =
        let s = served_bytes laws p.came here.ahead p.served came p.frames in
        let session : IsSession (p.came ++ came) (frames_of p.served) (here.ahead ++ came) = record { whole = s.stream; each = s.whole; ended = awaited.0 } in
        (frames_of p.served, here.ahead ++ came, session, omega (arith, length-map p.served (λ (x : Exchange). x.frame)), awaited.1)

    -- the pieces that came for one frame more
    all_come : (then : S) (piece : List ℕ) → Comes left gives (AwaitsFrame here.ahead) here.source then piece → Comes left gives (AwaitsNext (length p.served)) start.source then (p.came ++ piece)
    all_come then piece came =
        Comes-trans left gives (AwaitsNext (length p.served)) start.source here.source then p.came piece p.comes
        (Comes-weaker left gives (AwaitsFrame here.ahead) (λ more. AwaitsNext (length p.served) (p.came ++ more)) next_awaited here.source then piece came)

    module _ (then : Standing S A) where
      -- one frame more was answered
      record ServesMore (piece : List ℕ) (one : Exchange) : Type 0 where
        frames : AreServed (p.came ++ piece) then.ahead (p.served ++ one ∷ [])
        attends : Attends answers start.at (p.served ++ one ∷ []) then.at

      one_more : (piece : List ℕ) (size : ℕ) (result : _) (t : TurnsFrame answers here then (here.ahead ++ piece) size result) → ServesMore piece (record { frame = t.frame; reply = t.answers_it.reply })
      one_more piece size result t =
          let one : Exchange = record { frame = t.frame; reply = t.answers_it.reply } in
          let behind = subst (λ (b : List ℕ). AreServed (p.came ++ piece) b p.served) t.stands (served_bytes laws p.came here.ahead p.served piece p.frames) in
          record {
            frames = served_more laws (p.came ++ piece) then.ahead p.served one behind t.good;
            attends = attends_more answers start.at p.served here.at one then.at p.attends t.answers_it.answered;
          }

      -- a frame more was answered
      pub progress_more : (size : ℕ) → TakesStep left gives answers here then offset (Ok size) → Progress left gives answers start then (min (offset + size) (2 ^ 64 - 1))
      progress_more size step =
          let t = step.turns in
          let one : Exchange = record { frame = t.frame; reply = t.answers_it.reply } in
          let came : List ℕ = p.came ++ step.piece in
          let m = one_more step.piece size (Ok size) t in
          let grown : length p.served ≤ length (p.served ++ one ∷ []) = omega (arith, length-append p.served (one ∷ [])) in
          let came_length : length came ≡ length p.came + length step.piece = length-append p.came step.piece in
          let front_length : length here.ahead + length step.piece ≡ size + length then.ahead =
          sym (length-append here.ahead step.piece) ∙ ap length t.stands ∙ frame_length laws t.frame then.ahead ∙ ap (λ (n : ℕ). n + length then.ahead) (sym t.size_is) in
          let within = p.within in
          record {
            came = came;
            served = p.served ++ one ∷ [];
            appended = subst (Appends start.taken then.taken) (sym (replies_more p.served one)) (Appends-trans start.taken here.taken then.taken (replies_of p.served) one.reply p.appended t.answers_it.writes);
            frames = m.frames;
            attends = m.attends;
            comes = Comes-weaker left gives (AwaitsNext (length p.served)) (AwaitsNext (length (p.served ++ one ∷ []))) (awaits_more (length p.served) (length (p.served ++ one ∷ [])) grown)
                start.source then.source came (all_come then.source step.piece step.came);
            place = place_more (length p.came) (length step.piece) (length here.ahead) (length came) (length then.ahead) offset size p.place within came_length front_length;
            within = omega arith;
          }

      -- what a run took, where these pieces came last
      run_with : (piece texts : List ℕ) → Run
      run_with piece texts = record { came = p.came ++ piece; more = (remaining (left then.source)).0; answered = length p.served; texts = texts }

      supplied_with : (piece : List ℕ) → Comes left gives (AwaitsFrame here.ahead) here.source then.source piece
          → Supplies left gives (AwaitsNext (length p.served)) start.source then.source (p.came ++ piece) (remaining (left then.source)).0
      supplied_with piece came = supplies left gives (AwaitsNext (length p.served)) start.source then.source (p.came ++ piece) (all_come then.source piece came)

      -- no frame more was answered: where the run stands, with all bytes that came
      record Settles (front : List ℕ) : Type 0 where
        run : Run
        supplied : Supplies left gives (AwaitsNext run.answered) start.source then.source run.came run.more
        appended : Appends start.taken then.taken run.texts
        texts : run.texts ≡ replies_of p.served
        frames : AreServed run.came front p.served
        answered : run.answered ≡ length p.served
        attends : Attends answers start.at p.served then.at
        place : offset ≡ offset_at (length run.came - length front)
        within : length front ≤ length run.came

      settles : (piece : List ℕ) → Comes left gives (AwaitsFrame here.ahead) here.source then.source piece → IsUntouched here then → Settles (here.ahead ++ piece)
      unfolding run_with
      settles piece came same =
          let lengths = length-append p.came piece in
          let fronts = length-append here.ahead piece in
          let within = p.within in
          let difference : length (p.came ++ piece) - length (here.ahead ++ piece) ≡ length p.came - length here.ahead = omega arith in
          record {
            run = run_with piece (replies_of p.served);
            supplied = supplied_with piece came;
            appended = Appends-kept start.taken here.taken then.taken (replies_of p.served) p.appended same.sink;
            texts = refl;
            frames = served_bytes laws p.came here.ahead p.served piece p.frames;
            answered = refl;
            attends = subst (Attends answers start.at p.served) (sym same.at) p.attends;
            place = p.place ∙ ap offset_at (sym difference);
            within = omega arith;
          }

      answers_frames : (bytes rest : List ℕ) (run : Run) → AreServed bytes rest p.served → run.answered ≡ length p.served → NoFrame rest → run.texts ≡ replies_of p.served → AnswersFrames bytes rest run p.served
      answers_frames bytes rest run s answered ended texts =
          record { session = record { whole = s.stream; each = s.whole; ended = ended }; answered = answered; texts = texts }

      -- what is said where serving stops
      abbrev pub StopsSo : Stop → Type 0
      StopsSo stopped =
          (run : Run) × (served : List Exchange) × Supplies left gives (AwaitsNext run.answered) start.source then.source run.came run.more × Appends start.taken then.taken run.texts × Stops run stopped served × Attends answers start.at served then.at

      stops_over : TakesStep left gives answers here then offset (Err stop.Over) → StopsSo stop.Over
      stops_over step =
          let over = step.turns.0 in
          let s = settles step.piece step.came step.turns.1 in
          let frames = subst (λ (f : List ℕ). AreServed s.run.came f p.served) over.0 s.frames in
          (s.run, p.served, s.supplied, s.appended, (none_left (left then.source) s.run.more over.2 s.supplied.rest, answers_frames s.run.came [] s.run frames s.answered laws.nothing s.texts), s.attends)

      stops_no_more : (at : ℕ) → TakesStep left gives answers here then offset (Err (stop.NoFrameAt at)) → StopsSo (stop.NoFrameAt at)
      stops_no_more at step =
          let front : List ℕ = here.ahead ++ step.piece in
          let s = settles step.piece step.came step.turns.3 in
          let more = s.run.more in
          let whole = served_bytes laws s.run.came front p.served more s.frames in
          let none = none_before NoFrame front more (left then.source) step.turns.0 s.supplied.rest in
          let bytes_length = length-append s.run.came more in
          let rest_length = length-append front more in
          let some = step.turns.1 in
          let within = s.within in
          let place : length s.run.came - length front ≡ reached (s.run.came ++ more) (front ++ more) = omega arith in (
            s.run,
            p.served,
            s.supplied,
            s.appended,
            record {
              rest = front ++ more;
              over = answers_frames (s.run.came ++ more) (front ++ more) s.run whole s.answered none s.texts;
              some = omega arith;
              place = step.turns.2 ∙ s.place ∙ ap offset_at place;
            },
            s.attends,
          )

      stops_reading : TakesStep left gives answers here then offset (Err stop.ReadFailed) → StopsSo stop.ReadFailed
      stops_reading step =
          let front : List ℕ = here.ahead ++ step.piece in
          let s = settles step.piece step.came step.turns.1 in
          (s.run, p.served, s.supplied, s.appended, (front, answers_frames s.run.came front s.run s.frames s.answered step.turns.0 s.texts), s.attends)

      stops_writing : TakesStep left gives answers here then offset (Err stop.WriteFailed) → StopsSo stop.WriteFailed
      unfolding run_with
      stops_writing step =
          let t = step.turns.2 in
          let one : Exchange = record { frame = t.frame; reply = t.answers_it.reply } in
          let part = t.answers_it.writes in
          let m = one_more step.piece step.turns.0 (Err step.turns.1) t in
          let cut : List ℕ = take part.0 one.reply in (
            run_with step.piece (replies_of p.served ++ cut),
            p.served ++ one ∷ [],
            supplied_with step.piece step.came,
            Appends-trans start.taken here.taken then.taken (replies_of p.served) cut p.appended part.2,
            record {
              whole = p.served;
              last = one;
              rest = then.ahead;
              taken = part.0;
              served_are = refl;
              frames = m.frames;
              answered = refl;
              part = part.1;
              texts = refl;
            },
            m.attends,
          )

      -- the same for each way in which it stops
      pub stops_so : (stopped : Stop) → TakesStep left gives answers here then offset (Err stopped) → StopsSo stopped
      stops_so stop.Over step = stops_over step
      stops_so (stop.NoFrameAt at) step = stops_no_more at step
      stops_so stop.ReadFailed step = stops_reading step
      stops_so stop.WriteFailed step = stops_writing step

module _ {S : Type 0} (left : S → Option (List ℕ)) (gives : Passes S) {A : Type 0} (answers : Attending A → Exchange → Attending A → Type 0) (old new : Standing S A) (offset : ℕ) where
  -- the frame that was read was answered
  pub step_answered : (read : ReadFrame) (size : ℕ) → (piece : List ℕ) × Comes left gives (AwaitsFrame old.ahead) old.source new.source piece × IsFrameRead (old.ahead ++ piece) read new.ahead
      → ((front behind : List ℕ) (r : IsFrameRead front read behind) → AnswersFrame answers (answering_of old) (answering_of new) r.frame (Ok size)) → size ≡ read.size
      → TakesStep left gives answers old new offset (Ok size)
  step_answered read size (piece, came, r) answered size_is =
      record {
        piece = piece;
        came = came;
        turns = record { frame = r.frame; good = r.good; stands = r.stands; size_is = size_is ∙ r.size; answers_it = answered (old.ahead ++ piece) new.ahead r };
      }

  -- the sink failed inside its reply
  pub step_cut : (read : ReadFrame) (failed : Failed) → (piece : List ℕ) × Comes left gives (AwaitsFrame old.ahead) old.source new.source piece × IsFrameRead (old.ahead ++ piece) read new.ahead
      → ((front behind : List ℕ) (r : IsFrameRead front read behind) → AnswersFrame answers (answering_of old) (answering_of new) r.frame (Err failed))
      → TakesStep left gives answers old new offset (Err stop.WriteFailed)
  step_cut read failed (piece, came, r) answered =
      record {
        piece = piece;
        came = came;
        turns = (read.size, failed, record { frame = r.frame; good = r.good; stands = r.stands; size_is = r.size; answers_it = answered (old.ahead ++ piece) new.ahead r });
      }

  -- no frame comes any more
  pub step_no_more : IsUntouched old new → (some : (bytes : List ℕ) → NeverFrame bytes → 0 < length bytes)
      → (piece : List ℕ) × Comes left gives (AwaitsFrame old.ahead) old.source new.source piece × NoFrameComes (old.ahead ++ piece) (left new.source) → TakesStep left gives answers old new offset (Err (stop.NoFrameAt offset))
  step_no_more untouched some (piece, came, none) =
      record { piece = piece; came = came; turns = (none, front_some some (old.ahead ++ piece) (left new.source) none, refl, untouched) }
