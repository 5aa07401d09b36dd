-- How frames that are answered follow one another, and the laws of frames on which that rests.
use Rattle.std.proofs.Common.{◌≡◌, ℕ, List, [], ◌∷◌, ◌++◌, refl, sym, ap, subst, ◌∙◌}
use Rattle.std.specs.List.{AllByRecursion}
use Rattle.std.proofs.lemmas.Grind.{flat_map-append}
use Rattle.std.proofs.lemmas.List.{append-nil, map-append}
use Rattle.frame_grammar.specs.Frames.{Frame, IsFrame, frame_bytes, stream_bytes, NoFrame}
use Rattle.frame_service.specs.Exchanges.{Exchange, frames_of, replies_of, Attending, Attends}
use Rattle.frame_service.specs.Runs.{AreServed}

pub record FrameLaws : Type 0 where
  -- bytes that come later stand after a frame, and after frames
  pub frame_goes_on : (f : Frame) (rest more : List ℕ) → frame_bytes f rest ++ more ≡ frame_bytes f (rest ++ more)
  pub stream_goes_on : (fs : List Frame) (rest more : List ℕ) → stream_bytes fs rest ++ more ≡ stream_bytes fs (rest ++ more)
  pub stream_joins : (fs gs : List Frame) (rest : List ℕ) → stream_bytes (fs ++ gs) rest ≡ stream_bytes fs (stream_bytes gs rest)
  -- no frame stands where nothing does
  pub nothing : NoFrame []

AllByRecursion-push : {X : Type 0} (P : X → Type 0) (xs : List X) (x : X) → AllByRecursion P xs → P x → AllByRecursion P (xs ++ x ∷ [])
AllByRecursion-push P [] x all here = (here, tt)
AllByRecursion-push P (y ∷ ys) x all here = (all.0, AllByRecursion-push P ys x all.1 here)

frames_more : (served : List Exchange) (one : Exchange) → frames_of (served ++ one ∷ []) ≡ frames_of served ++ one.frame ∷ []
frames_more served one = map-append (λ (x : Exchange). x.frame) served (one ∷ [])

-- the replies to frames, and to one more
pub replies_more : (served : List Exchange) (one : Exchange) → replies_of (served ++ one ∷ []) ≡ replies_of served ++ one.reply
replies_more served one =
    flat_map-append (λ (x : Exchange). x.reply) served (one ∷ []) ∙ ap (λ (x : List ℕ). replies_of served ++ x) (append-nil one.reply)

-- one frame more is answered
pub attends_more : {A : Type 0} (answers : Attending A → Exchange → Attending A → Type 0) (before : Attending A) (served : List Exchange) (between : Attending A) (one : Exchange) (after : Attending A)
    → Attends answers before served between → answers between one after → Attends answers before (served ++ one ∷ []) after
attends_more {A = A} answers before [] between one after same more =
    (after, subst (λ (at : Attending A). answers at one after) same more, refl)
attends_more answers before (first ∷ served) between one after (then, answered, later) more =
    (then, answered, attends_more answers then served between one after later more)

module _ (laws : FrameLaws) where
  -- bytes that come later stand after the rest
  pub served_bytes : (bytes rest : List ℕ) (served : List Exchange) (piece : List ℕ) → AreServed bytes rest served → AreServed (bytes ++ piece) (rest ++ piece) served
  served_bytes bytes rest served piece s =
      record { stream = ap (λ (b : List ℕ). b ++ piece) s.stream ∙ laws.stream_goes_on (frames_of served) rest piece; whole = s.whole }

  -- one frame more is served
  pub served_more : (bytes rest : List ℕ) (served : List Exchange) (one : Exchange) → AreServed bytes (frame_bytes one.frame rest) served → IsFrame one.frame → AreServed bytes rest (served ++ one ∷ [])
  served_more bytes rest served one s good =
      let same = sym (frames_more served one) in
      record {
        stream = subst (λ (fs : List Frame). bytes ≡ stream_bytes fs rest) same (s.stream ∙ sym (laws.stream_joins (frames_of served) (one.frame ∷ []) rest));
        whole = subst (AllByRecursion IsFrame) same (AllByRecursion-push IsFrame (frames_of served) one.frame s.whole good);
      }
