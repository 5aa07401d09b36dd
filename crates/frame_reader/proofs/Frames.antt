-- A frame whose head is read first, and then its body.
use Rattle.std.proofs.Common.{◌≡◌, ℕ, ◌+◌, ◌<◌, List, [], ◌++◌, length, Option, refl, sym, ap, ◌∙◌, append_assoc, arith}
use Rattle.std.proofs.lemmas.List.{append-nil, length-append}
use Rattle.desk_io.specs.Reads.{Passes, Comes}
use Rattle.frame_grammar.specs.Frames.{IsFrame, frame_bytes, frame_of, NoFrame, NeverFrame, NoHead, HeadParts, IsHead, head_bytes}
use Rattle.read_ahead.specs.declared.body.Body.{Body}
use Rattle.read_ahead.specs.declared.halt.Halt.{Halt}
use Rattle.read_ahead.specs.Reading.{LacksText, IsTextRead, IsBody, IsCut, Halts}
use Rattle.read_ahead.specs.Growing.{none_cut, both_come}
use Rattle.frame_reader.specs.declared.frame.ReadFrame.{ReadFrame}
use Rattle.frame_reader.specs.declared.head.HeldHead.{HeldHead}
use Rattle.frame_reader.specs.Reading.{AwaitsFrame}
use Rattle.frame_reader.specs.Frames.{parts_of, IsFrameRead, IsHeadRead}

-- the frame that a head and a body make
abbrev pub whole : HeldHead → Body → ReadFrame
whole head body = record { key = head.key; number = head.number; verb = head.verb; body = body; size = head.size + head.length }

module _ {S : Type 0} (left : S → Option (List ℕ)) (gives : Passes S) (goes_on : (h : HeadParts) (rest more : List ℕ) → head_bytes h rest ++ more ≡ head_bytes h (rest ++ more))
    (missing : (bytes : List ℕ) (h : HeadParts) (rest : List ℕ) → IsHead h → bytes ≡ head_bytes h rest → length rest < h.length → NoFrame bytes)
    (no_head : (bytes : List ℕ) → NeverFrame bytes → (more : List ℕ) → NoHead (bytes ++ more)) where
  -- what comes after the bytes that begin with a head
  behind_head : (start first second middle : List ℕ) (h : HeadParts) → start ++ first ≡ head_bytes h middle → start ++ (first ++ second) ≡ head_bytes h (middle ++ second)
  behind_head start first second middle h stands =
      sym (append_assoc start first second) ∙ ap (λ (t : List ℕ). t ++ second) stands ∙ goes_on h middle second

  -- while bytes of a body are missing after its head, a frame is awaited
  awaited : (start first middle came : List ℕ) (h : HeadParts) → IsHead h → start ++ first ≡ head_bytes h middle → LacksText middle h.length came → AwaitsFrame start (first ++ came)
  awaited start first middle came h good stands lacks =
      let bytes : List ℕ = start ++ (first ++ came) in
      let is : bytes ≡ head_bytes h (middle ++ came) = behind_head start first came middle h stands in
      (missing bytes h (middle ++ came) good is lacks, λ never. no_head bytes never [] h (middle ++ came) good (append-nil bytes ∙ is))

  module _ (good : (h : HeadParts) (body : List ℕ) → IsHead h → length body ≡ h.length → IsFrame (frame_of h body))
      (joined : (h : HeadParts) (body rest : List ℕ) → length body ≡ h.length → head_bytes h (body ++ rest) ≡ frame_bytes (frame_of h body) rest) where
    -- how many bytes it has
    size_of_frame : (h : HeadParts) (body : List ℕ) → length body ≡ h.length → length (head_bytes h []) + h.length ≡ length (frame_bytes (frame_of h body) [])
    size_of_frame h body long =
        omega (arith, ap length (joined h body [] long), ap length (goes_on h [] (body ++ [])), length-append (head_bytes h []) (body ++ []), length-append body [])

    pub frame_read : (a b c : S) (start middle rest : List ℕ) (head : HeldHead) (body : Body)
        → (first : List ℕ) × Comes left gives (AwaitsFrame start) a b first × IsHeadRead (start ++ first) head middle
        → (second : List ℕ) × Comes left gives (LacksText middle head.length) b c second × IsTextRead (middle ++ second) head.length (IsBody body) rest
        → (piece : List ℕ) × Comes left gives (AwaitsFrame start) a c piece × IsFrameRead (start ++ piece) (whole head body) rest
    frame_read a b c start middle rest head body first second =
        let h = parts_of head in
        let text = second.2.text in
        let long : length text ≡ h.length = second.2.long in (
          first.0 ++ second.0,
          both_come left gives (AwaitsFrame start) a b c middle first.0 second.0 h.length (λ came. awaited start first.0 middle came h first.2.good first.2.stands) first.1 second.1,
          record {
            frame = frame_of h text;
            good = good h text first.2.good long;
            stands = behind_head start first.0 second.0 middle h first.2.stands ∙ ap (head_bytes h) second.2.stands ∙ joined h text rest long;
            key = refl;
            number = refl;
            verb = refl;
            body = second.2.told;
            size = ap (λ (n : ℕ). n + h.length) first.2.size ∙ size_of_frame h text long;
          },
        )

  module _ (some : (h : HeadParts) (rest : List ℕ) → 0 < length (head_bytes h rest)) where
    pub frame_cut : (a b c : S) (start middle rest : List ℕ) (head : HeldHead) (halt : Halt)
        → (first : List ℕ) × Comes left gives (AwaitsFrame start) a b first × IsHeadRead (start ++ first) head middle
        → (second : List ℕ) × Comes left gives (LacksText middle head.length) b c second × ((length (middle ++ second) < head.length) × IsCut (left c) halt)
        → (piece : List ℕ) × Comes left gives (AwaitsFrame start) a c piece × Halts NoFrame (start ++ piece) rest (left c) halt
    frame_cut a b c start middle rest head halt first second =
        let h = parts_of head in
        let front = start ++ (first.0 ++ second.0) in
        let is : front ≡ head_bytes h (middle ++ second.0) = behind_head start first.0 second.0 middle h first.2.stands in
        let none : NoFrame front = missing front h (middle ++ second.0) first.2.good is second.2.0 in
        let begun : 0 < length front = omega (arith, ap length is, some h (middle ++ second.0)) in (
          first.0 ++ second.0,
          both_come left gives (AwaitsFrame start) a b c middle first.0 second.0 h.length (λ came. awaited start first.0 middle came h first.2.good first.2.stands) first.1 second.1,
          none_cut NoFrame front rest (left c) halt none begun second.2.1,
        )
