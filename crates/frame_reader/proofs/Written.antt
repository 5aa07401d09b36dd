-- The frame of a reply, whose head is written before its text.
use Rattle.std.proofs.Common.{◌≡◌, ℕ, ◌+◌, List, [], ◌∷◌, ◌++◌, length, take, drop, Option, refl, sym, ap, ◌∙◌, subst, append_assoc, decimal, arith}
use Rattle.std.proofs.lemmas.List.{length-append, take-append-le, take_at, drop_at}
use Rattle.std.proofs.KnownBytes.{Appends-trans}
use Rattle.std.specs.Io.KnownBytes.{Appends}
use lib.Seq.{take-add}
use Rattle.desk_io.specs.Outside.{AppendsPart}
use Rattle.frame_grammar.specs.Replies.{reply_frame}

-- the bytes of a head
abbrev pub reply_head : ℕ → ℕ → List ℕ
reply_head status size = decimal status ++ 32 ∷ (decimal size ++ 10 ∷ [])

pub head_and_text : (status : ℕ) (text : List ℕ) → reply_frame status text ≡ reply_head status (length text) ++ text
head_and_text status text =
    ap (λ (t : List ℕ). decimal status ++ 32 ∷ t) (sym (append_assoc (decimal (length text)) (10 ∷ []) text))
    ∙ sym (append_assoc (decimal status) (32 ∷ (decimal (length text) ++ 10 ∷ [])) text)

module _ (old new : Option (List ℕ)) (head text frame : List ℕ) (joined : frame ≡ head ++ text) where
  -- a part of the head is a part of the frame
  pub part_of_head : AppendsPart old new head → AppendsPart old new frame
  part_of_head part =
      let same : take part.0 frame ≡ take part.0 head = ap (take part.0) joined ∙ take-append-le part.0 head text (omega (arith, part.1)) in
      (part.0, omega (arith, part.1, ap length joined, length-append head text), subst (Appends old new) (sym same) part.2)

  -- the head and a part of the text are a part of the frame
  pub part_behind_head : (mid : Option (List ℕ)) → Appends old mid head → AppendsPart mid new text → AppendsPart old new frame
  part_behind_head mid before part =
      let n : ℕ = part.0 in
      let same : take (length head + n) frame ≡ head ++ take n text =
      ap (take (length head + n)) joined ∙ take-add (length head) n (head ++ text)
      ∙ ap (λ (t : List ℕ). t ++ take n (drop (length head) (head ++ text))) (take_at head text (length head) refl)
      ∙ ap (λ (t : List ℕ). head ++ take n t) (drop_at head text (length head) refl) in
      (length head + n, omega (arith, part.1, ap length joined, length-append head text), subst (Appends old new) (sym same) (Appends-trans old mid new head (take n text) before part.2))
