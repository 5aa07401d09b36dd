-- Two texts that are written one after the other.
use Rattle.std.proofs.Common.{◌≡◌, ℕ, ◌+◌, List, ◌++◌, length, take, drop, Option, refl, sym, ap, ◌∙◌, subst, arith}
use Rattle.std.proofs.lemmas.List.{length-append, take-append-le, take_at, drop_at}
use Rattle.std.proofs.KnownBytes.{Appends-trans}
use Rattle.std.specs.Io.KnownBytes.{Appends}
use lib.Seq.{take-add}
use Rattle.desk_io.specs.Outside.{AppendsPart}

module _ (old new : Option (List ℕ)) (front text : List ℕ) where
  -- a part of the first text is a part of both
  pub part_of_front : AppendsPart old new front → AppendsPart old new (front ++ text)
  part_of_front part =
      (part.0, omega (arith, part.1, length-append front text), subst (Appends old new) (sym (take-append-le part.0 front text (omega (arith, part.1)))) part.2)

  -- the first text and a part of the second are a part of both
  pub part_behind_front : (mid : Option (List ℕ)) → Appends old mid front → AppendsPart mid new text → AppendsPart old new (front ++ text)
  part_behind_front mid before part =
      let n : ℕ = part.0 in
      let same : take (length front + n) (front ++ text) ≡ front ++ take n text =
      take-add (length front) n (front ++ text)
      ∙ ap (λ (t : List ℕ). t ++ take n (drop (length front) (front ++ text))) (take_at front text (length front) refl)
      ∙ ap (λ (t : List ℕ). front ++ take n t) (drop_at front text (length front) refl) in
      (length front + n, omega (arith, part.1, length-append front text), subst (Appends old new) (sym same) (Appends-trans old mid new front (take n text) before part.2))
