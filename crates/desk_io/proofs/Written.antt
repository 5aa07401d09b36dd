-- A piece that is written bit by bit.
use Rattle.std.proofs.Common.{◌≡◌, ℕ, ◌<◌, List, [], ◌++◌, length, take, drop, refl, sym, ap, ◌∙◌, subst, append_assoc, take-append-drop, length-append, arith, Option}
use Rattle.std.proofs.KnownBytes.{Appends-nil, Appends-trans, Appends-kept}
use Rattle.std.specs.Io.KnownBytes.{Appends, Keeps}
use lib.Seq.{take-append_seam}
use Rattle.desk_io.specs.Outside.{AppendsPart}

-- from old to now a sink took the front of the piece, and this rest is left
pub record IsWritten (old now : Option (List ℕ)) (piece rest : List ℕ) : Type 0 where
  pub front : List ℕ
  pub joined : piece ≡ front ++ rest
  pub took : Appends old now front

pub IsWritten-none : (old : Option (List ℕ)) (piece : List ℕ) → IsWritten old old piece piece
IsWritten-none old piece = record { front = []; joined = refl; took = Appends-nil old }

pub IsWritten-more : (old now next : Option (List ℕ)) (piece rest : List ℕ) (n : ℕ) → IsWritten old now piece rest → Appends now next (take n rest)
    → IsWritten old next piece (drop n rest)
IsWritten-more old now next piece rest n so_far more = record {
  front = so_far.front ++ take n rest;
  joined = so_far.joined ∙ ap (λ l. so_far.front ++ l) (sym (take-append-drop n rest)) ∙ sym (append_assoc so_far.front (take n rest) (drop n rest));
  took = Appends-trans old now next so_far.front (take n rest) so_far.took more;
}

pub IsWritten-part : (old now next : Option (List ℕ)) (piece rest : List ℕ) → IsWritten old now piece rest → 0 < length rest → Keeps now next
    → AppendsPart old next piece
IsWritten-part old now next piece rest so_far some kept =
    let front_is : take (length so_far.front) piece ≡ so_far.front =
    ap (take (length so_far.front)) so_far.joined ∙ take-append_seam so_far.front rest in
    let shorter : length so_far.front < length piece = omega (arith, ap length so_far.joined, length-append so_far.front rest) in
    (length so_far.front, shorter, subst (Appends old next) (sym front_is) (Appends-kept old now next so_far.front so_far.took kept))
