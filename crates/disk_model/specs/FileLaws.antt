-- Laws on what writes and cuts make of a file, and on what a crash may leave of it.
use Rattle.std.specs.Prelude.{◌≡◌, ℕ, ◌+◌, ◌-◌, ◌≤◌, min, max, List, [], ◌∷◌, ◌++◌, length, take, drop, replicate, refl}
use Rattle.std.proofs.Common.{sym, ◌∙◌, ap, arith}
use Rattle.std.proofs.lemmas.List.{take-append-le, take-take, take_min, take_all, drop-drop, drop_at, length-append}
use Rattle.std.proofs.lemmas.List.{length-take, length-drop, length-replicate}
use Rattle.disk_model.specs.Files.{lengthened, written}
use Rattle.disk_model.specs.Crashes.{Torn, CutTo}

-- zeros fill a file up to a length
pub length-lengthened : (len : ℕ) (file : List ℕ) → length (lengthened len file) ≡ max (length file) len
length-lengthened len file =
    omega (arith, length-append file (replicate (len - length file) 0), length-replicate {A = ℕ} (len - length file) 0)

-- the length after a write
pub length-written : (at : ℕ) (byte : ℕ) (bytes file : List ℕ)
    → length (written at (byte ∷ bytes) file) ≡ max (length file) (at + length (byte ∷ bytes))
length-written at byte bytes file =
    let front : List ℕ = take at (lengthened at file) in
    let tail : List ℕ = drop (at + length (byte ∷ bytes)) file in
    let joined = length-append (front ++ (byte ∷ bytes)) tail in
    let fronts = length-append front (byte ∷ bytes) in
    let taken = length-take at (lengthened at file) in
    let whole = length-lengthened at file in
    let dropped = length-drop (at + length (byte ∷ bytes)) file in
    omega (arith, joined, fronts, taken, whole, dropped)

-- a write may leave the file as it was
pub torn_same : (at n : ℕ) (file : List ℕ) → Torn at n file file
torn_same at n file = record {
  before = take_min at file;
  after = refl;
  no_shorter = omega arith;
  no_longer = omega arith;
  nothing = λ none. refl;
}

-- a write may leave any part of its bytes
pub torn_part : (at n from : ℕ) (bytes file : List ℕ) → at ≤ from
    → from + length bytes ≤ at + n → Torn at n file (written from bytes file)
torn_part at n from [] file low high = torn_same at n file
torn_part at n from (byte ∷ bytes) file low high =
    let all : List ℕ = byte ∷ bytes in
    let front : List ℕ = take from (lengthened from file) in
    let tail : List ℕ = drop (from + length all) file in
    let long : length front ≡ from =
    omega (arith, length-take from (lengthened from file), length-lengthened from file) in
    let longer : length (front ++ all) ≡ from + length all = omega (arith, length-append front all, long) in
    let m : ℕ = min at (length file) in
    let len = length-written from byte bytes file in
    record {
      before =
          take-append-le m (front ++ all) tail (omega (arith, longer))
          ∙ take-append-le m front all (omega (arith, long))
          ∙ take-take m from (lengthened from file) (omega arith)
          ∙ take-append-le m file (replicate (from - length file) 0) (omega arith)
          ∙ take_min at file;
      after =
          let more : at + n ≡ from + length all + (at + n - (from + length all)) = omega (arith, high) in
          let rest : ℕ = at + n - (from + length all) in
          ap (λ (k : ℕ). drop k (front ++ all ++ tail)) more
          ∙ sym (drop-drop rest (from + length all) (front ++ all ++ tail))
          ∙ ap (λ (l : List ℕ). drop rest l) (drop_at (front ++ all) tail (from + length all) longer)
          ∙ drop-drop rest (from + length all) file
          ∙ ap (λ (k : ℕ). drop k file) (sym more);
      no_shorter = omega (arith, len);
      no_longer = omega (arith, len, high);
      nothing = λ none. absurd (omega (arith, high, low, none));
    }

-- a cut may leave any front between the two lengths
pub cut_front : (n m : ℕ) (file : List ℕ) → n ≤ m → CutTo n file (take m file)
cut_front n m file le = record {
  no_shorter = omega (arith, length-take m file);
  front = sym (take_min m file) ∙ ap (λ (k : ℕ). take k file) (sym (length-take m file));
}

-- a cut may leave the file as it was
pub cut_same : (n : ℕ) (file : List ℕ) → CutTo n file file
cut_same n file = record { no_shorter = omega arith; front = sym (take_all (length file) file (omega arith)) }
