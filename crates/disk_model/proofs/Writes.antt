-- What the steps of a write make of a file.
use Rattle.std.proofs.Common.{◌≡◌, ℕ, ◌+◌, ◌-◌, ◌<◌, ◌≤◌, ◌⊎◌, inl, inr, max, List, [], ◌∷◌, ◌++◌, length, take, drop, replicate, sym, ◌∙◌, ap, arith, append_assoc, append-nil, length-append, length-drop, length-take}
use Rattle.std.proofs.lemmas.List.{take-append-le, take_all, drop_all, replicate-append-replicate}
use Rattle.std.proofs.lemmas.Bool.{cases_lt}
use Rattle.disk_model.specs.Files.{lengthened, written}
use Rattle.disk_model.specs.FileLaws.{length-lengthened}

-- more zeros change nothing before them
take_lengthened : (at len : ℕ) (file : List ℕ) → at ≤ len → take at (lengthened len file) ≡ take at (lengthened at file)
take_lengthened at len file le =
    let few : ℕ = at - length file in
    let more : ℕ = len - length file - few in
    let sum : len - length file ≡ few + more = omega arith in
    let zeros : replicate (len - length file) 0 ≡ replicate few 0 ++ replicate more 0 =
    ap (λ (k : ℕ). replicate k 0) sum ∙ sym (replicate-append-replicate few more 0) in
    let parts : lengthened len file ≡ lengthened at file ++ replicate more 0 =
    ap (λ (l : List ℕ). file ++ l) zeros ∙ sym (append_assoc file (replicate few 0) (replicate more 0)) in
    ap (λ (l : List ℕ). take at l) parts
    ∙ take-append-le at (lengthened at file) (replicate more 0) (omega (arith, length-lengthened at file))

-- and nothing after them
drop_lengthened : (len : ℕ) (file : List ℕ) → drop len (lengthened len file) ≡ drop len file
drop_lengthened len file = elim (cases_lt len (length file)) as (λ (w : (len < length file) ⊎ (length file ≤ len)). drop len (lengthened len file) ≡ drop len file) [
  | inl inside ↦
      let none : len - length file ≡ 0 = omega (arith, inside) in
      ap (λ (k : ℕ). drop len (file ++ replicate k 0)) none ∙ ap (λ (l : List ℕ). drop len l) (append-nil file)
  | inr past ↦ drop_all len (lengthened len file) (omega (arith, past, length-lengthened len file)) ∙ sym (drop_all len file past)
]

-- bytes put in the place of others, in a file that was lengthened for them
pub over_lengthened : (at : ℕ) (bytes file long new : List ℕ) (len : ℕ) → 0 < length bytes → long ≡ lengthened (at + length bytes) file → len ≡ length long
    → new ≡ take at long ++ bytes ++ drop (at + length bytes) long → take len (new ++ drop (length new) long) ≡ written at bytes file
over_lengthened at [] file long new len some is counts put = absurd (omega arith)
over_lengthened at (byte ∷ bytes) file long new len some is counts put =
    let all : List ℕ = byte ∷ bytes in
    let end : ℕ = at + length all in
    let size : length long ≡ max (length file) end = ap length is ∙ length-lengthened end file in
    let same : length new ≡ length long =
    ap length put ∙ omega (arith, size, length-append (take at long ++ all) (drop end long), length-append (take at long) all, length-take at long, length-drop end long) in
    ap (λ (l : List ℕ). take len (new ++ l)) (drop_all (length new) long (omega (arith, same)))
    ∙ ap (λ (l : List ℕ). take len l) (append-nil new)
    ∙ take_all len new (omega (arith, same, counts))
    ∙ put
    ∙ ap (λ (l : List ℕ). take at l ++ all ++ drop end l) is
    ∙ ap (λ (l : List ℕ). l ++ all ++ drop end (lengthened end file)) (take_lengthened at end file (omega arith))
    ∙ ap (λ (l : List ℕ). take at (lengthened at file) ++ all ++ l) (drop_lengthened end file)
