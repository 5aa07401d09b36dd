-- A text that is kept in an array, with zeros after it.
use Rattle.std.proofs.Common.{◌≡◌, ℕ, ◌-◌, min, List, ◌++◌, length, take, drop, replicate, ap, ◌∙◌, arith}
use Rattle.std.proofs.lemmas.List.{take_min, drop-replicate}
use Rattle.act_bodies.specs.Keys.{key_of}

-- what is copied to the front of the array, and the zeros after it
pub padded : (size n : ℕ) (text front : List ℕ) → n ≡ min (length text) size → front ≡ take n text
    → front ++ drop n (replicate size 0) ≡ take size text ++ replicate (size - length text) 0
padded size n text front count copied =
    let swapped : n ≡ min size (length text) = omega arith in
    let text_is : front ≡ take size text = copied ∙ ap (λ (k : ℕ). take k text) swapped ∙ take_min size text in
    let left : size - n ≡ size - length text = omega arith in
    let zeros : drop n (replicate {A = ℕ} size 0) ≡ replicate {A = ℕ} (size - length text) 0 = drop-replicate {X = ℕ} n size 0 ∙ ap (λ (k : ℕ). replicate {A = ℕ} k 0) left in
    cc

pub key-from_copy : (text front : List ℕ) (n : ℕ) → n ≡ min (length text) 34 → front ≡ take n text
    → record { len = n; bytes = front ++ drop n (replicate 34 0) } ≡ key_of text
key-from_copy text front n count copied =
    let bytes = padded 34 n text front count copied in
    cc
