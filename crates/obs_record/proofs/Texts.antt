-- How a short text is kept.
use Rattle.std.proofs.Common.{◌≤◌, refl, ◌≡◌, ℕ, ◌-◌, min, List, ◌++◌, length, take, drop, replicate, ap, ◌∙◌, arith}
use Rattle.std.proofs.lemmas.List.{take_all, take_min, drop-replicate, take_at, length-take, length-append, length-replicate}
use Rattle.obs_record.specs.Short.{IsShort, kept_short}

-- the first bytes of the text, with the zeros that stood in the array after them
pub kept_from : (text bytes : List ℕ) (n : ℕ) → n ≡ min (length text) 12 → bytes ≡ take n text
    → record { len = n; bytes = bytes ++ drop n (replicate 12 0) } ≡ kept_short text
unfolding kept_short
kept_from text bytes n len front =
    let swapped : n ≡ min 12 (length text) = omega arith in
    let text_is : bytes ≡ take 12 text = front ∙ ap (λ (k : ℕ). take k text) swapped ∙ take_min 12 text in
    let left : 12 - n ≡ 12 - length text = omega arith in
    let zeros : drop n (replicate {A = ℕ} 12 0) ≡ replicate {A = ℕ} (12 - length text) 0 = drop-replicate {X = ℕ} n 12 0 ∙ ap (λ (k : ℕ). replicate {A = ℕ} k 0) left in
    cc

-- what is kept is a short text
pub kept_is_short : (text : List ℕ) → IsShort (kept_short text)
unfolding kept_short
kept_is_short text =
    let front : length (take 12 text) ≡ min (length text) 12 = omega (arith, length-take 12 text) in
    let left : 12 - length text ≡ 12 - min (length text) 12 = omega arith in
    let zeros : List ℕ = replicate {A = ℕ} (12 - length text) 0 in
    let cut : take (min (length text) 12) (take 12 text ++ zeros) ≡ take 12 text = take_at (take 12 text) zeros (min (length text) 12) front in
    record {
      room = omega (arith, length-append (take 12 text) zeros, length-replicate {A = ℕ} (12 - length text) 0, length-take 12 text);
      within = omega arith;
      zeros = rw (cut, ← left) refl;
    }

-- a text that fits is kept whole
pub kept_again : (text : List ℕ) (n : ℕ) → length text ≡ n → n ≤ 12 → take n (kept_short text).bytes ≡ text
unfolding kept_short
kept_again text n long fits =
    let whole : take 12 text ≡ text = take_all 12 text (omega arith) in
    let zeros : List ℕ = replicate {A = ℕ} (12 - length text) 0 in
    rw whole (take_at text zeros n long)
