-- Two texts of twelve bytes are the same where their first eight and their last four are, read as numbers.
use Rattle.std.proofs.Common.{◌≡◌, ℕ, zero, suc, ◌+◌, ◌*◌, ◌%◌, ◌^◌, ◌<◌, List, [], ◌∷◌, ◌++◌, length, take, drop, rules, refl, ap, sym, subst, ◌∙◌, arith}
use Rattle.std.specs.Prelude.{◌==◌, get_or}
use Rattle.std.specs.Str.{bytes_eq}
use Rattle.std.specs.Simd.Lanes.{number_l}
use Rattle.std.specs.Cmp.Lexicographic.{bytes_decides}
use Rattle.std.proofs.lemmas.Bool.Decides.{Decides-eqb, same_from_decides}
use Rattle.std.proofs.lemmas.List.{take-append-drop, get_or-drop}

abbrev AreBytes : List ℕ → Type 0
AreBytes text = (i : ℕ) → get_or text i 0 < 256

take_bytes : (n : ℕ) (text : List ℕ) → AreBytes text → AreBytes (take n text)
take_bytes zero text bytes i = omega arith
take_bytes (suc n) [] bytes i = omega arith
take_bytes (suc n) (x ∷ xs) bytes zero = bytes 0
take_bytes (suc n) (x ∷ xs) bytes (suc i) = take_bytes n xs (λ j. bytes (suc j)) i

drop_bytes : (n : ℕ) (text : List ℕ) → AreBytes text → AreBytes (drop n text)
drop_bytes n text bytes i = subst (λ (x : ℕ). x < 256) (sym (get_or-drop n text i 0)) (bytes (n + i))

-- bytes are told by their number
same_number : (xs ys : List ℕ) → length xs ≡ length ys → AreBytes xs → AreBytes ys → number_l 256 xs ≡ number_l 256 ys → xs ≡ ys
same_number [] [] long first other same = refl
same_number [] (y ∷ ys) long first other same = absurd (omega (arith, long))
same_number (x ∷ xs) [] long first other same = absurd (omega (arith, long))
same_number (x ∷ xs) (y ∷ ys) long first other same =
    let low : x < 256 = first 0 in
    let other_low : y < 256 = other 0 in
    let sum : x + 256 * number_l 256 xs ≡ y + 256 * number_l 256 ys = same in
    let here : x ≡ y = omega (arith, low, other_low, sum) in
    let rest : number_l 256 xs ≡ number_l 256 ys = omega (arith, low, other_low, sum) in
    ap (λ (z : ℕ). z ∷ xs) here ∙ ap (λ (zs : List ℕ). y ∷ zs) (same_number xs ys (omega (arith, long)) (λ i. first (suc i)) (λ i. other (suc i)) rest)

-- how many numbers this many bytes have
abbrev bound : ℕ → ℕ
bound zero = 1
bound (suc n) = 256 * bound n

below_bound : (xs : List ℕ) → AreBytes xs → number_l 256 xs < bound (length xs)
below_bound [] bytes = omega arith
below_bound (x ∷ xs) bytes =
    let low : x < 256 = bytes 0 in
    let rest : number_l 256 xs < bound (length xs) = below_bound xs (λ i. bytes (suc i)) in
    omega (arith, low, rest)

whole : (xs : List ℕ) → length xs ≡ 8 → AreBytes xs → number_l 256 xs % 2 ^ 64 ≡ number_l 256 xs
whole xs long bytes =
    let below : number_l 256 xs < bound 8 = subst (λ (n : ℕ). number_l 256 xs < bound n) long (below_bound xs bytes) in
    omega (arith, below)

module _ (a b : List ℕ) (first : AreBytes a × (length a ≡ 12)) (other : AreBytes b × (length b ≡ 12)) where
  same_front : number_l 256 (take 8 a) % 2 ^ 64 ≡ number_l 256 (take 8 b) % 2 ^ 64 → take 8 a ≡ take 8 b
  same_front same =
      same_number (take 8 a) (take 8 b) (search rules) (take_bytes 8 a first.0) (take_bytes 8 b other.0)
      (sym (whole (take 8 a) (search rules) (take_bytes 8 a first.0)) ∙ same ∙ whole (take 8 b) (search rules) (take_bytes 8 b other.0))

  same_back : number_l 256 (drop 8 a) ≡ number_l 256 (drop 8 b) → drop 8 a ≡ drop 8 b
  same_back same = same_number (drop 8 a) (drop 8 b) (search rules) (drop_bytes 8 a first.0) (drop_bytes 8 b other.0) same

  pub same_by_words : (x y : ℕ) → number_l 256 (take 8 a) % 2 ^ 64 ≡ number_l 256 (take 8 b) % 2 ^ 64 → x ≡ number_l 256 (drop 8 a) → y ≡ number_l 256 (drop 8 b) → (x == y) ≡ bytes_eq a b
  same_by_words x y fronts x_is y_is =
      same_from_decides (x == y) (bytes_eq a b) (
        λ is. sym (take-append-drop 8 a) ∙ ap (λ (xs : List ℕ). xs ++ drop 8 a) (same_front fronts) ∙ ap (λ (xs : List ℕ). take 8 b ++ xs) (same_back (sym x_is ∙ (Decides-eqb x y).0 is ∙ y_is)) ∙ take-append-drop 8 b,
        λ is. (Decides-eqb x y).1 (x_is ∙ ap (λ (xs : List ℕ). number_l 256 (drop 8 xs)) is ∙ sym y_is),
      ) (bytes_decides a b)
