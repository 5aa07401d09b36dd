-- Numbers with a fixed number of digits: what is written is read, and what is read is written; also digit by digit, as
-- a loop does.
use Rattle.std.proofs.Common.{◌≡◌, ℕ, zero, suc, ◌+◌, ◌-◌, ◌*◌, ◌/◌, ◌%◌, ◌^◌, ◌<◌, ◌≤◌, List, [], ◌∷◌, ◌++◌, length, append_assoc, Some, lit<, refl, ap, subst, ◌∙◌, inl, inr, arith}
use Rattle.std.proofs.Math.Dec.{eqb-suc-zero}
use Rattle.std.proofs.Math.Nat.{pow-zero, pow-suc, mul_comm, div-lt_iff_lt-mul, one-le-pow, pow-le-pow_right}
use Rattle.std.proofs.lemmas.Bool.{cases_lt}
use Rattle.std.proofs.lemmas.Bool.Decides.{nat_tests}
use Rattle.std.proofs.lemmas.Grind.{pow_more}
use Rattle.std.proofs.lemmas.Option.{same_Some}
use Rattle.std.proofs.lemmas.Nat.{mul-add-lt, div-mul-add, mod-mul-add, mod_below, div-add-mod'}
use Rattle.ascii_text.specs.declared.digits.Radix.{Radix}
use Rattle.ascii_text.specs.declared.digits.Radix.TheVariants.{Ten, SixtyTwo}
use Rattle.ascii_text.specs.Digits.{base, digit_byte, digits_text, decimals_text, decimals_width}
use Rattle.ascii_text.specs.Reading.{bind_some, digit_value, sixty_two_value, digit_at, more_digits, digits_at}

-- ---- digit by digit

-- the digit at the front is read first
pub more_digits-first : (radix : Radix) (value digit more : ℕ) (text after : List ℕ) → Some (digit, after) ≡ digit_at radix text
    → more_digits radix (value * base radix + digit) more after ≡ more_digits radix value (suc more) text
unfolding more_digits
more_digits-first radix value digit more text after is = rw (← is) refl

wide_base : (radix : Radix) → 2 ^ 63 < base radix ^ 64
wide_base Ten = lit< tt
wide_base SixtyTwo = lit< tt

pub base_positive : (radix : Radix) → zero < base radix
base_positive Ten = omega arith
base_positive SixtyTwo = omega arith

-- one digit more
pub digits_below : (radix : Radix) (value counter digit : ℕ) → value < base radix ^ counter → digit < base radix → value * base radix + digit < base radix ^ (counter + 1)
digits_below radix value counter digit below one =
    omega (arith, pow_more (base radix) counter, mul_comm (base radix ^ counter) (base radix), mul-add-lt value (base radix) digit (base radix ^ counter) below one)

-- fewer digits make a smaller number
pub power_within : (radix : Radix) (counter count : ℕ) → counter ≤ count → base radix ^ counter ≤ base radix ^ count
power_within radix counter count le = pow-le-pow_right (base_positive radix) le

-- one digit more of a number whose digits fit a u64 fits it too
pub digits_fit : (radix : Radix) (value counter count digit : ℕ) → counter < count → base radix ^ count ≤ 2 ^ 63 → value < base radix ^ counter → digit < base radix → value * base radix + digit < 2 ^ 63
digits_fit radix value counter count digit more fits below one =
    omega (arith, digits_below radix value counter digit below one, power_within radix (counter + 1) count (omega arith))

-- eighteen digits fit a u64, also as a signed number
pub ten_power : (count : ℕ) → count ≤ 18 → 10 ^ count ≤ 2 ^ 63
ten_power count le = omega (arith, power_within Ten count 18 le)

-- a number of digits whose numbers fit a u64 is small
pub few_digits : (radix : Radix) (count : ℕ) → base radix ^ count ≤ 2 ^ 63 → count < 64
few_digits radix count fits = elim (cases_lt count 64) [
  | inl small ↦ small
  | inr large ↦ absurd (omega (arith, power_within radix 64 count large, wide_base radix))
]

-- one digit written, the others left
pub digits_text_more : (radix : Radix) (place left : ℕ) (front : List ℕ) → 0 < place
    → (front ++ digit_byte radix (left / base radix ^ (place - 1)) ∷ []) ++ digits_text radix (place - 1) (left % base radix ^ (place - 1)) ≡ front ++ digits_text radix place left
unfolding digits_text
digits_text_more radix zero left front more = absurd (omega arith)
digits_text_more radix (suc place) left front more =
    let k : suc place - 1 ≡ place = omega arith in rw (k, append_assoc) refl

pub power_positive : (radix : Radix) (count : ℕ) → 0 < base radix ^ count
power_positive radix count = omega (arith, one-le-pow count (base radix) (base_positive radix))

-- ---- one digit

place_sum : (value base unit d n whole : ℕ) → whole ≡ unit * base → (value * base + d) * unit + n ≡ value * whole + (d * unit + n)
place_sum value base unit d n whole is = rw is (omega arith)

pub digit_value-digit_byte : (radix : Radix) (d : ℕ) → d < base radix → digit_value radix (digit_byte radix d) ≡ Some d
unfolding digit_value sixty_two_value
digit_value-digit_byte Ten d below = grind (arith, nat_tests)
digit_value-digit_byte SixtyTwo d below = grind (arith, nat_tests)

pub digit_byte_of : (radix : Radix) (byte d : ℕ) → digit_value radix byte ≡ Some d → (byte ≡ digit_byte radix d) × (d < base radix)
unfolding digit_value sixty_two_value
digit_byte_of Ten byte d e = grind (arith, nat_tests)
digit_byte_of SixtyTwo byte d e = grind (arith, nat_tests)

pub digit_at-cons : (radix : Radix) (d : ℕ) (text : List ℕ) → d < base radix → digit_at radix (digit_byte radix d ∷ text) ≡ Some (d, text)
unfolding digit_at
digit_at-cons radix d text below = rw digit_value-digit_byte refl

pub digit_at_takes : (radix : Radix) (text : List ℕ) (x : ℕ × List ℕ) → digit_at radix text ≡ Some x → (text ≡ digit_byte radix x.0 ∷ x.1) × (x.0 < base radix)
unfolding digit_at
digit_at_takes radix [] x e = absurd cc
digit_at_takes radix (byte ∷ text) x e =
    let d = bind_some (digit_value radix byte) (λ digit. Some (digit, text)) x e in
    let is = digit_byte_of radix byte d.0 d.1 in
    subst (λ (y : ℕ × List ℕ). (byte ∷ text ≡ digit_byte radix y.0 ∷ y.1) × (y.0 < base radix)) (same_Some (d.0, text) x d.2) (ap (λ (b : ℕ). b ∷ text) is.0, is.1)

-- ---- a number of digits

pub more_digits-digits_text : (radix : Radix) (count value n : ℕ) (rest : List ℕ) → n < base radix ^ count
    → more_digits radix value count (digits_text radix count n ++ rest) ≡ Some (value * base radix ^ count + n, rest)
unfolding more_digits digits_text
more_digits-digits_text radix zero value n rest below =
    let none : n ≡ 0 = omega (arith, below, pow-zero (base radix)) in
    ap (λ (v : ℕ). Some (v, rest)) (rw (pow-zero, none) (omega arith))
more_digits-digits_text radix (suc count) value n rest below =
    let unit : zero < base radix ^ count = power_positive radix count in
    let first : n / base radix ^ count < base radix = (div-lt_iff_lt-mul unit).1 (omega (arith, below, pow-suc (base radix) count, mul_comm (base radix) (base radix ^ count))) in
    rw (digit_at-cons radix (n / base radix ^ count) (digits_text radix count (n % base radix ^ count) ++ rest) first)
    (more_digits-digits_text radix count (value * base radix + n / base radix ^ count) (n % base radix ^ count) rest (mod_below n _ unit)
    ∙ ap (λ (v : ℕ). Some (v, rest)) (place_sum value (base radix) (base radix ^ count) (n / base radix ^ count) (n % base radix ^ count) (base radix ^ suc count) (pow-suc (base radix) count) ∙ ap (λ (k : ℕ). value * base radix ^ suc count + k) (div-add-mod' n (base radix ^ count))))

-- what digits after others spell
record Spelled (radix : Radix) (value count : ℕ) (text : List ℕ) (x : ℕ × List ℕ) (n : ℕ) : Type 0 where
  pub below : n < base radix ^ count
  pub whole : x.0 ≡ value * base radix ^ count + n
  pub text_is : text ≡ digits_text radix count n ++ x.1

more_digits_take : (radix : Radix) (count value : ℕ) (text : List ℕ) (x : ℕ × List ℕ) → more_digits radix value count text ≡ Some x
    → (n : ℕ) × Spelled radix value count text x n
unfolding more_digits digits_text
more_digits_take radix zero value text x e =
    (0, record { below = rw pow-zero (omega arith); whole = rw pow-zero (omega (arith, ap (λ (p : ℕ × List ℕ). p.0) (same_Some (value, text) x e))); text_is = ap (λ (p : ℕ × List ℕ). p.1) (same_Some (value, text) x e) })
more_digits_take radix (suc count) value text x e =
    let first = bind_some (digit_at radix text) (λ first. more_digits radix (value * base radix + first.0) count first.1) x e in
    let taken = digit_at_takes radix text first.0 first.1 in
    let others = more_digits_take radix count (value * base radix + first.0.0) first.0.1 x first.2 in
    let unit : base radix ^ suc count ≡ base radix ^ count * base radix = pow-suc (base radix) count in
    let d : (first.0.0 * base radix ^ count + others.0) / base radix ^ count ≡ first.0.0 = div-mul-add first.0.0 (base radix ^ count) others.0 others.1.below in
    let m : (first.0.0 * base radix ^ count + others.0) % base radix ^ count ≡ others.0 = mod-mul-add first.0.0 (base radix ^ count) others.0 others.1.below in (
      first.0.0 * base radix ^ count + others.0,
      record {
        below = omega (arith, unit, mul-add-lt first.0.0 (base radix ^ count) others.0 (base radix) taken.1 others.1.below);
        whole = others.1.whole ∙ place_sum value (base radix) (base radix ^ count) first.0.0 others.0 (base radix ^ suc count) unit;
        text_is = rw (d, m) (taken.0 ∙ ap (λ (t : List ℕ). digit_byte radix first.0.0 ∷ t) others.1.text_is);
      },
    )

-- What is written with this many digits is read, whatever follows.
pub digits_again : (radix : Radix) (count n : ℕ) (rest : List ℕ) → n < base radix ^ count → digits_at radix count (digits_text radix count n ++ rest) ≡ Some (n, rest)
unfolding digits_at
digits_again radix count n rest below =
    more_digits-digits_text radix count 0 n rest below ∙ ap (λ (v : ℕ). Some (v, rest)) (omega arith)

-- What is read is written so.
pub digits_takes : (radix : Radix) (count : ℕ) (text : List ℕ) (n : ℕ) (rest : List ℕ) → digits_at radix count text ≡ Some (n, rest)
    → (text ≡ digits_text radix count n ++ rest) × (n < base radix ^ count)
unfolding digits_at
digits_takes radix count text n rest e =
    let spelled = more_digits_take radix count 0 text (n, rest) e in
    let same : spelled.0 ≡ n = omega (arith, spelled.1.whole) in
    (spelled.1.text_is ∙ ap (λ (k : ℕ). digits_text radix count k ++ rest) same, omega (arith, spelled.1.below, same))

pub length-digits_text : (radix : Radix) (count n : ℕ) → length (digits_text radix count n) ≡ count
unfolding digits_text
length-digits_text radix zero n = refl
length-digits_text radix (suc count) n = ap suc (length-digits_text radix count (n % base radix ^ count))

pub length-decimals_text : (count value : ℕ) → length (decimals_text count value) ≡ decimals_width count
unfolding decimals_text
length-decimals_text zero value = refl
length-decimals_text (suc count) value = rw eqb-suc-zero (omega (arith, length-digits_text Ten (suc count) value))

pub ruleset digit_laws = (digits_again, digits_takes, length-digits_text, length-decimals_text)
