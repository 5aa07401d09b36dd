-- Degrees that are written read as the rounded value, and canonical degrees that were read are written again.
use Rattle.std.proofs.Common.{◌≡◌, ℕ, zero, suc, ◌+◌, ◌-◌, ◌*◌, ◌/◌, ◌%◌, ◌^◌, ◌<◌, ◌≤◌, Bool, true, false, inl, inr, List, [], ◌∷◌, ◌++◌, length, get_or, Ok, ℤ, nat_abs, refl, sym, ap, subst, ◌∙◌, append_assoc, arith}
use Rattle.std.proofs.lemmas.Bool.Decides.{nat_tests}
use Rattle.std.proofs.lemmas.List.{length-append}
use Rattle.ascii_text.specs.declared.digits.Radix.TheVariants.{Ten}
use Rattle.ascii_text.specs.Blanks.{blanks, trimmed_end}
use Rattle.ascii_text.specs.Digits.{digits_text, decimals_text, decimals_width}
use Rattle.ascii_text.specs.DecimalNumbers.{NumberParts, IsSpelledNumber, number_spelling}
use Rattle.angle_fixed.specs.Angles.{circle, quarter, sign_byte, signed}
use Rattle.angle_fixed.specs.Degrees.{ReadsRaDegrees, ReadsDecDegrees, degree_units, twelve_decimals, twelfth_decimal, plain_digits, ra_steps, rounded_ra_degrees, ra_degrees_text, rounded_dec_degrees, dec_degrees_text}
use Rattle.angle_fixed.specs.Writing.{nearest, is_negative}
use Rattle.angle_fixed.proofs.Written.{nat_abs-signed}
use Rattle.ascii_text.specs.Laws.{TextLaws}

-- how many units of the twelfth decimal parts are
abbrev steps_of : NumberParts → ℕ
steps_of p = p.whole * 10 ^ 12 + p.value

units_twelve : (p : NumberParts) → p.count ≡ 12 → degree_units p ≡ steps_of p * twelfth_decimal
unfolding degree_units
units_twelve p twelve = rw twelve (omega arith)

made_same : (p : NumberParts) (digits steps : ℕ) → digits ≡ p.digits → p.count ≡ 12 → p.value < 10 ^ 12 → steps ≡ steps_of p → twelve_decimals digits steps ≡ p
made_same p digits steps same twelve below is =
    let whole : steps / 10 ^ 12 ≡ p.whole = omega arith in
    let value : steps % 10 ^ 12 ≡ p.value = omega arith in
    rw (whole, value, same, sym twelve) refl

-- ---- right ascensions

-- one to three digits hold a number below 1000
plain_spelled : (steps : ℕ) (text : List ℕ) → steps / 10 ^ 12 < 1000 → text ≡ number_spelling (twelve_decimals (plain_digits (steps / 10 ^ 12)) steps)
    → IsSpelledNumber 3 (twelve_decimals (plain_digits (steps / 10 ^ 12)) steps) text
plain_spelled steps text below is = record {
  some = grind (arith, nat_tests);
  within = grind (arith, nat_tests);
  whole = grind (arith, nat_tests);
  value = omega arith;
  text_is = is;
}

abbrev ra_digits : ℕ → ℕ
ra_digits units = plain_digits (ra_steps units / 10 ^ 12)

-- ---- declinations

-- What is written is read as the rounded declination.
pub dec_degrees_text_reads : (units : ℤ) → nat_abs units ≤ quarter → ReadsDecDegrees (dec_degrees_text units) (Ok (rounded_dec_degrees units))
unfolding dec_degrees_text rounded_dec_degrees
dec_degrees_text_reads units within =
    let steps : ℕ = nearest (nat_abs units) twelfth_decimal in
    let p : NumberParts = twelve_decimals 2 steps in
    let value : degree_units p ≡ steps * twelfth_decimal = units_twelve p refl ∙ omega arith in
    ((is_negative units, p), inl (number_spelling p, refl, record { some = omega arith; within = omega arith; whole = omega arith; value = omega arith; text_is = refl }), omega arith, omega arith, ap (λ (n : ℕ). signed (is_negative units) n) (sym value))

sign_byte_injective : (b c : Bool) → sign_byte b ≡ sign_byte c → b ≡ c
sign_byte_injective false false e = refl
sign_byte_injective true true e = refl
sign_byte_injective false true e = absurd (omega (arith, e))
sign_byte_injective true false e = absurd (omega (arith, e))

width_most : (count : ℕ) → decimals_width count ≤ count + 1
width_most count = grind (arith, nat_tests)

dec_text_of : (minus : Bool) (p : NumberParts) (units : ℤ) (rest : List ℕ) → IsSpelledNumber 2 p rest → p.digits ≡ 2 → p.count ≡ 12 → units ≡ signed minus (degree_units p) → minus ≡ is_negative units
    → dec_degrees_text units ≡ sign_byte minus ∷ rest
unfolding dec_degrees_text
dec_text_of minus p units rest spelled digits twelve is sign =
    let below : p.value < 10 ^ 12 = rw twelve at spelled.value in
    let size : nat_abs units ≡ steps_of p * twelfth_decimal = ap nat_abs is ∙ nat_abs-signed minus (degree_units p) ∙ units_twelve p twelve in
    let steps : nearest (nat_abs units) twelfth_decimal ≡ steps_of p = omega arith in
    rw (← sign, made_same p 2 (nearest (nat_abs units) twelfth_decimal) (sym digits) twelve below steps, ← spelled.text_is) refl

module _ (texts : TextLaws) where
  open texts use {length-digits_text, length-decimals_text, trimmed_end-blanks, trimmed_end-other}

  -- nothing is taken away from a text that ends in a digit
  trimmed_end-digits : (front : List ℕ) (count n : ℕ) → trimmed_end (front ++ digits_text Ten (suc count) n) ≡ front ++ digits_text Ten (suc count) n
  unfolding digits_text
  trimmed_end-digits front zero n = trimmed_end-other front (48 + n / 10 ^ zero) (λ e. omega (arith, e))
  trimmed_end-digits front (suc count) n =
      let first : List ℕ = (48 + n / 10 ^ suc count) ∷ [] in
      subst (λ (t : List ℕ). trimmed_end t ≡ t) (append_assoc front first (digits_text Ten (suc count) (n % 10 ^ suc count))) (trimmed_end-digits (front ++ first) count (n % 10 ^ suc count))

  -- ---- the value of twelve decimals

  length-number_spelling : (p : NumberParts) → length (number_spelling p) ≡ p.digits + decimals_width p.count
  unfolding number_spelling
  length-number_spelling p = omega (arith, length-append {A = ℕ}, length-digits_text Ten p.digits p.whole, length-decimals_text p.count p.value)

  ra_trimmed : (units : ℕ) → trimmed_end (ra_degrees_text units) ≡ number_spelling (twelve_decimals (ra_digits units) (ra_steps units))
  unfolding ra_degrees_text number_spelling decimals_text
  ra_trimmed units =
      let whole : List ℕ = digits_text Ten (ra_digits units) (ra_steps units / 10 ^ 12) in
      let decimals : List ℕ = digits_text Ten 12 (ra_steps units % 10 ^ 12) in
      trimmed_end-blanks (whole ++ 46 ∷ decimals) (3 - ra_digits units)
      ∙ subst (λ (t : List ℕ). trimmed_end t ≡ t) (append_assoc whole (46 ∷ []) decimals) (trimmed_end-digits (whole ++ 46 ∷ []) 11 (ra_steps units % 10 ^ 12))

  -- What is written, without the blanks on its right, is read as the rounded right ascension.
  pub ra_degrees_text_reads : (units : ℕ) → ReadsRaDegrees (trimmed_end (ra_degrees_text units)) (Ok (rounded_ra_degrees units))
  unfolding rounded_ra_degrees
  ra_degrees_text_reads units =
      let steps : ℕ = ra_steps units in
      let value : degree_units (twelve_decimals (ra_digits units) steps) ≡ steps * twelfth_decimal = units_twelve (twelve_decimals (ra_digits units) steps) refl ∙ omega arith in (
        twelve_decimals (ra_digits units) steps,
        plain_spelled steps (trimmed_end (ra_degrees_text units)) (omega arith) (ra_trimmed units),
        omega arith,
        omega arith,
        omega (arith, value),
      )

  -- What is spelled with twelve decimals and no leading zeros is written again.
  pub ra_degrees_text_again : (p : NumberParts) (text : List ℕ) (units : ℕ) → IsSpelledNumber 3 p text → p.count ≡ 12 → p.digits ≡ plain_digits p.whole → degree_units p ≡ units → units < circle
      → ra_degrees_text units ≡ text ++ blanks (16 - length text)
  unfolding ra_degrees_text
  ra_degrees_text_again p text units spelled twelve plain value within =
      let below : p.value < 10 ^ 12 = rw twelve at spelled.value in
      let sum : steps_of p * twelfth_decimal ≡ units = sym (units_twelve p twelve) ∙ value in
      let steps : ra_steps units ≡ steps_of p = omega arith in
      let whole : ra_steps units / 10 ^ 12 ≡ p.whole = omega arith in
      let digits : ra_digits units ≡ p.digits = ap plain_digits whole ∙ sym plain in
      let wide : 3 - ra_digits units ≡ 16 - length text = omega (arith, digits, ap length spelled.text_is, length-number_spelling p, ap decimals_width twelve) in
      rw (made_same p (ra_digits units) (ra_steps units) digits twelve below steps, ← spelled.text_is, wide) refl

  -- What is spelled in sixteen bytes, with the sign of its value, is written again: it has a sign, two digits and
  -- twelve decimals.
  pub dec_degrees_text_again : (units : ℤ) (text : List ℕ) → length text ≡ 16 → get_or text 0 0 ≡ sign_byte (is_negative units) → ReadsDecDegrees text (Ok units) → dec_degrees_text units ≡ text
  dec_degrees_text_again units text wide first right =
      let p : Bool × NumberParts = right.0 in
      let size = length-number_spelling p.1 in
      let most = width_most p.1.count in
      let few : p.1.count ≤ 12 = right.2 in
      elim right.1 [
        | inl behind ↦
            let sum : p.1.digits + decimals_width p.1.count ≡ 15 = omega (arith, size, wide, ap length behind.1, ap length behind.2.text_is) in
            let two : p.1.digits ≡ 2 = omega (arith, sum, few, most, behind.2.within) in
            let sign : p.0 ≡ is_negative units = sign_byte_injective p.0 (is_negative units) (sym (ap (λ (t : List ℕ). get_or t 0 0) behind.1) ∙ first) in
            dec_text_of p.0 p.1 units behind.0 behind.2 two (omega (arith, sum, few, most, two)) right.4 sign ∙ sym behind.1
        | inr plain ↦ absurd (omega (arith, size, wide, few, most, ap length plain.1.text_is, plain.1.within))
      ]
