-- Digits, letters and orders, of which names are made, stand for numbers and back.
use Rattle.std.proofs.Common.{◌≡◌, ℕ, ◌^◌, ◌<◌, List, [], ◌∷◌, ◌++◌, Some, refl, sym, ap, ◌∙◌, arith, ◌≤◌, true, ltb}
use Rattle.std.proofs.lemmas.List.{append-nil}
use Rattle.ascii_text.specs.declared.digits.Radix.{Radix}
use Rattle.ascii_text.specs.declared.digits.Radix.TheVariants.{Ten, SixtyTwo}
use Rattle.ascii_text.specs.Digits.{base, digit_byte, digits_text}
use Rattle.ascii_text.specs.Reading.{digits_at}
use Rattle.std.proofs.lemmas.Bool.{ltb-true}
use Rattle.std.proofs.lemmas.Bool.Decides.{nat_tests}
use Rattle.packed_names.specs.Letters.{letter_of, index_of, letter_at}
use Rattle.packed_names.proofs.Chains.{each, tested}
use Rattle.packed_names.specs.Orders.{letter_index, cycle_of, order_of}
use Rattle.ascii_text.specs.Laws.{TextLaws}

-- ---- digits

digits_text-one : (radix : Radix) (digit : ℕ) → digits_text radix 1 digit ≡ digit_byte radix digit ∷ []
unfolding digits_text
digits_text-one Ten digit = grind arith
digits_text-one SixtyTwo digit = grind arith

base-power_one : (radix : Radix) → base radix ^ 1 ≡ base radix
base-power_one Ten = refl
base-power_one SixtyTwo = refl

module _ (texts : TextLaws) where
  open texts use {digits_again, digits_takes}

  -- a whole text of digits
  pub digits_again_whole : (radix : Radix) (count n : ℕ) → n < base radix ^ count → digits_at radix count (digits_text radix count n) ≡ Some (n, [])
  digits_again_whole radix count n below = ap (digits_at radix count) (sym (append-nil (digits_text radix count n))) ∙ digits_again radix count n [] below

  -- one digit
  pub digit_again : (radix : Radix) (digit : ℕ) (rest : List ℕ) → digit < base radix → digits_at radix 1 (digit_byte radix digit ∷ rest) ≡ Some (digit, rest)
  digit_again radix digit rest below =
      let text : digits_text radix 1 digit ++ rest ≡ digit_byte radix digit ∷ rest = ap (λ (front : List ℕ). front ++ rest) (digits_text-one radix digit) in
      ap (digits_at radix 1) (sym text) ∙ digits_again radix 1 digit rest (omega (arith, base-power_one radix))

  pub digit_takes : (radix : Radix) (text : List ℕ) (x : ℕ × List ℕ) → digits_at radix 1 text ≡ Some x → (text ≡ digit_byte radix x.0 ∷ x.1) × (x.0 < base radix)
  digit_takes radix text x read =
      let took = digits_takes radix 1 text x.0 x.1 read in
      (took.0 ∙ ap (λ (front : List ℕ). front ++ x.1) (digits_text-one radix x.0), omega (arith, took.1, base-power_one radix))

-- ---- letters

pub index_of-letter_of : (index : ℕ) → index < 25 → index_of (letter_of index) ≡ Some index
unfolding index_of
index_of-letter_of index below = grind (arith, nat_tests)

pub letter_of-index_of : (letter index : ℕ) → index_of letter ≡ Some index → letter_of index ≡ letter
unfolding index_of
letter_of-index_of letter index read = grind (arith, nat_tests)

pub letter_at-letter_of : (count index : ℕ) (rest : List ℕ) → index < count → count ≤ 25 → letter_at count (letter_of index ∷ rest) ≡ Some (index, rest)
unfolding letter_at
letter_at-letter_of count index rest below few =
    let read : index_of (letter_of index) ≡ Some index = index_of-letter_of index (omega arith) in
    let within : ltb index count ≡ true = grind (arith, nat_tests) in
    rw (read, within) refl

-- what a letter was read from
pub letter_at_takes : (count : ℕ) (text : List ℕ) (x : ℕ × List ℕ) → letter_at count text ≡ Some x → (text ≡ letter_of x.0 ∷ x.1) × (x.0 < count)
unfolding letter_at
letter_at_takes count [] x read = absurd cc
letter_at_takes count (letter ∷ text) x read =
    each (index_of letter) _ (λ (y : ℕ × List ℕ). (letter ∷ text ≡ letter_of y.0 ∷ y.1) × (y.0 < count)) (λ index a. tested (ltb index count) (index, text) _ (λ b.
    (ap (λ (l : ℕ). l ∷ text) (sym (letter_of-index_of letter index a)), ltb-true _ _ b))) x read

-- ---- orders

pub letter_index-order_of : (cycle letter : ℕ) → letter < 25 → letter_index (order_of cycle letter) ≡ letter
letter_index-order_of cycle letter below = omega arith

pub cycle_of-order_of : (cycle letter : ℕ) → letter < 25 → cycle_of (order_of cycle letter) ≡ cycle
cycle_of-order_of cycle letter below = omega arith

pub order_of-cycle_of : (order : ℕ) → 1 ≤ order → order_of (cycle_of order) (letter_index order) ≡ order
order_of-cycle_of order positive = omega arith

pub letter_index-lt : (order : ℕ) → letter_index order < 25
letter_index-lt order = omega arith
