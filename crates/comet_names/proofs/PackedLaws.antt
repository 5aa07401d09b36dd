-- The reader of packed comets takes what is spelled, and nothing else.
use Rattle.std.proofs.Common.{◌≡◌, ℕ, ◌+◌, ◌/◌, ◌%◌, ◌≤◌, List, [], ◌∷◌, ◌++◌, get_or, Some, Result, ◌↔◌, refl, sym, ap, ◌∙◌, arith}
use Rattle.std.proofs.lemmas.Bool.Decides.{nat_tests}
use Rattle.ascii_text.specs.declared.digits.Radix.TheVariants.{Ten}
use Rattle.ascii_text.specs.Digits.{digits_text}
use Rattle.ascii_text.specs.Judged.{IsReader}
use Rattle.ascii_text.specs.Laws.{TextLaws}
use Rattle.ascii_text.specs.Reading.{digits_at, behind}
use Rattle.packed_names.specs.declared.half_month.HalfMonth.{HalfMonth}
use Rattle.packed_names.specs.declared.name.NameFault.{NameFault}
use Rattle.packed_names.specs.Judging.{answered}
use Rattle.packed_names.specs.Letters.{letter_of}
use Rattle.packed_names.specs.Printed.{half_text}
use Rattle.packed_names.specs.PrintedReading.{half_in}
use Rattle.packed_names.specs.Spellings.{Spells}
use Rattle.comet_names.specs.declared.comet.Comet.{Comet}
use Rattle.comet_names.specs.declared.parts.Parts.{Parts}
use Rattle.comet_names.specs.Judging.{is_comet}
use Rattle.comet_names.specs.Kinds.{kind_letter, kind_of}
use Rattle.comet_names.specs.Packed.{century_letter, packed_comet, FitsPackedComet}
use Rattle.comet_names.specs.Ranges.{IsComet}
use Rattle.comet_names.specs.Reading.{century_digits, packed_parts, comet_of, packed_comet_in}
use Rattle.comet_names.proofs.Chains.{each, ended, mapped}
use Rattle.comet_names.proofs.PartLaws.{kind_of-kind_letter, kind_letter-kind_of, half_again, half_takes}
use Rattle.comet_names.proofs.JudgingLaws.{Says, answers_exactly}

-- ---- centuries

century_digits-century_letter : (century : ℕ) → 18 ≤ century → century ≤ 20 → century_digits (century_letter century) ≡ Some (48 + century / 10, 48 + century % 10)
unfolding century_digits
century_digits-century_letter century from to = grind (arith, nat_tests)

-- the century whose digits were read from a letter
century_of : (letter : ℕ) (digits : ℕ × ℕ) (century : ℕ) → century_digits letter ≡ Some digits → digits.0 ≡ 48 + century / 10 → digits.1 ≡ 48 + century % 10 → (letter ≡ century_letter century) × (18 ≤ century) × (century ≤ 20)
unfolding century_digits
century_of letter digits century read first second = (grind (arith, nat_tests), grind (arith, nat_tests), grind (arith, nat_tests))

-- the bytes of a printed half-month, by those of a packed one
half_text-packed : (half : HalfMonth) → (48 + half.year / 100 / 10) ∷ (48 + half.year / 100 % 10) ∷ (48 + half.year % 100 / 10) ∷ (48 + half.year % 100 % 10) ∷ 32 ∷ letter_of half.index ∷ [] ≡ half_text half
unfolding half_text digits_text
half_text-packed half =
    let year = half.year in
    let first : year / 100 / 10 ≡ year / 1000 = omega arith in
    let second : year / 100 % 10 ≡ year % 1000 / 100 = omega arith in
    let tens : year % 100 / 10 ≡ year % 1000 % 100 / 10 = omega arith in
    let units : year % 100 % 10 ≡ year % 1000 % 100 % 10 / 1 = omega arith in
    rw (first, second, tens, units) refl

-- what the bytes of a packed half-month are that was put into its printed form
record IsPackedHalf (century tens units letter : ℕ) (half : HalfMonth) : Type 0 where
  from : 1800 ≤ half.year
  to : half.year ≤ 2099
  century_is : century ≡ century_letter (half.year / 100)
  tens_is : tens ≡ 48 + half.year % 100 / 10
  units_is : units ≡ 48 + half.year % 100 % 10
  letter_is : letter ≡ letter_of half.index

packed_half : (century tens units letter : ℕ) (digits : ℕ × ℕ) (half : HalfMonth) → century_digits century ≡ Some digits → digits.0 ∷ digits.1 ∷ tens ∷ units ∷ 32 ∷ letter ∷ [] ≡ half_text half → IsPackedHalf century tens units letter half
packed_half century tens units letter digits half read same =
    let bytes = same ∙ sym (half_text-packed half) in
    let first : digits.0 ≡ 48 + half.year / 100 / 10 = cc in
    let second : digits.1 ≡ 48 + half.year / 100 % 10 = cc in
    let found = century_of century digits (half.year / 100) read first second in
    record { from = omega (arith, found.1); to = omega (arith, found.2); century_is = found.0; tens_is = cc; units_is = cc; letter_is = cc }

-- ---- comets

-- the first five bytes of a packed comet, and what stands after them
packed_comet-bytes : (comet : Comet) → packed_comet comet ≡ kind_letter comet.kind ∷ century_letter (comet.half.year / 100) ∷ (48 + comet.half.year % 100 / 10) ∷ (48 + comet.half.year % 100 % 10) ∷ letter_of comet.half.index ∷ digits_text Ten 2 comet.number ++ (48 ∷ [])
unfolding packed_comet digits_text
packed_comet-bytes comet = let units : comet.half.year % 100 % 10 / 1 ≡ comet.half.year % 100 % 10 = omega arith in rw units refl

-- all of them, by the bytes of the printed half-month
pub packed_comet-half_text : (comet : Comet) (half : List ℕ) → half ≡ half_text comet.half
    → kind_letter comet.kind ∷ century_letter (comet.half.year / 100) ∷ get_or half 2 0 ∷ get_or half 3 0 ∷ get_or half 5 0 ∷ (48 + comet.number / 10) ∷ (48 + comet.number % 10) ∷ 48 ∷ [] ≡ packed_comet comet
unfolding digits_text
packed_comet-half_text comet half half_is =
    let units : comet.number % 10 / 1 ≡ comet.number % 10 = omega arith in
    rw (half_is, ← half_text-packed comet.half, packed_comet-bytes comet, units) refl

module _ (texts : TextLaws) where
  open texts use {digits_again, digits_takes, behind-cons, behind_takes}

  packed_again : (comet : Comet) → FitsPackedComet comet → packed_comet_in (packed_comet comet) ≡ Some comet
  unfolding packed_comet_in packed_parts comet_of
  packed_again comet fits =
      let century = century_digits-century_letter (comet.half.year / 100) (omega (arith, fits.year_from)) (omega (arith, fits.year_to)) in
      let number = digits_again Ten 2 comet.number (48 ∷ []) (omega (arith, fits.number)) in
      let half = half_again texts comet.half (omega (arith, fits.year_to), fits.index) in
      rw (packed_comet-bytes comet, kind_of-kind_letter comet.kind, century, number, behind-cons 48 [], half_text-packed comet.half, half) refl

  -- what the comet is whose parts were read
  Shows : List ℕ → Parts → Type 0
  Shows text parts = (half : HalfMonth) → half_in parts.half ≡ Some half → Spells FitsPackedComet packed_comet (record { kind = parts.kind; half = half; number = parts.number }) text

  parts_take : (text : List ℕ) (parts : Parts) → packed_parts text ≡ Some parts → Shows text parts
  unfolding packed_parts Shows
  parts_take (letter ∷ century ∷ tens ∷ units ∷ half_letter ∷ text) parts read =
      each (kind_of letter) _ (Shows (letter ∷ century ∷ tens ∷ units ∷ half_letter ∷ text)) (λ kind a. each (century_digits century) _ _ (λ digits b. each (digits_at Ten 2 text) _ _ (λ number c. each (behind 48 number.1) _ _ (λ zero d. ended _ zero _ (λ end half e.
      let half_is = half_takes texts _ half e in
      let bytes = packed_half century tens units half_letter digits half b half_is.text_is in
      let number_is = digits_takes Ten 2 text number.0 number.1 c in
      record {
        within = record { year_from = bytes.from; year_to = bytes.to; index = half_is.within.1; number = omega (arith, number_is.1) };
        text_is = cc (packed_comet-bytes (record { kind = kind; half = half; number = number.0 }), kind_letter-kind_of letter kind a, bytes.century_is, bytes.tens_is, bytes.units_is, bytes.letter_is, number_is.0, behind_takes 48 number.1 zero d, end);
      }))))) parts read
  parts_take text parts read = absurd cc

  packed_takes : (text : List ℕ) (comet : Comet) → packed_comet_in text ≡ Some comet → Spells FitsPackedComet packed_comet comet text
  unfolding packed_comet_in comet_of Shows
  packed_takes text = each (packed_parts text) _ _ (λ parts a. mapped _ (half_in parts.half) _ (λ half b. parts_take text parts a half b))

  pub packed_reader : IsReader (Spells FitsPackedComet packed_comet) packed_comet_in
  packed_reader = record {
    again = λ comet text shows. ap packed_comet_in shows.text_is ∙ packed_again comet shows.within;
    takes = packed_takes;
  }

-- a comet in range has values that a packed text can show
pub FitsPackedComet-IsComet : (comet : Comet) → IsComet comet → FitsPackedComet comet
FitsPackedComet-IsComet comet h = record { year_from = omega (arith, h.half.year_from); year_to = h.half.year_to; index = h.half.index; number = h.number_to }

-- what each answer to a text says
pub packed_exactly : (texts : TextLaws) (text : List ℕ) (result : Result Comet NameFault) → result ≡ answered is_comet (packed_comet_in text) → (answer : Result Comet NameFault)
    → (result ≡ answer) ↔ Says packed_comet FitsPackedComet FitsPackedComet-IsComet packed_comet_in (packed_reader texts) text answer
packed_exactly texts text result exact answer = answers_exactly packed_comet FitsPackedComet FitsPackedComet-IsComet packed_comet_in (packed_reader texts) text result exact answer
