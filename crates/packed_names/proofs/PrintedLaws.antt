-- The reader of printed names takes what is spelled, and nothing else.
use Rattle.std.proofs.Common.{◌≡◌, ℕ, ◌≤◌, List, Some, None, Result, ◌↔◌, refl, ap, ◌∙◌, arith}
use Rattle.std.proofs.lemmas.Bool.Decides.{nat_tests}
use Rattle.ascii_text.specs.Judged.{IsReader}
use Rattle.packed_names.specs.declared.half_month.HalfMonth.{HalfMonth}
use Rattle.packed_names.specs.declared.provisional.Provisional.{Provisional}
use Rattle.packed_names.specs.declared.name.Designation.{Designation}
use Rattle.packed_names.specs.declared.name.Designation.TheVariants as designations
use Rattle.packed_names.specs.declared.name.Name.{Name}
use Rattle.packed_names.specs.declared.name.Name.TheVariants as names
use Rattle.packed_names.specs.declared.name.NameFault.{NameFault}
use Rattle.packed_names.specs.Judging.{is_in_range, is_half_month, answered}
use Rattle.packed_names.proofs.JudgingLaws.{Says, answers_exactly, name_test, half_month_test}
use Rattle.packed_names.specs.Ranges.{IsName, IsHalfMonth, IsProvisional, limit_of}
use Rattle.packed_names.specs.Spellings.{Spells}
use Rattle.packed_names.specs.Printed.{printed_text, half_text, FitsPrinted, FitsPrintedHalf}
use Rattle.packed_names.specs.PrintedReading.{number_in, provisional_in, survey_in, designation_in, printed_in, half_in}
use Rattle.packed_names.proofs.Chains.{chosen, mapped}
use Rattle.packed_names.proofs.PrintedFormLaws.{decimal_in, number_in_takes, survey_again, survey_takes, half_reader, provisional_again, provisional_takes, provisional_no_number, survey_no_number, survey_no_provisional}
use Rattle.ascii_text.specs.Laws.{TextLaws}

pub FitsPrintedHalf-IsHalfMonth : (half : HalfMonth) → IsHalfMonth half → FitsPrintedHalf half
FitsPrintedHalf-IsHalfMonth half h = (omega (arith, h.year_to), h.index)

limit_of-le : (half : HalfMonth) → limit_of half ≤ 14791836
limit_of-le half = grind (arith, nat_tests)

provisional_fits : (provisional : Provisional) → IsProvisional provisional → FitsPrinted (names.Designation (designations.Provisional provisional))
provisional_fits provisional h = (FitsPrintedHalf-IsHalfMonth provisional.half h.half, h.order_from, omega (arith, h.order_to, limit_of-le provisional.half))

-- a name in range has values that a printed text can show
pub FitsPrinted-IsName : (name : Name) → IsName name → FitsPrinted name
FitsPrinted-IsName (names.Number number) h = omega (arith, h.1)
FitsPrinted-IsName (names.Designation (designations.Provisional provisional)) h = provisional_fits provisional h
FitsPrinted-IsName (names.Designation (designations.Survey survey number)) h = omega (arith, h.1)

module _ (texts : TextLaws) where
  designation_again : (designation : Designation) → FitsPrinted (names.Designation designation) → designation_in (printed_text (names.Designation designation)) ≡ Some designation
  unfolding designation_in
  designation_again (designations.Provisional provisional) fits = rw (provisional_again texts provisional fits) refl
  designation_again (designations.Survey survey number) fits = rw (survey_no_provisional texts survey number fits, survey_again texts survey number fits) refl

  designation_no_number : (designation : Designation) → FitsPrinted (names.Designation designation) → number_in (printed_text (names.Designation designation)) ≡ None
  designation_no_number (designations.Provisional provisional) fits = provisional_no_number texts provisional fits
  designation_no_number (designations.Survey survey number) fits = survey_no_number texts survey number fits

  printed_again : (name : Name) → FitsPrinted name → printed_in (printed_text name) ≡ Some name
  unfolding printed_in
  printed_again (names.Number number) fits = rw (decimal_in texts number.0 fits) refl
  printed_again (names.Designation designation) fits = rw (designation_no_number designation fits, designation_again designation fits) refl

  designation_takes : (text : List ℕ) (designation : Designation) → designation_in text ≡ Some designation → Spells FitsPrinted printed_text (names.Designation designation) text
  unfolding designation_in
  designation_takes text =
      chosen _ _ _
      (mapped (λ p. designations.Provisional p) (provisional_in text) _ (λ p e. let took = provisional_takes texts text p e in record { within = took.1; text_is = took.0 }))
      (mapped (λ s. designations.Survey s.0 s.1) (survey_in text) _ (λ s e. let took = survey_takes texts text s e in record { within = took.1; text_is = took.0 }))

  printed_takes : (text : List ℕ) (name : Name) → printed_in text ≡ Some name → Spells FitsPrinted printed_text name text
  unfolding printed_in
  printed_takes text =
      chosen _ _ _
      (mapped (λ n. names.Number (record { 0 = n })) (number_in text) _ (λ n e. let took = number_in_takes texts text n e in record { within = took.1; text_is = took.0 }))
      (mapped (λ d. names.Designation d) (designation_in text) _ (designation_takes text))

  pub printed_reader : IsReader (Spells FitsPrinted printed_text) printed_in
  printed_reader = record {
    again = λ name text shows. ap printed_in shows.text_is ∙ printed_again name shows.within;
    takes = printed_takes;
  }

  -- what each answer to a text says
  pub printed_exactly : (text : List ℕ) (result : Result Name NameFault) → result ≡ answered is_in_range (printed_in text) → (answer : Result Name NameFault)
      → (result ≡ answer) ↔ Says IsName is_in_range name_test printed_text FitsPrinted FitsPrinted-IsName printed_in printed_reader text answer
  printed_exactly text result exact answer = answers_exactly IsName is_in_range name_test printed_text FitsPrinted FitsPrinted-IsName printed_in printed_reader text result exact answer

  pub half_exactly : (text : List ℕ) (result : Result HalfMonth NameFault) → result ≡ answered is_half_month (half_in text) → (answer : Result HalfMonth NameFault)
      → (result ≡ answer) ↔ Says IsHalfMonth is_half_month half_month_test half_text FitsPrintedHalf FitsPrintedHalf-IsHalfMonth half_in (half_reader texts) text answer
  half_exactly text result exact answer = answers_exactly IsHalfMonth is_half_month half_month_test half_text FitsPrintedHalf FitsPrintedHalf-IsHalfMonth half_in (half_reader texts) text result exact answer
