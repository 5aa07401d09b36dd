-- The reader of packed names takes what is spelled, and nothing else.
use Rattle.std.proofs.Common.{◌≡◌, ◌⊎◌, ℕ, ◌≤◌, eqb, List, length, Some, Result, ◌↔◌, refl, ap, ◌∙◌, inl, inr, arith}
use Rattle.std.proofs.lemmas.Bool.{cases_lt}
use Rattle.std.proofs.lemmas.Bool.Decides.{nat_tests}
use Rattle.ascii_text.specs.Judged.{IsReader}
use Rattle.packed_names.specs.declared.provisional.Provisional.{Provisional}
use Rattle.packed_names.specs.declared.name.Designation.{Designation}
use Rattle.packed_names.specs.declared.name.Designation.TheVariants as designations
use Rattle.packed_names.specs.declared.name.Name.{Name}
use Rattle.packed_names.specs.declared.name.Name.TheVariants as names
use Rattle.packed_names.specs.declared.name.NameFault.{NameFault}
use Rattle.packed_names.specs.Judging.{is_in_range, answered}
use Rattle.packed_names.proofs.JudgingLaws.{Says, answers_exactly, name_test}
use Rattle.packed_names.specs.Ranges.{IsName, IsProvisional}
use Rattle.packed_names.specs.Spellings.{Spells}
use Rattle.packed_names.specs.Packed.{packed_text, packed_length, FitsPacked, HasCenturyShape, HasExtendedShape}
use Rattle.packed_names.specs.PackedReading.{number_in, provisional_in, survey_in, designation_in, packed_in}
use Rattle.packed_names.proofs.Chains.{chosen, either, mapped}
use Rattle.packed_names.proofs.PackedFormLaws.{number_again, number_takes, length-number_text, provisional_again, provisional_takes, length-provisional_text, survey_again, survey_takes, length-survey_text, no_provisional}
use Rattle.ascii_text.specs.Laws.{TextLaws}

module _ (texts : TextLaws) where
  designation_again : (designation : Designation) → FitsPacked (names.Designation designation) → designation_in (packed_text (names.Designation designation)) ≡ Some designation
  unfolding designation_in
  designation_again (designations.Provisional provisional) fits = rw (provisional_again texts provisional fits) refl
  designation_again (designations.Survey survey number) fits = rw (no_provisional survey number, survey_again texts survey number fits) refl

  length-designation : (designation : Designation) → length (packed_text (names.Designation designation)) ≡ 7
  length-designation (designations.Provisional provisional) = length-provisional_text texts provisional
  length-designation (designations.Survey survey number) = length-survey_text texts survey number

  packed_again : (name : Name) → FitsPacked name → packed_in (packed_text name) ≡ Some name
  unfolding packed_in
  packed_again (names.Number number) fits = rw (length-number_text texts number.0, number_again texts number.0 fits) refl
  packed_again (names.Designation designation) fits = rw (length-designation designation, designation_again designation fits) refl

  designation_takes : (text : List ℕ) (designation : Designation) → designation_in text ≡ Some designation → Spells FitsPacked packed_text (names.Designation designation) text
  unfolding designation_in
  designation_takes text =
      chosen _ _ _
      (mapped (λ p. designations.Provisional p) (provisional_in text) _ (λ p e. let took = provisional_takes texts text p e in record { within = took.1; text_is = took.0 }))
      (mapped (λ s. designations.Survey s.0 s.1) (survey_in text) _ (λ s e. let took = survey_takes texts text s e in record { within = took.1; text_is = took.0 }))

  packed_takes : (text : List ℕ) (name : Name) → packed_in text ≡ Some name → Spells FitsPacked packed_text name text
  unfolding packed_in
  packed_takes text =
      either (eqb (length text) 5) _ _ _
      (mapped (λ n. names.Number (record { 0 = n })) (number_in text) _ (λ n e. let took = number_takes texts text n e in record { within = took.1; text_is = took.0 }))
      (mapped (λ d. names.Designation d) (designation_in text) _ (designation_takes text))

  pub packed_reader : IsReader (Spells FitsPacked packed_text) packed_in
  packed_reader = record {
    again = λ name text shows. ap packed_in shows.text_is ∙ packed_again name shows.within;
    takes = packed_takes;
  }

  provisional_fits : (provisional : Provisional) → IsProvisional provisional → HasCenturyShape provisional ⊎ HasExtendedShape provisional
  provisional_fits provisional h =
      let year_from = h.half.year_from in
      let year_to = h.half.year_to in
      let order_to = h.order_to in
      elim (cases_lt 15500 provisional.order) [
        | inl above ↦
            let years : (2000 ≤ provisional.half.year) × (provisional.half.year ≤ 2061) = grind (arith, nat_tests) in
            inr (record { year_from = years.0; year_to = years.1; index = h.half.index; order_from = omega arith; order_to = grind (arith, nat_tests) })
        | inr within ↦ inl (record { year_from = omega arith; year_to = year_to; index = h.half.index; order_from = h.order_from; order_to = within })
      ]

  -- a name in range has values that a packed text can show
  pub FitsPacked-IsName : (name : Name) → IsName name → FitsPacked name
  FitsPacked-IsName (names.Number number) h = h.1
  FitsPacked-IsName (names.Designation (designations.Provisional provisional)) h = provisional_fits provisional h
  FitsPacked-IsName (names.Designation (designations.Survey survey number)) h = h.1

  pub length-packed_text : (name : Name) → length (packed_text name) ≡ packed_length name
  length-packed_text (names.Number number) = length-number_text texts number.0
  length-packed_text (names.Designation designation) = length-designation designation

  -- what each answer to a text says
  pub packed_exactly : (text : List ℕ) (result : Result Name NameFault) → result ≡ answered is_in_range (packed_in text) → (answer : Result Name NameFault)
      → (result ≡ answer) ↔ Says IsName is_in_range name_test packed_text FitsPacked FitsPacked-IsName packed_in packed_reader text answer
  packed_exactly text result exact answer = answers_exactly IsName is_in_range name_test packed_text FitsPacked FitsPacked-IsName packed_in packed_reader text result exact answer
