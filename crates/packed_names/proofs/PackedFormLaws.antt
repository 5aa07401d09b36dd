-- Packed numbers and designations: what is written is read, and what is read was written.
use Rattle.std.proofs.Common.{◌≡◌, ℕ, ◌+◌, ◌-◌, ◌*◌, ◌/◌, ◌%◌, ◌<◌, ◌≤◌, List, ◌∷◌, length, suc, Some, None, refl, ap, ◌∙◌, arith, inl, inr, ◌⊎◌, true, false, ◌&&◌, leb, [], ◌++◌, sym}
use Rattle.std.proofs.lemmas.Bool.{cases_lt}
use Rattle.std.proofs.lemmas.Bool.Decides.{nat_tests}
use Rattle.std.proofs.lemmas.List.{append-nil, length-append}
use Rattle.ascii_text.specs.declared.digits.Radix.TheVariants.{Ten, SixtyTwo}
use Rattle.ascii_text.specs.Digits.{digit_byte, digits_text}
use Rattle.ascii_text.specs.Reading.{sixty_two_value, digit_value, digit_at, more_digits, digits_at, behind}
use Rattle.packed_names.specs.Packed.{number_text, century_text, extended_text, provisional_text, HasCenturyShape, HasExtendedShape, prefix, survey_text}
use Rattle.packed_names.specs.PackedReading.{small_number_in, large_number_in, number_in, century_at, century_half_at, century_order_in, century_form_in, extended_form_in, provisional_in, survey_of, survey_at, survey_in}
use Rattle.packed_names.proofs.Chains.{each, ended, chosen, made, tested}
use Rattle.packed_names.proofs.PartLaws.{digits_again_whole, digit_again, digit_takes, letter_at-letter_of, letter_at_takes, letter_index-order_of, cycle_of-order_of, letter_index-lt}
use Rattle.packed_names.specs.declared.half_month.HalfMonth.{HalfMonth}
use Rattle.packed_names.specs.declared.number.TheConstants.{GREATEST_NUMBER, FIRST_LARGE}
use Rattle.packed_names.specs.declared.provisional.Provisional.{Provisional}
use Rattle.packed_names.specs.Letters.{letter_of, letter_at}
use Rattle.packed_names.specs.Orders.{letter_index, cycle_of, order_of}
use Rattle.packed_names.specs.declared.survey.Survey.{Survey}
use Rattle.packed_names.specs.declared.survey.Survey.TheVariants.{PalomarLeiden}
use Rattle.ascii_text.specs.Laws.{TextLaws}

-- ---- numbers

-- below 620,000 a number is one digit of base 62, for the ten thousands, and four digits
number_text-small : (number : ℕ) → number < FIRST_LARGE → number_text number ≡ digit_byte SixtyTwo (number / 10000) ∷ digits_text Ten 4 (number % 10000)
unfolding number_text digits_text
number_text-small number below = grind (arith, nat_tests)

number_text-large : (number : ℕ) → FIRST_LARGE ≤ number → number_text number ≡ 126 ∷ digits_text SixtyTwo 4 (number - FIRST_LARGE)
unfolding number_text
number_text-large number from = grind (arith, nat_tests)

not_small : (digits : List ℕ) → small_number_in (126 ∷ digits) ≡ None
unfolding small_number_in digits_at more_digits digit_at digit_value sixty_two_value
not_small digits = refl

number_text-parts : (front units : ℕ) → front < 62 → units < 10000 → number_text (10000 * front + units) ≡ digit_byte SixtyTwo front ∷ digits_text Ten 4 units
number_text-parts front units front_below units_below =
    let quotient : (10000 * front + units) / 10000 ≡ front = omega arith in
    let remainder : (10000 * front + units) % 10000 ≡ units = omega arith in
    number_text-small (10000 * front + units) (omega arith) ∙ rw (quotient, remainder) refl

number_text-behind : (digits : ℕ) → number_text (FIRST_LARGE + digits) ≡ 126 ∷ digits_text SixtyTwo 4 digits
number_text-behind digits =
    let back : FIRST_LARGE + digits - FIRST_LARGE ≡ digits = omega arith in
    number_text-large (FIRST_LARGE + digits) (omega arith) ∙ rw back refl

module _ (texts : TextLaws) where
  open texts use {digits_takes, length-digits_text, behind_takes}

  small_again : (number : ℕ) → number < FIRST_LARGE → small_number_in (number_text number) ≡ Some number
  unfolding small_number_in
  small_again number below =
      let value : 10000 * (number / 10000) + number % 10000 ≡ number = omega arith in
      rw (number_text-small number below, digit_again texts SixtyTwo (number / 10000) _ (omega arith), digits_again_whole texts Ten 4 (number % 10000) (omega arith), value) refl

  large_again : (number : ℕ) → FIRST_LARGE ≤ number → number ≤ GREATEST_NUMBER → large_number_in (number_text number) ≡ Some number
  unfolding large_number_in behind
  large_again number from to =
      let value : FIRST_LARGE + (number - FIRST_LARGE) ≡ number = omega arith in
      rw (number_text-large number from, digits_again_whole texts SixtyTwo 4 (number - FIRST_LARGE) (omega arith), value) refl

  pub number_again : (number : ℕ) → number ≤ GREATEST_NUMBER → number_in (number_text number) ≡ Some number
  unfolding number_in
  number_again number to =
      elim (cases_lt number FIRST_LARGE) [
        | inl below ↦ rw (small_again number below) refl
        | inr from ↦
            let other : small_number_in (number_text number) ≡ None = rw (number_text-large number from) (not_small (digits_text SixtyTwo 4 (number - FIRST_LARGE))) in
            rw (other, large_again number from to) refl
      ]

  small_takes : (text : List ℕ) (number : ℕ) → small_number_in text ≡ Some number → (text ≡ number_text number) × (number ≤ GREATEST_NUMBER)
  unfolding small_number_in
  small_takes text =
      each (digits_at SixtyTwo 1 text) _ _ (λ front a. each (digits_at Ten 4 front.1) _ _ (λ units b. ended _ units.1 _ (λ end.
      let front_is = digit_takes texts SixtyTwo text front a in
      let units_is = digits_takes Ten 4 front.1 units.0 units.1 b in
      let parts = number_text-parts front.0 units.0 front_is.1 units_is.1 in
      (cc (front_is.0, units_is.0, end, append-nil (digits_text Ten 4 units.0), parts), omega (arith, front_is.1, units_is.1)))))

  large_takes : (text : List ℕ) (number : ℕ) → large_number_in text ≡ Some number → (text ≡ number_text number) × (number ≤ GREATEST_NUMBER)
  unfolding large_number_in
  large_takes text =
      each (behind 126 text) _ _ (λ digits a. each (digits_at SixtyTwo 4 digits) _ _ (λ number b. ended _ number.1 _ (λ end.
      let digits_is = digits_takes SixtyTwo 4 digits number.0 number.1 b in
      let text_is : text ≡ number_text (FIRST_LARGE + number.0) = cc (behind_takes 126 text digits a, digits_is.0, end, append-nil (digits_text SixtyTwo 4 number.0), number_text-behind number.0) in
      (text_is, omega (arith, digits_is.1)))))

  pub number_takes : (text : List ℕ) (number : ℕ) → number_in text ≡ Some number → (text ≡ number_text number) × (number ≤ GREATEST_NUMBER)
  unfolding number_in
  number_takes text = chosen (small_number_in text) (large_number_in text) _ (small_takes text) (large_takes text)

  pub length-number_text : (number : ℕ) → length (number_text number) ≡ 5
  length-number_text number =
      elim (cases_lt number FIRST_LARGE) [
        | inl below ↦ rw (number_text-small number below) (ap suc (length-digits_text Ten 4 (number % 10000)))
        | inr from ↦ rw (number_text-large number from) (ap suc (length-digits_text SixtyTwo 4 (number - FIRST_LARGE)))
      ]

-- ---- provisional designations

-- ---- the form with a century letter

century_at_again : (century : ℕ) (rest : List ℕ) → 18 ≤ century → century ≤ 20 → century_at ((55 + century) ∷ rest) ≡ Some (century, rest)
unfolding century_at
century_at_again century rest from to = grind (arith, nat_tests)

century_at_takes : (text : List ℕ) (x : ℕ × List ℕ) → century_at text ≡ Some x → (text ≡ (55 + x.0) ∷ x.1) × (18 ≤ x.0) × (x.0 ≤ 20)
unfolding century_at
century_at_takes [] x read = absurd cc
century_at_takes (letter ∷ text) x read =
    tested (leb 73 letter && leb letter 75) (letter - 55, text) (λ (y : ℕ × List ℕ). (letter ∷ text ≡ (55 + y.0) ∷ y.1) × (18 ≤ y.0) × (y.0 ≤ 20)) (λ test.
    let bounds : (73 ≤ letter) × (letter ≤ 75) = grind (arith, nat_tests, test) in
    let same : 55 + (letter - 55) ≡ letter = omega (arith, bounds.0) in
    (ap (λ (l : ℕ). l ∷ text) (sym same), omega (arith, bounds.0), omega (arith, bounds.1))) x read

-- the half-month in the form with a century letter
century_half_text : HalfMonth → List ℕ → List ℕ
century_half_text half rest = (55 + half.year / 100) ∷ (digits_text Ten 2 (half.year % 100) ++ (letter_of half.index ∷ rest))

-- the order in the form with a century letter
century_order_text : ℕ → List ℕ
century_order_text order = digit_byte SixtyTwo (cycle_of order / 10) ∷ digit_byte Ten (cycle_of order % 10) ∷ letter_of (letter_index order) ∷ []

-- ---- both

provisional_text-century : (provisional : Provisional) → HasCenturyShape provisional → provisional_text provisional ≡ century_text provisional
unfolding provisional_text
provisional_text-century provisional shape = let to = shape.order_to in grind (arith, nat_tests)

provisional_text-extended : (provisional : Provisional) → HasExtendedShape provisional → provisional_text provisional ≡ extended_text provisional
unfolding provisional_text
provisional_text-extended provisional shape = let from = shape.order_from in grind (arith, nat_tests)

no_century : (provisional : Provisional) → century_form_in (extended_text provisional) ≡ None
unfolding extended_text century_form_in century_half_at century_at
no_century provisional = refl

module _ (texts : TextLaws) where
  open texts use {digits_again, digits_takes, length-digits_text, behind_takes}

  half_again : (half : HalfMonth) (rest : List ℕ) → 1800 ≤ half.year → half.year ≤ 2099 → half.index < 24 → century_half_at (century_half_text half rest) ≡ Some (half, rest)
  unfolding century_half_at century_half_text
  half_again half rest from to index =
      let value : 100 * (half.year / 100) + half.year % 100 ≡ half.year = omega arith in
      rw (century_at_again (half.year / 100) _ (omega arith) (omega arith), digits_again Ten 2 (half.year % 100) _ (omega arith), letter_at-letter_of 24 half.index rest index (omega arith), value) refl

  half_takes : (text : List ℕ) (x : HalfMonth × List ℕ) → century_half_at text ≡ Some x → (text ≡ century_half_text x.0 x.1) × (1800 ≤ x.0.year) × (x.0.year ≤ 2099) × (x.0.index < 24)
  unfolding century_half_at century_half_text
  half_takes text =
      each (century_at text) _ _ (λ century a. each (digits_at Ten 2 century.1) _ _ (λ year b. each (letter_at 24 year.1) _ _ (λ half c.
      let century_is = century_at_takes text century a in
      let year_is = digits_takes Ten 2 century.1 year.0 year.1 b in
      let letter_is = letter_at_takes 24 year.1 half c in
      let quotient : (100 * century.0 + year.0) / 100 ≡ century.0 = omega (arith, year_is.1) in
      let remainder : (100 * century.0 + year.0) % 100 ≡ year.0 = omega (arith, year_is.1) in
      let text_is : text ≡ (55 + century.0) ∷ (digits_text Ten 2 year.0 ++ (letter_of half.0 ∷ half.1)) = cc (century_is.0, year_is.0, letter_is.0) in
      made _ _ (rw (quotient, remainder) text_is, omega (arith, century_is.1), omega (arith, century_is.2, year_is.1), letter_is.1))))

  order_again : (order : ℕ) → 1 ≤ order → order ≤ 15500 → century_order_in (century_order_text order) ≡ Some order
  unfolding century_order_in century_order_text
  order_again order from to =
      let value : order_of (10 * (cycle_of order / 10) + cycle_of order % 10) (letter_index order) ≡ order = omega arith in
      rw (digit_again texts SixtyTwo (cycle_of order / 10) _ (omega arith), digit_again texts Ten (cycle_of order % 10) _ (omega arith), letter_at-letter_of 25 (letter_index order) [] (letter_index-lt order) (omega arith), value) refl

  order_takes : (text : List ℕ) (order : ℕ) → century_order_in text ≡ Some order → (text ≡ century_order_text order) × (1 ≤ order) × (order ≤ 15500)
  unfolding century_order_in century_order_text
  order_takes text =
      each (digits_at SixtyTwo 1 text) _ _ (λ tens a. each (digits_at Ten 1 tens.1) _ _ (λ units b. each (letter_at 25 units.1) _ _ (λ letter c. ended _ letter.1 _ (λ end.
      let tens_is = digit_takes texts SixtyTwo text tens a in
      let units_is = digit_takes texts Ten tens.1 units b in
      let letter_is = letter_at_takes 25 units.1 letter c in
      let cycle = 10 * tens.0 + units.0 in
      let order = order_of cycle letter.0 in
      let quotient : cycle_of order / 10 ≡ tens.0 = omega (arith, cycle_of-order_of cycle letter.0 letter_is.1, units_is.1) in
      let remainder : cycle_of order % 10 ≡ units.0 = omega (arith, cycle_of-order_of cycle letter.0 letter_is.1, units_is.1) in
      let index : letter_index order ≡ letter.0 = letter_index-order_of cycle letter.0 letter_is.1 in
      let text_is : text ≡ digit_byte SixtyTwo tens.0 ∷ digit_byte Ten units.0 ∷ letter_of letter.0 ∷ [] = cc (tens_is.0, units_is.0, letter_is.0, end) in
      (rw (quotient, remainder, index) text_is, omega arith, omega (arith, tens_is.1, units_is.1, letter_is.1))))))

  century_again : (provisional : Provisional) → HasCenturyShape provisional → century_form_in (century_text provisional) ≡ Some provisional
  unfolding century_form_in century_text century_half_text century_order_text
  century_again provisional shape =
      rw (half_again provisional.half (century_order_text provisional.order) shape.year_from shape.year_to shape.index, order_again provisional.order shape.order_from shape.order_to) refl

  century_takes : (text : List ℕ) (provisional : Provisional) → century_form_in text ≡ Some provisional → (text ≡ century_text provisional) × HasCenturyShape provisional
  unfolding century_form_in century_text century_half_text century_order_text
  century_takes text =
      each (century_half_at text) _ _ (λ half a. each (century_order_in half.1) _ _ (λ order b.
      let half_is = half_takes text half a in
      let order_is = order_takes half.1 order b in
      made _ _ (half_is.0 ∙ ap (century_half_text half.0) order_is.0, record { year_from = half_is.1; year_to = half_is.2; index = half_is.3; order_from = order_is.1; order_to = order_is.2 })))

  -- ---- the form that begins with `_`

  extended_again : (provisional : Provisional) → HasExtendedShape provisional → extended_form_in (extended_text provisional) ≡ Some provisional
  unfolding extended_form_in extended_text behind
  extended_again provisional shape =
      let year = digit_again texts SixtyTwo (provisional.half.year - 2000) (letter_of provisional.half.index ∷ digits_text SixtyTwo 4 (provisional.order - 15501)) (omega (arith, shape.year_to)) in
      let letter = letter_at-letter_of 24 provisional.half.index (digits_text SixtyTwo 4 (provisional.order - 15501)) shape.index (omega arith) in
      let digits = digits_again_whole texts SixtyTwo 4 (provisional.order - 15501) (omega (arith, shape.order_to)) in
      let year_is : 2000 + (provisional.half.year - 2000) ≡ provisional.half.year = omega (arith, shape.year_from) in
      let order_is : 15501 + (provisional.order - 15501) ≡ provisional.order = omega (arith, shape.order_from) in
      rw (year, letter, digits, year_is, order_is) refl

  extended_takes : (text : List ℕ) (provisional : Provisional) → extended_form_in text ≡ Some provisional → (text ≡ extended_text provisional) × HasExtendedShape provisional
  unfolding extended_form_in extended_text
  extended_takes text =
      each (behind 95 text) _ _ (λ mark a. each (digits_at SixtyTwo 1 mark) _ _ (λ year b. each (letter_at 24 year.1) _ _ (λ half c.
      each (digits_at SixtyTwo 4 half.1) _ _ (λ order d. ended _ order.1 _ (λ end.
      let year_is = digit_takes texts SixtyTwo mark year b in
      let letter_is = letter_at_takes 24 year.1 half c in
      let digits_is = digits_takes SixtyTwo 4 half.1 order.0 order.1 d in
      let year_back : 2000 + year.0 - 2000 ≡ year.0 = omega arith in
      let order_back : 15501 + order.0 - 15501 ≡ order.0 = omega arith in
      let text_is : text ≡ 95 ∷ digit_byte SixtyTwo year.0 ∷ letter_of half.0 ∷ digits_text SixtyTwo 4 order.0
      = cc (behind_takes 95 text mark a, year_is.0, letter_is.0, digits_is.0, end, append-nil (digits_text SixtyTwo 4 order.0)) in
      (rw (year_back, order_back) text_is, record { year_from = omega arith; year_to = omega (arith, year_is.1); index = letter_is.1; order_from = omega arith; order_to = omega (arith, digits_is.1) }))))))

  pub provisional_again : (provisional : Provisional) → HasCenturyShape provisional ⊎ HasExtendedShape provisional → provisional_in (provisional_text provisional) ≡ Some provisional
  unfolding provisional_in
  provisional_again provisional (inl shape) = rw (provisional_text-century provisional shape, century_again provisional shape) refl
  provisional_again provisional (inr shape) = rw (provisional_text-extended provisional shape, no_century provisional, extended_again provisional shape) refl

  pub provisional_takes : (text : List ℕ) (provisional : Provisional) → provisional_in text ≡ Some provisional → (text ≡ provisional_text provisional) × (HasCenturyShape provisional ⊎ HasExtendedShape provisional)
  unfolding provisional_in
  provisional_takes text =
      chosen (century_form_in text) (extended_form_in text) _
      (λ provisional century. let took = century_takes text provisional century in (took.0 ∙ sym (provisional_text-century provisional took.1), inl took.1))
      (λ provisional extended. let took = extended_takes text provisional extended in (took.0 ∙ sym (provisional_text-extended provisional took.1), inr took.1))

  pub length-provisional_text : (provisional : Provisional) → length (provisional_text provisional) ≡ 7
  unfolding provisional_text century_text extended_text
  length-provisional_text provisional =
      elim (cases_lt 15500 provisional.order) [
        | inl above ↦
            let test : leb provisional.order 15500 ≡ false = grind (arith, nat_tests) in
            rw test (omega (arith, length-digits_text SixtyTwo 4 (provisional.order - 15501)))
        | inr within ↦
            let test : leb provisional.order 15500 ≡ true = grind (arith, nat_tests) in
            rw test (simp length-append (omega (arith, length-digits_text Ten 2 (provisional.half.year % 100))))
      ]

-- ---- survey designations

survey_at-prefix : (survey : Survey) (rest : List ℕ) → survey_at (prefix survey ++ rest) ≡ Some (survey, rest)
unfolding survey_at survey_of prefix
survey_at-prefix PalomarLeiden rest = refl
survey_at-prefix survey rest = refl

prefix-survey_of : (first second third : ℕ) (survey : Survey) → survey_of first second third ≡ Some survey → first ∷ second ∷ third ∷ [] ≡ prefix survey
unfolding survey_of prefix
prefix-survey_of first second third survey read = grind (arith, nat_tests)

survey_at_takes : (text : List ℕ) (x : Survey × List ℕ) → survey_at text ≡ Some x → text ≡ prefix x.0 ++ x.1
unfolding survey_at
survey_at_takes (first ∷ second ∷ third ∷ text) x read =
    each (survey_of first second third) _ (λ (y : Survey × List ℕ). first ∷ second ∷ third ∷ text ≡ prefix y.0 ++ y.1) (λ survey a.
    made (survey, text) _ (ap (λ (front : List ℕ). front ++ text) (prefix-survey_of first second third survey a))) x read
survey_at_takes text x read = absurd cc

length-prefix : (survey : Survey) → length (prefix survey) ≡ 3
unfolding prefix
length-prefix PalomarLeiden = refl
length-prefix survey = refl

pub no_provisional : (survey : Survey) (number : ℕ) → provisional_in (survey_text survey number) ≡ None
unfolding survey_text prefix provisional_in century_form_in century_half_at century_at extended_form_in behind
no_provisional PalomarLeiden number = refl
no_provisional survey number = refl

module _ (texts : TextLaws) where
  open texts use {digits_takes, length-digits_text}

  pub survey_again : (survey : Survey) (number : ℕ) → number ≤ 9999 → survey_in (survey_text survey number) ≡ Some (survey, number)
  unfolding survey_in survey_text
  survey_again survey number within =
      rw (survey_at-prefix survey (digits_text Ten 4 number), digits_again_whole texts Ten 4 number (omega arith)) refl

  pub survey_takes : (text : List ℕ) (x : Survey × ℕ) → survey_in text ≡ Some x → (text ≡ survey_text x.0 x.1) × (x.1 ≤ 9999)
  unfolding survey_in survey_text
  survey_takes text =
      each (survey_at text) _ _ (λ survey a. each (digits_at Ten 4 survey.1) _ _ (λ number b. ended _ number.1 _ (λ end.
      let digits_is = digits_takes Ten 4 survey.1 number.0 number.1 b in
      (cc (survey_at_takes text survey a, digits_is.0, end, append-nil (digits_text Ten 4 number.0)), omega (arith, digits_is.1)))))

  pub length-survey_text : (survey : Survey) (number : ℕ) → length (survey_text survey number) ≡ 7
  unfolding survey_text
  length-survey_text survey number = omega (arith, length-append (prefix survey) (digits_text Ten 4 number), length-prefix survey, length-digits_text Ten 4 number)
