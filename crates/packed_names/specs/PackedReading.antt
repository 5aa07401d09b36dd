-- Reading packed names: the values that a text shows, or nothing where it has no shape.
use Rattle.std.specs.Prelude.{ℕ, ◌+◌, ◌-◌, ◌*◌, nat_le, ◌==◌, ◌&&◌, if◌then◌else◌, List, [], ◌∷◌, length, Option, Some}
use Rattle.std.specs.Prelude.{None, option_map}
use Rattle.ascii_text.specs.declared.digits.Radix.TheVariants.{Ten, SixtyTwo}
use Rattle.ascii_text.specs.Reading.{◌>>=◌, digits_at, behind}
use Rattle.packed_names.specs.declared.half_month.HalfMonth.{HalfMonth}
use Rattle.packed_names.specs.declared.number.TheConstants.{FIRST_LARGE}
use Rattle.packed_names.specs.declared.provisional.Provisional.{Provisional}
use Rattle.packed_names.specs.declared.survey.Survey.{Survey}
use Rattle.packed_names.specs.declared.survey.Survey.TheVariants.{PalomarLeiden, T1, T2, T3}
use Rattle.packed_names.specs.declared.name.Designation.{Designation}
use Rattle.packed_names.specs.declared.name.Designation.TheVariants as designations
use Rattle.packed_names.specs.declared.name.Name.{Name}
use Rattle.packed_names.specs.declared.name.Name.TheVariants as names
use Rattle.packed_names.specs.Letters.{letter_at}
use Rattle.packed_names.specs.Ends.{whole, first_of}
use Rattle.packed_names.specs.Orders.{order_of}

-- a digit of base 62 and four digits: numbers below 620,000
unfoldable pub small_number_in : List ℕ → Option ℕ
small_number_in text = do
  front ← digits_at SixtyTwo 1 text
  units ← digits_at Ten 4 front.1
  whole (10000 * front.0 + units.0) units.1

-- `~` and four digits of base 62: the others
unfoldable pub large_number_in : List ℕ → Option ℕ
large_number_in text = do
  digits ← behind 126 text
  number ← digits_at SixtyTwo 4 digits
  whole (FIRST_LARGE + number.0) number.1

unfoldable pub number_in : List ℕ → Option ℕ
number_in text = first_of (small_number_in text) (large_number_in text)

-- the century, and the text after its letter
unfoldable pub century_at : List ℕ → Option (ℕ × List ℕ)
century_at [] = None
century_at (letter ∷ text) = if nat_le 73 letter && nat_le letter 75 then Some (letter - 55, text) else None

-- the half-month at the front of the first form
unfoldable pub century_half_at : List ℕ → Option (HalfMonth × List ℕ)
century_half_at text = do
  century ← century_at text
  year ← digits_at Ten 2 century.1
  half ← letter_at 24 year.1
  Some (record { year = 100 * century.0 + year.0; index = half.0 }, half.1)

-- the order at the end of the first form
unfoldable pub century_order_in : List ℕ → Option ℕ
century_order_in text = do
  tens ← digits_at SixtyTwo 1 text
  units ← digits_at Ten 1 tens.1
  letter ← letter_at 25 units.1
  whole (order_of (10 * tens.0 + units.0) letter.0) letter.1

unfoldable pub century_form_in : List ℕ → Option Provisional
century_form_in text = do
  half ← century_half_at text
  order ← century_order_in half.1
  Some (record { half = half.0; order = order })

unfoldable pub extended_form_in : List ℕ → Option Provisional
extended_form_in text = do
  mark ← behind 95 text
  year ← digits_at SixtyTwo 1 mark
  half ← letter_at 24 year.1
  order ← digits_at SixtyTwo 4 half.1
  whole (record { half = record { year = 2000 + year.0; index = half.0 }; order = 15501 + order.0 }) order.1

unfoldable pub provisional_in : List ℕ → Option Provisional
provisional_in text = first_of (century_form_in text) (extended_form_in text)

-- the survey that three letters stand for
unfoldable pub survey_of : ℕ → ℕ → ℕ → Option Survey
survey_of first second third =
    if (first == 80) && ((second == 76) && (third == 83)) then Some PalomarLeiden
    else (if (first == 84) && ((second == 49) && (third == 83)) then Some T1
    else (if (first == 84) && ((second == 50) && (third == 83)) then Some T2
    else (if (first == 84) && ((second == 51) && (third == 83)) then Some T3 else None)))

-- the survey at the front, and the text after its letters
unfoldable pub survey_at : List ℕ → Option (Survey × List ℕ)
survey_at (first ∷ second ∷ third ∷ text) = do
  survey ← survey_of first second third
  Some (survey, text)
survey_at text = None

unfoldable pub survey_in : List ℕ → Option (Survey × ℕ)
survey_in text = do
  survey ← survey_at text
  number ← digits_at Ten 4 survey.1
  whole (survey.0, number.0) number.1

unfoldable pub designation_in : List ℕ → Option Designation
designation_in text =
    first_of (option_map (λ provisional. designations.Provisional provisional) (provisional_in text))
    (option_map (λ survey. designations.Survey survey.0 survey.1) (survey_in text))

-- the values of a packed name: a number where there are five characters, else a designation
unfoldable pub packed_in : List ℕ → Option Name
packed_in text =
    if length text == 5 then option_map (λ number. names.Number (record { 0 = number })) (number_in text)
    else option_map (λ designation. names.Designation designation) (designation_in text)
