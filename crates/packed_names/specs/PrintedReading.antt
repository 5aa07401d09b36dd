-- Reading printed names: the values that a text shows, or nothing where it has no shape.
use Rattle.std.specs.Prelude.{ℕ, ◌==◌, ◌&&◌, if◌then◌else◌, List, [], ◌∷◌, Option, Some, None, option_map}
use Rattle.ascii_text.specs.declared.digits.Radix.TheVariants.{Ten}
use Rattle.ascii_text.specs.Reading.{◌>>=◌, digits_at, behind, number_at}
use Rattle.packed_names.specs.declared.half_month.HalfMonth.{HalfMonth}
use Rattle.packed_names.specs.declared.provisional.Provisional.{Provisional}
use Rattle.packed_names.specs.declared.survey.Survey.{Survey}
use Rattle.packed_names.specs.declared.survey.Survey.TheVariants.{PalomarLeiden, T1, T2, T3}
use Rattle.packed_names.specs.declared.name.Designation.{Designation}
use Rattle.packed_names.specs.declared.name.Designation.TheVariants as designations
use Rattle.packed_names.specs.declared.name.Name.{Name}
use Rattle.packed_names.specs.declared.name.Name.TheVariants as names
use Rattle.packed_names.specs.Ends.{whole, first_of}
use Rattle.packed_names.specs.Letters.{letter_at}
use Rattle.packed_names.specs.Orders.{order_of}

unfoldable pub number_in : List ℕ → Option ℕ
number_in text = do
  number ← number_at 10 text
  whole number.0 number.1

-- year, blank, letter, and the text after them
unfoldable pub half_at : List ℕ → Option (HalfMonth × List ℕ)
half_at text = do
  year ← digits_at Ten 4 text
  letter ← behind 32 year.1
  half ← letter_at 24 letter
  Some (record { year = year.0; index = half.0 }, half.1)

unfoldable pub half_in : List ℕ → Option HalfMonth
half_in text = do
  half ← half_at text
  whole half.0 half.1

-- the cycle: 0 where nothing stands there
unfoldable pub cycle_in : List ℕ → Option ℕ
cycle_in [] = Some 0
cycle_in (first ∷ text) = do
  cycle ← number_at 7 (first ∷ text)
  if cycle.0 == 0 then None else whole cycle.0 cycle.1

unfoldable pub provisional_in : List ℕ → Option Provisional
provisional_in text = do
  half ← half_at text
  letter ← letter_at 25 half.1
  cycle ← cycle_in letter.1
  Some (record { half = half.0; order = order_of cycle letter.0 })

-- the survey that three characters stand for
unfoldable pub suffix_of : ℕ → ℕ → ℕ → Option Survey
suffix_of first second third =
    if (first == 80) && ((second == 45) && (third == 76)) then Some PalomarLeiden
    else (if (first == 84) && ((second == 45) && (third == 49)) then Some T1
    else (if (first == 84) && ((second == 45) && (third == 50)) then Some T2
    else (if (first == 84) && ((second == 45) && (third == 51)) then Some T3 else None)))

unfoldable pub suffix_in : List ℕ → Option Survey
suffix_in (first ∷ second ∷ third ∷ []) = suffix_of first second third
suffix_in text = None

unfoldable pub survey_in : List ℕ → Option (Survey × ℕ)
survey_in text = do
  number ← number_at 5 text
  letters ← behind 32 number.1
  survey ← suffix_in letters
  Some (survey, number.0)

unfoldable pub designation_in : List ℕ → Option Designation
designation_in text =
    first_of (option_map (λ provisional. designations.Provisional provisional) (provisional_in text))
    (option_map (λ survey. designations.Survey survey.0 survey.1) (survey_in text))

-- the values of a printed name
unfoldable pub printed_in : List ℕ → Option Name
printed_in text =
    first_of (option_map (λ number. names.Number (record { 0 = number })) (number_in text))
    (option_map (λ designation. names.Designation designation) (designation_in text))
