-- Names as the Minor Planet Center packs them, numbers into five characters and designations into seven: `A0000`,
-- `K24E01A`, `_OE0000`, `PLS2040`.
use Rattle.std.specs.Prelude.{◌⊎◌, ℕ, ◌+◌, ◌-◌, ◌/◌, ◌%◌, ◌≤◌, ◌<◌, nat_lt, nat_le, if◌then◌else◌, List, [], ◌∷◌, ◌++◌}
use Rattle.std.specs.Prelude.{codes}
use Rattle.ascii_text.specs.declared.digits.Radix.TheVariants.{Ten, SixtyTwo}
use Rattle.ascii_text.specs.Digits.{digit_byte, digits_text}
use Rattle.packed_names.specs.declared.number.TheConstants.{GREATEST_NUMBER, FIRST_LARGE}
use Rattle.packed_names.specs.declared.provisional.Provisional.{Provisional}
use Rattle.packed_names.specs.declared.survey.Survey.{Survey}
use Rattle.packed_names.specs.declared.survey.Survey.TheVariants.{PalomarLeiden, T1, T2, T3}
use Rattle.packed_names.specs.declared.name.Designation.TheVariants as designations
use Rattle.packed_names.specs.declared.name.Name.{Name}
use Rattle.packed_names.specs.declared.name.Name.TheVariants as names
use Rattle.packed_names.specs.Letters.{letter_of}
use Rattle.packed_names.specs.Orders.{letter_index, cycle_of}
use Rattle.packed_names.specs.Ranges.{IsName}
use Rattle.packed_names.specs.Spellings.{Spells, SpellsOne}

-- Below 100,000 five digits. Below 620,000 the ten thousands are one digit of base 62, A to z, before four digits.
-- From there on `~` stands before four digits of base 62, which count from 620,000.
unfoldable pub number_text : ℕ → List ℕ
number_text number =
    if nat_lt number 100000 then digits_text Ten 5 number
    else (if nat_lt number FIRST_LARGE then digit_byte SixtyTwo (number / 10000) ∷ digits_text Ten 4 (number % 10000)
    else 126 ∷ digits_text SixtyTwo 4 (number - FIRST_LARGE))

-- Century letter (I for 18, J for 19, K for 20), two digits of the year, half-month letter, the cycle with its tens as
-- one digit of base 62 and its units as one of base 10, order letter.
unfoldable pub century_text : Provisional → List ℕ
century_text provisional =
    (55 + provisional.half.year / 100) ∷ digits_text Ten 2 (provisional.half.year % 100)
    ++ (letter_of provisional.half.index
    ∷ digit_byte SixtyTwo (cycle_of provisional.order / 10)
    ∷ digit_byte Ten (cycle_of provisional.order % 10)
    ∷ letter_of (letter_index provisional.order)
    ∷ [])

-- `_`, the year from 2000 on as a digit of base 62, half-month letter, and four digits of base 62, which count the
-- orders from 15,501.
unfoldable pub extended_text : Provisional → List ℕ
extended_text provisional =
    95 ∷ digit_byte SixtyTwo (provisional.half.year - 2000) ∷ letter_of provisional.half.index
    ∷ digits_text SixtyTwo 4 (provisional.order - 15501)

-- an order up to 15,500 has the first form, and one above the second
unfoldable pub provisional_text : Provisional → List ℕ
provisional_text provisional =
    if nat_le provisional.order 15500 then century_text provisional else extended_text provisional

-- what a survey's designations begin with
unfoldable pub prefix : Survey → List ℕ
prefix PalomarLeiden = codes "PLS"
prefix T1 = codes "T1S"
prefix T2 = codes "T2S"
prefix T3 = codes "T3S"

-- the survey's letters, and four digits
unfoldable pub survey_text : Survey → ℕ → List ℕ
survey_text survey number = prefix survey ++ digits_text Ten 4 number

-- the packed text of a name
abbrev pub packed_text : Name → List ℕ
packed_text (names.Number number) = number_text number.0
packed_text (names.Designation (designations.Provisional provisional)) = provisional_text provisional
packed_text (names.Designation (designations.Survey survey number)) = survey_text survey number

-- the name is packed as the text
abbrev pub IsPackedAs : Name → List ℕ → Type 0
IsPackedAs name text = Spells IsName packed_text name text

-- the text is the packed form of a name
abbrev pub IsPackedName : List ℕ → Type 0
IsPackedName text = SpellsOne IsName packed_text text

-- what the first form can write: the years of the three centuries, and cycles up to 619
pub record HasCenturyShape (provisional : Provisional) : Type 0 where
  pub year_from : 1800 ≤ provisional.half.year
  pub year_to : provisional.half.year ≤ 2099
  pub index : provisional.half.index < 24
  pub order_from : 1 ≤ provisional.order
  pub order_to : provisional.order ≤ 15500

-- what the second form can write
pub record HasExtendedShape (provisional : Provisional) : Type 0 where
  pub year_from : 2000 ≤ provisional.half.year
  pub year_to : provisional.half.year ≤ 2061
  pub index : provisional.half.index < 24
  pub order_from : 15501 ≤ provisional.order
  pub order_to : provisional.order ≤ 14791836

-- Values that a packed text can show. Of them 0 as a number, 0 as a survey's number, and the years before 1925 are out
-- of the ranges of names.
abbrev pub FitsPacked : Name → Type 0
FitsPacked (names.Number number) = number.0 ≤ GREATEST_NUMBER
FitsPacked (names.Designation (designations.Provisional provisional)) =
    HasCenturyShape provisional ⊎ HasExtendedShape provisional
FitsPacked (names.Designation (designations.Survey survey number)) = number ≤ 9999

-- the text has the shape of a packed name
abbrev pub HasPackedShape : List ℕ → Type 0
HasPackedShape text = SpellsOne FitsPacked packed_text text

-- how many characters the packed form has
abbrev pub packed_length : Name → ℕ
packed_length (names.Number number) = 5
packed_length (names.Designation designation) = 7
