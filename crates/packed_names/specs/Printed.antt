-- Names as people print them: `100000`, `2024 EA1`, `2040 P-L`.
use Rattle.std.specs.Prelude.{ℕ, zero, suc, ◌≤◌, ◌<◌, ◌^◌, List, [], ◌∷◌, ◌++◌, codes}
use Rattle.std.specs.Fmt.{decimal}
use Rattle.ascii_text.specs.declared.digits.Radix.TheVariants.{Ten}
use Rattle.ascii_text.specs.Digits.{digits_text}
use Rattle.packed_names.specs.declared.half_month.HalfMonth.{HalfMonth}
use Rattle.packed_names.specs.declared.provisional.Provisional.{Provisional}
use Rattle.packed_names.specs.declared.survey.Survey.{Survey}
use Rattle.packed_names.specs.declared.survey.Survey.TheVariants.{PalomarLeiden, T1, T2, T3}
use Rattle.packed_names.specs.declared.name.Designation.TheVariants as designations
use Rattle.packed_names.specs.declared.name.Name.{Name}
use Rattle.packed_names.specs.declared.name.Name.TheVariants as names
use Rattle.packed_names.specs.Letters.{letter_of}
use Rattle.packed_names.specs.Orders.{letter_index, cycle_of}
use Rattle.packed_names.specs.Ranges.{IsName, IsHalfMonth}
use Rattle.packed_names.specs.Spellings.{Spells, SpellsOne}

-- year, blank, letter: `2024 E`
unfoldable pub half_text : HalfMonth → List ℕ
half_text half = digits_text Ten 4 half.year ++ (32 ∷ letter_of half.index ∷ [])

-- the cycle without leading zeros; nothing for the first, 0
unfoldable pub cycle_text : ℕ → List ℕ
cycle_text zero = []
cycle_text (suc before) = decimal (suc before)

-- half-month, order letter, cycle: `2024 EA1`
unfoldable pub provisional_text : Provisional → List ℕ
provisional_text provisional =
    digits_text Ten 4 provisional.half.year
    ++ (32 ∷ letter_of provisional.half.index ∷ letter_of (letter_index provisional.order)
    ∷ cycle_text (cycle_of provisional.order))

-- what a survey's designations end with
unfoldable pub suffix : Survey → List ℕ
suffix PalomarLeiden = codes "P-L"
suffix T1 = codes "T-1"
suffix T2 = codes "T-2"
suffix T3 = codes "T-3"

-- number, blank, suffix: `2040 P-L`
unfoldable pub survey_text : Survey → ℕ → List ℕ
survey_text survey number = decimal number ++ (32 ∷ suffix survey)

-- the printed text of a name; a number is its digits without leading zeros
abbrev pub printed_text : Name → List ℕ
printed_text (names.Number number) = decimal number.0
printed_text (names.Designation (designations.Provisional provisional)) = provisional_text provisional
printed_text (names.Designation (designations.Survey survey number)) = survey_text survey number

-- the name is printed as the text
abbrev pub IsPrintedAs : Name → List ℕ → Type 0
IsPrintedAs name text = Spells IsName printed_text name text

-- the text is the printed form of a name
abbrev pub IsPrintedName : List ℕ → Type 0
IsPrintedName text = SpellsOne IsName printed_text text

-- what the printed shape of a half-month can show: any year of four digits
abbrev pub FitsPrintedHalf : HalfMonth → Type 0
FitsPrintedHalf half = (half.year < 10 ^ 4) × (half.index < 24)

-- Values that a printed text can show: a number of at most 10 digits, a year of four digits, a cycle of at most 7, a
-- survey's number of at most 5. Most of them are out of the ranges of names.
abbrev pub FitsPrinted : Name → Type 0
FitsPrinted (names.Number number) = number.0 < 10 ^ 10
FitsPrinted (names.Designation (designations.Provisional provisional)) =
    FitsPrintedHalf provisional.half × (1 ≤ provisional.order) × (cycle_of provisional.order < 10 ^ 7)
FitsPrinted (names.Designation (designations.Survey survey number)) = number < 10 ^ 5

-- the text has the shape of a printed name
abbrev pub HasPrintedShape : List ℕ → Type 0
HasPrintedShape text = SpellsOne FitsPrinted printed_text text

-- the half-month is printed as the text
abbrev pub IsHalfPrintedAs : HalfMonth → List ℕ → Type 0
IsHalfPrintedAs half text = Spells IsHalfMonth half_text half text

-- the text is the printed form of a half-month
abbrev pub IsPrintedHalf : List ℕ → Type 0
IsPrintedHalf text = SpellsOne IsHalfMonth half_text text

-- the text has the shape of a printed half-month
abbrev pub HasPrintedHalfShape : List ℕ → Type 0
HasPrintedHalfShape text = SpellsOne FitsPrintedHalf half_text text
