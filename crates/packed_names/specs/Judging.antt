-- What is answered on the values that a text shows: themselves where they are in range.
use Rattle.std.specs.Prelude.{ℕ, Bool, nat_le, nat_lt, ◌&&◌, if◌then◌else◌, Option, Result, Ok, Err}
use Rattle.ascii_text.specs.Judged.{answer_of}
use Rattle.packed_names.specs.declared.half_month.HalfMonth.{HalfMonth}
use Rattle.packed_names.specs.declared.number.TheConstants.{GREATEST_NUMBER}
use Rattle.packed_names.specs.declared.provisional.Provisional.{Provisional}
use Rattle.packed_names.specs.declared.name.Designation.TheVariants as designations
use Rattle.packed_names.specs.declared.name.Name.{Name}
use Rattle.packed_names.specs.declared.name.Name.TheVariants as names
use Rattle.packed_names.specs.declared.name.NameFault.{NameFault}
use Rattle.packed_names.specs.declared.name.NameFault.TheVariants.{Spelling, OutOfRange}
use Rattle.packed_names.specs.Ranges.{limit_of}

-- whether a number lies between two others
abbrev pub is_within : ℕ → ℕ → ℕ → Bool
is_within from to number = nat_le from number && nat_le number to

-- whether a half-month is one of the years 1925 to 2099
abbrev pub is_half_month : HalfMonth → Bool
is_half_month half = is_within 1925 2099 half.year && nat_lt half.index 24

-- whether a half-month is one, and has a designation of this order
abbrev pub is_provisional : Provisional → Bool
is_provisional provisional =
    is_half_month provisional.half && is_within 1 (limit_of provisional.half) provisional.order

-- whether the fields of a name are in their ranges
abbrev pub is_in_range : Name → Bool
is_in_range (names.Number number) = is_within 1 GREATEST_NUMBER number.0
is_in_range (names.Designation (designations.Provisional provisional)) = is_provisional provisional
is_in_range (names.Designation (designations.Survey survey number)) = is_within 1 9999 number

-- the values where they pass the test
abbrev pub judge : {P : Type 0} → (P → Bool) → P → Result P NameFault
judge test values = if test values then Ok values else Err OutOfRange

-- the answer to a text from which reading gave these values, or none
abbrev pub answered : {P : Type 0} → (P → Bool) → Option P → Result P NameFault
answered test read = answer_of (judge test) Spelling read
