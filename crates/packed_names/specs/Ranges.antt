-- Which values are names.
use Rattle.std.specs.Prelude.{ℕ, ◌≤◌, ◌<◌, nat_le, ◌&&◌, if◌then◌else◌}
use Rattle.packed_names.specs.declared.half_month.HalfMonth.{HalfMonth}
use Rattle.packed_names.specs.declared.number.TheConstants.{GREATEST_NUMBER}
use Rattle.packed_names.specs.declared.provisional.Provisional.{Provisional}
use Rattle.packed_names.specs.declared.name.Designation.{Designation}
use Rattle.packed_names.specs.declared.name.Designation.TheVariants as designations
use Rattle.packed_names.specs.declared.name.Name.{Name}
use Rattle.packed_names.specs.declared.name.Name.TheVariants as names

-- a half-month of the years 1925 to 2099
pub record IsHalfMonth (half : HalfMonth) : Type 0 where
  pub year_from : 1925 ≤ half.year
  pub year_to : half.year ≤ 2099
  pub index : half.index < 24

-- How many designations a half-month has: as many as the two packed forms write together in the years 2000 to 2061,
-- where both serve, and as many as the first form writes in the others.
abbrev pub limit_of : HalfMonth → ℕ
limit_of half = if nat_le 2000 half.year && nat_le half.year 2061 then 14791836 else 15500

-- a designation that a half-month has
pub record IsProvisional (provisional : Provisional) : Type 0 where
  pub half : IsHalfMonth provisional.half
  pub order_from : 1 ≤ provisional.order
  pub order_to : provisional.order ≤ limit_of provisional.half

-- a number that a minor planet can have
abbrev pub IsNumber : ℕ → Type 0
IsNumber number = (1 ≤ number) × (number ≤ GREATEST_NUMBER)

-- a number that a survey gave
abbrev pub IsSurveyNumber : ℕ → Type 0
IsSurveyNumber number = (1 ≤ number) × (number ≤ 9999)

-- a designation whose fields are in their ranges
abbrev pub IsDesignation : Designation → Type 0
IsDesignation (designations.Provisional provisional) = IsProvisional provisional
IsDesignation (designations.Survey survey number) = IsSurveyNumber number

-- a name whose fields are in their ranges
abbrev pub IsName : Name → Type 0
IsName (names.Number number) = IsNumber number.0
IsName (names.Designation designation) = IsDesignation designation
