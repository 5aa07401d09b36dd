-- Which rows of a query show an object or an observation.
use Rattle.std.specs.Prelude.{◌≡◌, ℕ, ◌≤◌, ℤ, pos, neg_ℤ, ◌≤ℤ◌, ◌<ℤ◌, List}
use Rattle.angle_fixed.specs.Angles.{circle, quarter}
use Rattle.packed_names.specs.declared.name.Designation.{Designation}
use Rattle.packed_names.specs.declared.name.Name.TheVariants as names
use Rattle.packed_names.specs.Printed.{IsPrintedAs}
use Rattle.sqlite.specs.declared.types.Value.{Value}
use Rattle.sqlite.specs.declared.types.Value.TheVariants.{Int}
use Rattle.sqlite.specs.Order.{Row}
use Rattle.mirror_store.specs.declared.rows.ObjectRow.{ObjectRow}
use Rattle.mirror_store.specs.declared.rows.SightRow.{SightRow}
use Rattle.mirror_store.specs.Rows.{IsObjectRow, IsSightRow}
use Rattle.mirror_sqlite.specs.Stored.{shown_object, shown_sight}

-- ---- one value

-- the greatest count of 32 bits
abbrev pub greatest_count : ℕ
greatest_count = 4294967295

-- a whole number from 0 to the greatest one
abbrev pub IsCount : ℕ → Value → Type 0
IsCount greatest value = (n : ℕ) × (n ≤ greatest) × (value ≡ Int (pos n))

-- an integer in a range
abbrev pub IsIntegerIn : (ℤ → Type 0) → Value → Type 0
IsIntegerIn InRange value = (n : ℤ) × InRange n × (value ≡ Int n)

-- 0 and more, and less than a circle
abbrev pub IsRightAscension : ℤ → Type 0
IsRightAscension ra = (pos 0 ≤ℤ ra) × (ra <ℤ pos circle)

-- from a quarter of a circle south to one north
abbrev pub IsDeclination : ℤ → Type 0
IsDeclination dec = (neg_ℤ (pos quarter) ≤ℤ dec) × (dec ≤ℤ pos quarter)

-- the text is the printed form of a designation
abbrev pub IsDesignationText : List ℕ → Type 0
IsDesignationText text = (d : Designation) × IsPrintedAs (names.Designation d) text

-- ---- a row

-- the row shows an object that is in range
abbrev pub ShowsObject : Row → Type 0
ShowsObject row =
    (object : ObjectRow) × IsObjectRow object × (object.place ≤ greatest_count)
    × (object.observations ≤ greatest_count) × (row ≡ shown_object object)

-- the row shows an observation that is in range
abbrev pub ShowsSight : Row → Type 0
ShowsSight row = (sight : SightRow) × IsSightRow sight × (sight.id ≤ greatest_count) × (row ≡ shown_sight sight)
