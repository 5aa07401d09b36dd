-- What the rows of a mirror may say.
use Rattle.std.specs.Prelude.{◌≡◌, ◌⊎◌, ℕ, ◌<◌, pos, neg_ℤ, ◌≤ℤ◌, ◌<ℤ◌, true, List, [], ◌∷◌, map, take, Contains}
use Rattle.std.specs.List.{AllByRecursion}
use Rattle.angle_fixed.specs.Angles.{circle, quarter}
use Rattle.obs_time.specs.Instants.{IsInstantNs}
use Rattle.packed_names.specs.declared.label.Label.{Label}
use Rattle.packed_names.specs.declared.name.Designation.{Designation}
use Rattle.packed_names.specs.declared.name.Name.TheVariants as names
use Rattle.packed_names.specs.Labels.{IsLabelOf}
use Rattle.packed_names.specs.Printed.{IsPrintedAs}
use Rattle.packed_names.specs.Ranges.{IsNumber}
use Rattle.obs_record.specs.declared.short.Short.{Short}
use Rattle.obs_record.specs.Short.{IsShort}
use Rattle.act_bodies.specs.Members.{is_station_code}
use Rattle.mirror_store.specs.declared.rows.ObjectRow.{ObjectRow}
use Rattle.mirror_store.specs.declared.rows.SightRow.{SightRow}
use Rattle.mirror_store.specs.declared.rows.MirrorRows.{MirrorRows}

-- ---- one row

-- the label is the printed form of a designation
abbrev pub IsPrintedDesignation : Label → Type 0
IsPrintedDesignation label =
    (d : Designation) × (text : List ℕ) × IsPrintedAs (names.Designation d) text × IsLabelOf text label

-- the label is empty
abbrev pub IsEmpty : Label → Type 0
IsEmpty label = IsLabelOf [] label

-- a code of 3 letters or digits
abbrev pub IsStation : Short → Type 0
IsStation code = IsShort code × (is_station_code (take code.len code.bytes) ≡ true)

-- an object: its principal designation, and its number or 0
pub record IsObjectRow (row : ObjectRow) : Type 0 where
  pub principal : IsPrintedDesignation row.principal
  pub number : (row.number ≡ 0) ⊎ IsNumber row.number

-- an observation: its object's designation or none, a moment, angles and a station
pub record IsSightRow (row : SightRow) : Type 0 where
  pub object : IsPrintedDesignation row.object ⊎ IsEmpty row.object
  pub time : IsInstantNs row.time
  pub ra : (pos 0 ≤ℤ row.ra) × (row.ra <ℤ pos circle)
  pub dec : (neg_ℤ (pos quarter) ≤ℤ row.dec) × (row.dec ≤ℤ pos quarter)
  pub station : IsStation row.station

-- ---- two lists of them

-- each count is above the one before it
abbrev pub Ascend : List ℕ → Type 0
Ascend [] = Unit {0}
Ascend (n ∷ more) = AllByRecursion (λ later. n < later) more × Ascend more

-- no item stands twice
abbrev pub AreDifferent : {A : Type 0} → List A → Type 0
AreDifferent [] = Unit {0}
AreDifferent (x ∷ xs) = (¬ Contains xs x) × AreDifferent xs

-- The rows are in range, the objects stand by place and the observations by id, and neither a place, a principal
-- designation nor an id stands twice.
pub record AreReplaceable (rows : MirrorRows) : Type 0 where
  pub objects : AllByRecursion IsObjectRow rows.objects
  pub sights : AllByRecursion IsSightRow rows.sights
  pub places : Ascend (map (λ row. row.place) rows.objects)
  pub principals : AreDifferent (map (λ row. row.principal) rows.objects)
  pub ids : Ascend (map (λ row. row.id) rows.sights)
