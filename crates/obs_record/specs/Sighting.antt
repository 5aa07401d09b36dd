-- What the fields of an observation may be.
use Rattle.std.specs.Prelude.{ℕ, ◌<◌, ◌≤◌, pos, neg_ℤ, ◌≤ℤ◌, IfSome}
use Rattle.angle_fixed.specs.Angles.{circle, quarter}
use Rattle.obs_time.specs.Instants.{IsInstantNs}
use Rattle.packed_names.specs.Ranges.{IsNumber, IsDesignation}
use Rattle.obs_record.specs.declared.sighting.Coded.{Coded}
use Rattle.obs_record.specs.declared.sighting.Coded.TheVariants.{Nothing, Letter, Word}
use Rattle.obs_record.specs.declared.sighting.Shape.{Shape}
use Rattle.obs_record.specs.declared.sighting.Shape.TheVariants.{Eighty, Psv}
use Rattle.obs_record.specs.declared.sighting.Sighting.{Sighting}
use Rattle.obs_record.specs.Short.{IsShort}
use Rattle.obs_record.specs.Magnitudes.{greatest_magnitude, HasDecimals}
use Rattle.obs_record.specs.Names.{HasName}

-- a byte that is printed, a blank included
abbrev pub IsPrintable : ℕ → Type 0
IsPrintable byte = (32 ≤ byte) × (byte ≤ 126)

-- a letter is printed
abbrev pub IsCoded : Coded → Type 0
IsCoded Nothing = Unit {0}
IsCoded (Letter byte) = IsPrintable byte
IsCoded (Word short) = IsShort short

-- the numbers of decimals that each form of line has
abbrev pub IsShape : Shape → Type 0
IsShape (Eighty date ra dec minus mag) = (1 ≤ date) × (date ≤ 6) × (ra ≤ 3) × (dec ≤ 2) × (mag ≤ 2)
IsShape (Psv mag) = mag ≤ 6

-- how many decimals the magnitude has
abbrev pub places_of : Shape → ℕ
places_of (Eighty date ra dec minus mag) = mag
places_of (Psv mag) = mag

-- an observation that a line may have
pub record IsSighting (s : Sighting) : Type 0 where
  pub number : IfSome s.perm (λ number. IsNumber number.0)
  pub designation : IfSome s.prov IsDesignation
  pub temporary : IfSome s.sub IsShort
  pub named : HasName s
  pub station : IsShort s.station
  pub time : IsInstantNs s.time
  pub ra : s.ra < circle
  pub dec : (neg_ℤ (pos quarter) ≤ℤ s.dec) × (s.dec ≤ℤ pos quarter)
  pub magnitude : IfSome s.mag (λ mag. mag ≤ greatest_magnitude)
  -- the shape says how many decimals it has at most
  pub decimals : HasDecimals s.mag (places_of s.shape)
  pub band : IsCoded s.band
  pub mode : IsCoded s.mode
  pub catalogue : IsCoded s.catalogue
  pub note1 : IsPrintable s.note1
  pub shape : IsShape s.shape
