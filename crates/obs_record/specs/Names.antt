-- The name that an observation goes by.
use Rattle.std.specs.Prelude.{◌≡◌, ◌⊎◌, Some, None, IsSome}
use Rattle.obs_record.specs.declared.sighting.Sighting.{Sighting}
use Rattle.obs_record.specs.declared.name.TrackName.{TrackName}
use Rattle.obs_record.specs.declared.name.TrackName.TheVariants as tracks

-- one at least of number, designation and temporary designation is there
abbrev pub HasName : Sighting → Type 0
HasName s = IsSome s.perm ⊎ IsSome s.prov ⊎ IsSome s.sub

-- the name is the number; where there is none, the designation; and where there is none either, the temporary
-- designation
abbrev pub IsNameOf : Sighting → TrackName → Type 0
IsNameOf s (tracks.Number number) = s.perm ≡ Some number
IsNameOf s (tracks.Designation designation) = (s.perm ≡ None) × (s.prov ≡ Some designation)
IsNameOf s (tracks.Sub short) = (s.perm ≡ None) × (s.prov ≡ None) × (s.sub ≡ Some short)
