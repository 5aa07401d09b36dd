-- What the rules for lines ask of an office.
use Rattle.std.specs.Prelude.{ℕ, ℤ, Bool, Option}
use Rattle.obs_record.specs.declared.short.Short.{Short}
use Rattle.packed_names.specs.declared.name.Designation.{Designation}
use Rattle.packed_names.specs.declared.name.Name.{Name}

-- whether a live observation has a station, a time, a right ascension and a declination; which designation of the
-- office a number or a designation stands for, if the office gave it; and which designation is the principal one of its
-- object
pub record KnownOffice : Type 0 where
  pub has_live : Short → ℤ → ℕ → ℤ → Bool
  pub stands_for : Name → Option Designation
  pub principal : Designation → Option Designation
