-- The letters that may stand for a thing of a kind.
use Rattle.std.specs.Prelude.{◌≡◌, ℕ, Contains}
use Rattle.obs_record.specs.Modes.{refused_modes}
use Rattle.obs_record.specs.Sighting.{IsPrintable}
use Rattle.station_tables.specs.declared.kind.Kind.{Kind}
use Rattle.station_tables.specs.declared.kind.Kind.TheVariants.{Mode}

-- the letter is printed, and no mode has one of the six letters of records that aren't taken
pub record IsLetterOf (kind : Kind) (letter : ℕ) : Type 0 where
  pub printed : IsPrintable letter
  pub taken : kind ≡ Mode → ¬ Contains refused_modes letter
