-- Which values are comets.
use Rattle.std.specs.Prelude.{◌≤◌}
use Rattle.packed_names.specs.Ranges.{IsHalfMonth}
use Rattle.comet_names.specs.declared.comet.Comet.{Comet}

-- a comet of a half-month of the years 1925 to 2099, with a number from 1 to 99
pub record IsComet (comet : Comet) : Type 0 where
  pub half : IsHalfMonth comet.half
  pub number_from : 1 ≤ comet.number
  pub number_to : comet.number ≤ 99
