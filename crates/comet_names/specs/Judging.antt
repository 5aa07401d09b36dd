-- Which of the values that a text shows are in range.
use Rattle.std.specs.Prelude.{Bool, ◌&&◌}
use Rattle.packed_names.specs.Judging.{is_within, is_half_month}
use Rattle.comet_names.specs.declared.comet.Comet.{Comet}

-- whether the fields of a comet are in their ranges
abbrev pub is_comet : Comet → Bool
is_comet comet = is_half_month comet.half && is_within 1 99 comet.number
