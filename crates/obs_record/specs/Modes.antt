-- The letters of modes.
use Rattle.std.specs.Prelude.{ℕ, List, codes}

-- the letters of note 2 that stand for records of roving observers, radar and satellites, which this office doesn't
-- take
abbrev pub refused_modes : List ℕ
refused_modes = codes "VvRrSs"
