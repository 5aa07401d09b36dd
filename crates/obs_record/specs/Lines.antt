-- The lines of a batch.
use Rattle.std.specs.Prelude.{List, All, IfOk}
use Rattle.obs_record.specs.declared.line.Line.{Line}
use Rattle.obs_record.specs.Sighting.{IsSighting}

-- the observations among the lines have their fields in their ranges
abbrev pub AreInRange : List Line → Type 0
AreInRange lines = All (λ line. IfOk line.read IsSighting) lines
