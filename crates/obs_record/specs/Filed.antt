-- What always holds of an observation on file, and of what lines say that keep the rules of their spelling.
use Rattle.std.specs.Prelude.{◌≡◌, ℕ, ◌≤◌, List, take, All, Contains, IfOk, IfSome}
use Rattle.packed_names.specs.Ranges.{IsNumber, IsDesignation}
use Rattle.obs_record.specs.declared.line.Line.{Line}
use Rattle.obs_record.specs.declared.name.TrackName.{TrackName}
use Rattle.obs_record.specs.declared.name.TrackName.TheVariants as tracks
use Rattle.obs_record.specs.declared.short.Short.{Short}
use Rattle.obs_record.specs.declared.sighting.Coded.{Coded}
use Rattle.obs_record.specs.declared.sighting.Coded.TheVariants.{Nothing, Letter, Word}
use Rattle.obs_record.specs.declared.sighting.Sighting.{Sighting}
use Rattle.obs_record.specs.Modes.{refused_modes}
use Rattle.obs_record.specs.Short.{IsShort}
use Rattle.obs_record.specs.Sighting.{IsSighting}

-- the mode isn't one of the six letters of records that aren't taken
abbrev pub IsTakenMode : Coded → Type 0
IsTakenMode Nothing = Unit {0}
IsTakenMode (Letter byte) = ¬ Contains refused_modes byte
IsTakenMode (Word short) = Unit {0}

-- a byte that is printed, a blank not included
abbrev pub IsVisible : ℕ → Type 0
IsVisible byte = (33 ≤ byte) × (byte ≤ 126)

-- a temporary designation, the observer's own name of an object
pub record IsOwnName (short : Short) : Type 0 where
  pub kept : IsShort short
  pub some : 1 ≤ short.len
  pub visible : All IsVisible (take short.len short.bytes)

-- a name that an observation may go by
abbrev pub IsTrackName : TrackName → Type 0
IsTrackName (tracks.Number number) = IsNumber number.0
IsTrackName (tracks.Designation designation) = IsDesignation designation
IsTrackName (tracks.Sub short) = IsOwnName short

-- what a line says that keeps each rule of its spelling
pub record IsStated (s : Sighting) : Type 0 where
  pub sighting : IsSighting s
  pub mode : IsTakenMode s.mode
  pub temporary : IfSome s.sub IsOwnName

-- the lines that have an observation state it so
abbrev pub AreStated : List Line → Type 0
AreStated lines = All (λ line. IfOk line.read IsStated) lines

-- an observation on file: its station is in a row of the office's tables, where codes have 3 bytes
pub record IsFiled (s : Sighting) : Type 0 where
  pub sighting : IsSighting s
  pub station : s.station.len ≡ 3
  pub mode : IsTakenMode s.mode
  pub temporary : IfSome s.sub IsOwnName
