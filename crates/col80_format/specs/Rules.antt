-- What an 80-column line says, column by column: an observation, or the first rule that the line breaks.
use Rattle.std.specs.Prelude.{◌≡◌, ℕ, Bool, List, [], ◌∷◌, length, All, Contains, Option, Result, Ok, ℤ}
use Rattle.ascii_text.specs.Blanks.{blanks}
use Rattle.angle_fixed.specs.Answer.{ReadsTime, ReadsArc}
use Rattle.obs_time.specs.DayText.{IsDayAnswer}
use Rattle.obs_record.specs.declared.rule.RuleCode.{RuleCode}
use Rattle.obs_record.specs.declared.rule.RuleCode.TheVariants.{S1, S2, S3, S4, S5, S6, S7, S8, S9}
use Rattle.obs_record.specs.declared.sighting.Coded.TheVariants.{Nothing}
use Rattle.obs_record.specs.declared.sighting.Shape.TheVariants.{Eighty}
use Rattle.obs_record.specs.declared.sighting.Sighting.{Sighting}
use Rattle.text_lines.specs.Rules.{Judges}
use Rattle.obs_record.specs.Short.{kept_short}
use Rattle.obs_record.specs.Sighting.{IsPrintable}
use Rattle.col80_format.specs.declared.names.Names.{Names}
use Rattle.col80_format.specs.Columns.{columns, column, coded}
use Rattle.obs_record.specs.Modes.{refused_modes}
use Rattle.col80_format.specs.Names.{AreNamesOf}
use Rattle.col80_format.specs.Magnitudes.{IsMagnitudeText}

-- the line keeps the rule; rules other than S1 to S9 aren't of a line's spelling, and every line keeps them
abbrev pub Keeps : RuleCode → List ℕ → Type 0
Keeps S1 line = length line ≡ 80
Keeps S2 line = All IsPrintable line
Keeps S3 line = (named : Names) × AreNamesOf line named
Keeps S4 line = ¬ Contains refused_modes (column 15 line)
Keeps S5 line = (read : ℤ × ℕ) × IsDayAnswer (columns 16 32 line) (Ok read)
Keeps S6 line = (read : ℕ × ℕ) × ReadsTime (columns 33 44 line) (Ok read)
Keeps S7 line = (read : ℤ × ℕ × Bool) × ReadsArc (columns 45 56 line) (Ok read)
Keeps S8 line = columns 57 65 line ≡ blanks 9
Keeps S9 line = (mag : Option ℕ) × (count : ℕ) × IsMagnitudeText (columns 66 70 line) mag count
Keeps rule line = Unit {0}

-- the rules of a line, in the order in which they are tested
abbrev pub line_rules : List RuleCode
line_rules = S1 ∷ S2 ∷ S3 ∷ S4 ∷ S5 ∷ S6 ∷ S7 ∷ S8 ∷ S9 ∷ []

-- the observation is that of the columns
pub record IsSightingOf (line : List ℕ) (s : Sighting) : Type 0 where
  -- 1 to 12: number, designation, temporary designation
  pub named : AreNamesOf line (record { perm = s.perm; prov = s.prov; sub = s.sub })
  -- 14: note 1
  pub note1 : s.note1 ≡ column 14 line
  -- 15: the mode
  pub mode : s.mode ≡ coded (column 15 line)
  -- 16 to 32: the time, and its decimals
  pub days : ℕ
  pub time : IsDayAnswer (columns 16 32 line) (Ok (s.time, days))
  -- 33 to 44: the right ascension
  pub seconds : ℕ
  pub ra : ReadsTime (columns 33 44 line) (Ok (s.ra, seconds))
  -- 45 to 56: the declination, and whether a minus stands before it
  pub arcseconds : ℕ
  pub minus : Bool
  pub dec : ReadsArc (columns 45 56 line) (Ok (s.dec, arcseconds, minus))
  -- 66 to 70: the magnitude
  pub places : ℕ
  pub mag : IsMagnitudeText (columns 66 70 line) s.mag places
  -- 71: the band
  pub band : s.band ≡ coded (column 71 line)
  -- 72 isn't read
  pub catalogue : s.catalogue ≡ Nothing
  -- 78 to 80: the station
  pub station : s.station ≡ kept_short (columns 78 80 line)
  pub shape : s.shape ≡ Eighty days seconds arcseconds minus places

-- the reading of a line: the observation of its columns where it keeps every rule, else the first rule that it breaks
abbrev pub IsReading : List ℕ → Result Sighting RuleCode → Type 0
IsReading line reading = Judges (λ rule. Keeps rule line) line_rules (IsSightingOf line) reading
