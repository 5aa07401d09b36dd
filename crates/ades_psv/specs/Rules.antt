-- What a data line says, field by field: an observation, or the first rule that the line breaks.
use Rattle.std.specs.Prelude.{◌≡◌, ◌≢◌, ◌⊎◌, ℕ, ◌≤◌, if◌then◌else◌, List, [], ◌∷◌, All, Option, Result, Ok, ℤ}
use Rattle.angle_fixed.specs.Degrees.{ReadsRaDegrees, ReadsDecDegrees}
use Rattle.obs_time.specs.IsoText.{IsIsoAnswer}
use Rattle.obs_record.specs.declared.rule.RuleCode.{RuleCode}
use Rattle.obs_record.specs.declared.rule.RuleCode.TheVariants.{S2, S3, S5, S6, S7, S9, S10, S11, S12}
use Rattle.obs_record.specs.declared.sighting.Coded.{Coded}
use Rattle.obs_record.specs.declared.sighting.Coded.TheVariants.{Nothing, Word}
use Rattle.obs_record.specs.declared.sighting.Shape.TheVariants.{Psv}
use Rattle.obs_record.specs.declared.sighting.Sighting.{Sighting}
use Rattle.obs_record.specs.Short.{kept_short}
use Rattle.text_lines.specs.Rules.{Judges}
use Rattle.ades_psv.specs.Fields.{Fields}
use Rattle.ades_psv.specs.Optional.{Says, IsEmptyOr, is_empty}
use Rattle.ades_psv.specs.Magnitudes.{IsMagnitude, value_of, places_of}
use Rattle.ades_psv.specs.Names.{IsNumberText, IsDesignationText, IsTemporary}

-- a byte that a data line may have: none of 0 to 31, and not 127
abbrev pub IsTextByte : ℕ → Type 0
IsTextByte byte = (32 ≤ byte) × (byte ≢ 127)

-- the text is this moment, in the ISO form
abbrev pub IsTime : List ℕ → ℤ → Type 0
IsTime text t = IsIsoAnswer text (Ok t)

-- the text is this right ascension, in degrees
abbrev pub IsRa : List ℕ → ℕ → Type 0
IsRa text ra = ReadsRaDegrees text (Ok ra)

-- the text is this declination, in degrees
abbrev pub IsDec : List ℕ → ℤ → Type 0
IsDec text dec = ReadsDecDegrees text (Ok dec)

-- no field is missing: those that each line has, one of the three names, and a band where there is a magnitude
pub record HasFields (fields : Fields) : Type 0 where
  pub station : fields.station ≢ []
  pub mode : fields.mode ≢ []
  pub time : fields.time ≢ []
  pub ra : fields.ra ≢ []
  pub dec : fields.dec ≢ []
  pub catalogue : fields.catalogue ≢ []
  pub name : (fields.perm ≢ []) ⊎ (fields.prov ≢ []) ⊎ (fields.sub ≢ [])
  pub band : fields.mag ≢ [] → fields.band ≢ []

-- the line keeps the rule; rules other than these aren't of a data line's spelling, and every line keeps them
abbrev pub Keeps : Fields → RuleCode → Type 0
Keeps fields S2 = All IsTextByte fields.line
Keeps fields S3 = IsEmptyOr IsNumberText fields.perm × IsEmptyOr IsDesignationText fields.prov
Keeps fields S5 = IsEmptyOr IsTime fields.time
Keeps fields S6 = IsEmptyOr IsRa fields.ra
Keeps fields S7 = IsEmptyOr IsDec fields.dec
Keeps fields S9 = IsEmptyOr IsMagnitude fields.mag
Keeps fields S10 = fields.count ≤ fields.columns
Keeps fields S11 = HasFields fields
Keeps fields S12 = IsEmptyOr IsTemporary fields.sub
Keeps fields rule = Unit {0}

-- the rules of a data line, in the order in which they are tested
abbrev pub line_rules : List RuleCode
line_rules = S2 ∷ S3 ∷ S5 ∷ S6 ∷ S7 ∷ S9 ∷ S10 ∷ S11 ∷ S12 ∷ []

-- what a field says whose words the tables of the office have: nothing where it is empty
abbrev pub code_of_field : List ℕ → Coded
code_of_field text = if is_empty text then Nothing else Word (kept_short text)

-- the observation is that of the fields
pub record IsSightingOf (fields : Fields) (s : Sighting) : Type 0 where
  pub perm : Says IsNumberText fields.perm s.perm
  pub prov : Says IsDesignationText fields.prov s.prov
  pub sub : Says IsTemporary fields.sub s.sub
  pub station : s.station ≡ kept_short fields.station
  pub time : IsTime fields.time s.time
  pub ra : IsRa fields.ra s.ra
  pub dec : IsDec fields.dec s.dec
  pub read : Option (ℕ × ℕ)
  pub mag : Says IsMagnitude fields.mag read
  pub value : s.mag ≡ value_of read
  pub band : s.band ≡ code_of_field fields.band
  pub mode : s.mode ≡ Word (kept_short fields.mode)
  pub catalogue : s.catalogue ≡ Word (kept_short fields.catalogue)
  -- there is no note 1
  pub note1 : s.note1 ≡ 32
  -- the shape says how many decimals the magnitude has, 0 where there is none
  pub shape : s.shape ≡ Psv (places_of read)

-- the reading of a data line: the observation of its fields where it keeps every rule, else the first rule that it
-- breaks
abbrev pub IsReading : Fields → Result Sighting RuleCode → Type 0
IsReading fields read = Judges (Keeps fields) line_rules (IsSightingOf fields) read
