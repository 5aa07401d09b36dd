-- What a data line says, worked out rule by rule.
use Rattle.std.specs.Prelude.{ℕ, Bool, not, ◌&&◌, ◌||◌, nat_le, ◌==◌, if◌then◌else◌, List, Option, Some, None, Result}
use Rattle.std.specs.Prelude.{Ok, Err, ℤ}
use Rattle.std.specs.List.{list_all}
use Rattle.angle_fixed.specs.Degrees.{ra_degrees_of, dec_degrees_of}
use Rattle.obs_time.specs.IsoText.{iso_of}
use Rattle.obs_record.specs.declared.rule.RuleCode.{RuleCode}
use Rattle.obs_record.specs.declared.rule.RuleCode.TheVariants.{S2, S5, S6, S7, S10, S11}
use Rattle.obs_record.specs.declared.short.Short.{Short}
use Rattle.obs_record.specs.declared.sighting.Coded.TheVariants.{Word}
use Rattle.obs_record.specs.declared.sighting.Shape.TheVariants.{Psv}
use Rattle.obs_record.specs.declared.sighting.Sighting.{Sighting}
use Rattle.obs_record.specs.Short.{kept_short}
use Rattle.ades_psv.specs.declared.names.Names.{Names}
use Rattle.ades_psv.specs.declared.position.Stated.{Stated}
use Rattle.ades_psv.specs.declared.position.Position.{Position}
use Rattle.text_lines.specs.Steps.{◌>>=◌, or_breaks}
use Rattle.ades_psv.specs.Fields.{Fields}
use Rattle.ades_psv.specs.Optional.{is_empty, unless_empty}
use Rattle.ades_psv.specs.Magnitudes.{value_of, places_of, magnitude_in}
use Rattle.ades_psv.specs.Names.{number_in, designation_in, temporary_in}
use Rattle.ades_psv.specs.Rules.{code_of_field}

-- a byte that a data line may have
abbrev pub is_text_byte : ℕ → Bool
is_text_byte byte = nat_le 32 byte && not (byte == 127)

-- rules S2 and S3: the number and the designation
unfoldable pub names_in : Fields → Result Names RuleCode
names_in fields =
    if not (list_all is_text_byte fields.line) then Err S2
    else (number_in fields.perm >>= λ number.
    designation_in fields.prov >>= λ designation.
    Ok (record { perm = number; prov = designation }))

-- the time in a field
unfoldable pub time_in : List ℕ → Result (Option ℤ) RuleCode
time_in text = unless_empty text (or_breaks S5 (iso_of text))

-- the right ascension in a field
unfoldable pub ra_in : List ℕ → Result (Option ℕ) RuleCode
ra_in text = unless_empty text (or_breaks S6 (ra_degrees_of text))

-- the declination in a field
unfoldable pub dec_in : List ℕ → Result (Option ℤ) RuleCode
dec_in text = unless_empty text (or_breaks S7 (dec_degrees_of text))

-- rules S5 to S7: what is said of when and where
unfoldable pub stated_in : Fields → Result Stated RuleCode
stated_in fields = do
  time ← time_in fields.time
  ra ← ra_in fields.ra
  dec ← dec_in fields.dec
  Ok (record { time = time; ra = ra; dec = dec })

-- one of the fields that a line has beside time and place is missing
unfoldable pub lacks_field : Fields → Bool
lacks_field fields =
    is_empty fields.station || (is_empty fields.mode || is_empty fields.catalogue)

-- all three names are missing
unfoldable pub lacks_name : Fields → Bool
lacks_name fields =
    is_empty fields.perm && (is_empty fields.prov && is_empty fields.sub)

-- a magnitude has no band
unfoldable pub lacks_band : Fields → Bool
lacks_band fields = not (is_empty fields.mag) && is_empty fields.band

-- what is stated, or rule S11 where it is missing
abbrev pub or_missing : {A : Type 0} → Option A → Result A RuleCode
or_missing (Some x) = Ok x
or_missing None = Err S11

-- when and where, where all of it is stated
unfoldable pub position_from : Stated → Result Position RuleCode
position_from stated = do
  time ← or_missing stated.time
  ra ← or_missing stated.ra
  dec ← or_missing stated.dec
  Ok (record { time = time; ra = ra; dec = dec })

-- rules S10 and S11: when and where, where no field is too many and none is missing
unfoldable pub position_in : Fields → Stated → Result Position RuleCode
position_in fields stated =
    if not (nat_le fields.count fields.columns) then Err S10
    else (if lacks_field fields || (lacks_name fields || lacks_band fields) then Err S11
    else position_from stated)

-- the observation of what was read, and of the fields that any text may stand in
abbrev pub sighting_of_fields : Fields → Names → Position → Option (ℕ × ℕ) → Option Short → Sighting
sighting_of_fields fields names at mag sub = record {
  perm = names.perm;
  prov = names.prov;
  sub = sub;
  station = kept_short fields.station;
  time = at.time;
  ra = at.ra;
  dec = at.dec;
  mag = value_of mag;
  band = code_of_field fields.band;
  mode = Word (kept_short fields.mode);
  catalogue = Word (kept_short fields.catalogue);
  note1 = 32;
  shape = Psv (places_of mag);
}

-- what a data line says
unfoldable pub reading_of : Fields → Result Sighting RuleCode
reading_of fields = do
  names ← names_in fields
  stated ← stated_in fields
  mag ← magnitude_in fields.mag
  at ← position_in fields stated
  sub ← temporary_in fields.sub
  Ok (sighting_of_fields fields names at mag sub)
