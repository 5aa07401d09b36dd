-- What an 80-column line says, worked out from its front to its end.
use Rattle.std.specs.Prelude.{ℕ, not, ◌==◌, if◌then◌else◌, List, length, Option, Result, Ok, Err}
use Rattle.std.specs.List.{list_all, list_any}
use Rattle.ascii_text.specs.Blanks.{are_blanks}
use Rattle.ascii_text.specs.Judged.{answer_of}
use Rattle.angle_fixed.specs.declared.fault.AngleFault.TheVariants.{Spelling}
use Rattle.angle_fixed.specs.Reading.{parts_at, time_answer, signed_parts_at, arc_answer}
use Rattle.obs_time.specs.DayText.{day_fraction_of}
use Rattle.obs_record.specs.declared.rule.RuleCode.{RuleCode}
use Rattle.obs_record.specs.declared.rule.RuleCode.TheVariants.{S1, S2, S4, S5, S6, S7, S8}
use Rattle.obs_record.specs.declared.sighting.Coded.TheVariants.{Nothing}
use Rattle.obs_record.specs.declared.sighting.Shape.TheVariants.{Eighty}
use Rattle.obs_record.specs.declared.sighting.Sighting.{Sighting}
use Rattle.obs_record.specs.Short.{kept_short}
use Rattle.col80_format.specs.declared.names.Names.{Names}
use Rattle.col80_format.specs.declared.reading.Position.{Position}
use Rattle.ascii_text.specs.Bytes.{is_printable}
use Rattle.col80_format.specs.Columns.{columns, column, coded}
use Rattle.obs_record.specs.Modes.{refused_modes}
use Rattle.text_lines.specs.Steps.{◌>>=◌, or_breaks}
use Rattle.col80_format.specs.Names.{names_in}
use Rattle.col80_format.specs.Magnitudes.{magnitude_in}

-- columns 1 to 15: rules S1 to S4
unfoldable pub head_of : List ℕ → Result Names RuleCode
head_of line =
    if not (length line == 80) then Err S1
    else (if not (list_all is_printable line) then Err S2
    else (names_in line >>= λ named.
    if list_any (λ mode. mode == column 15 line) refused_modes then Err S4 else Ok named))

-- columns 16 to 56: rules S5 to S7
unfoldable pub position_of : List ℕ → Result Position RuleCode
position_of line = do
  time ← or_breaks S5 (day_fraction_of (columns 16 32 line))
  ra ← or_breaks S6 (answer_of time_answer Spelling (parts_at (columns 33 44 line)))
  dec ← or_breaks S7 (answer_of arc_answer Spelling (signed_parts_at (columns 45 56 line)))
  Ok (record {
    time = time.0;
    days = time.1;
    ra = ra.0;
    seconds = ra.1;
    dec = dec.0;
    arcseconds = dec.1;
    minus = dec.2;
  })

-- columns 57 to 70: rules S8 and S9
unfoldable pub tail_of : List ℕ → Result (Option ℕ × ℕ) RuleCode
tail_of line = if not (are_blanks (columns 57 65 line)) then Err S8 else magnitude_in (columns 66 70 line)

-- the observation of these parts and of the columns that any character may stand in
abbrev pub observed : List ℕ → Names → Position → Option ℕ × ℕ → Sighting
observed line named at mag = record {
  perm = named.perm;
  prov = named.prov;
  sub = named.sub;
  station = kept_short (columns 78 80 line);
  time = at.time;
  ra = at.ra;
  dec = at.dec;
  mag = mag.0;
  band = coded (column 71 line);
  mode = coded (column 15 line);
  catalogue = Nothing;
  note1 = column 14 line;
  shape = Eighty at.days at.seconds at.arcseconds at.minus mag.1;
}

-- what a line says
unfoldable pub reading_of : List ℕ → Result Sighting RuleCode
reading_of line = do
  named ← head_of line
  at ← position_of line
  mag ← tail_of line
  Ok (observed line named at mag)
