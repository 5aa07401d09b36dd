-- The text of an observation as a line of 80 columns.
use Rattle.std.specs.Prelude.{◌≡◌, ℕ, ◌-◌, ◌/◌, ◌%◌, ◌^◌, min, Bool, true, false, List, [], ◌∷◌, ◌++◌, length, take}
use Rattle.std.specs.Prelude.{Option, Some, None, Contains}
use Rattle.ascii_text.specs.Digits.{decimals_text, decimals_width}
use Rattle.ascii_text.specs.Bytes.{blank, asterisk}
use Rattle.ascii_text.specs.Blanks.{blanks}
use Rattle.angle_fixed.specs.Writing.{nearest, time_text, arc_text}
use Rattle.obs_time.specs.WrittenText.{IsTextOf, day_text_of}
use Rattle.packed_names.specs.declared.number.Number.{Number}
use Rattle.packed_names.specs.declared.name.Name.TheVariants as names
use Rattle.packed_names.specs.Packed.{packed_text}
use Rattle.obs_record.specs.declared.sighting.Shape.{Shape}
use Rattle.obs_record.specs.declared.sighting.Shape.TheVariants.{Eighty, Psv}
use Rattle.obs_record.specs.declared.sighting.Sighting.{Sighting}
use Rattle.obs_record.specs.Sighting.{IsPrintable}
use Rattle.col80_format.specs.declared.writing.Front.{Front}
use Rattle.col80_format.specs.declared.writing.Letters.{Letters}
use Rattle.col80_format.specs.declared.form.Form.{Form}
use Rattle.col80_format.specs.Columns.{columns}
use Rattle.obs_record.specs.Modes.{refused_modes}
use Rattle.col80_format.specs.Magnitudes.{whole_text}

-- The decimals with which an observation is written: those that an 80-column line came with; else 6 of the day, 3 of
-- the second, 2 of the arcsecond, and as many of the magnitude as it came with, at most 2.
abbrev pub form_of : Shape → Form
form_of (Eighty date ra dec minus mag) = record {
  days = date;
  seconds = ra;
  arcseconds = dec;
  minus = minus;
  places = mag;
}
form_of (Psv mag) = record { days = 6; seconds = 3; arcseconds = 2; minus = false; places = min mag 2 }

-- note 1: that of an 80-column line, and a blank for a line of another form
abbrev pub note_of : Shape → ℕ → ℕ
note_of (Eighty date ra dec minus mag) note1 = note1
note_of (Psv mag) note1 = blank

-- columns 1 to 5: the number as it is packed, or blanks
abbrev pub number_text : Option Number → List ℕ
number_text None = blanks 5
number_text (Some number) = packed_text (names.Number number)

-- column 13: an asterisk, or a blank
abbrev pub star_byte : Bool → ℕ
star_byte false = blank
star_byte true = asterisk

-- how many units of the last place are nearest to a magnitude; of two that are equally near the greater
abbrev pub steps_of : ℕ → ℕ → ℕ
steps_of places mag = nearest mag (10 ^ (6 - places))

-- columns 66 to 70: the magnitude, or blanks
unfoldable pub magnitude_text : ℕ → Option ℕ → List ℕ
magnitude_text places None = blanks 5
magnitude_text places (Some mag) =
    whole_text (steps_of places mag / 10 ^ places) ++ decimals_text places (steps_of places mag % 10 ^ places)
    ++ blanks (3 - decimals_width places)

-- columns 1 to 15
abbrev pub front_text : Sighting → Front → Letters → List ℕ
front_text s front letters =
    number_text front.number ++ front.name ++ (star_byte front.star ∷ note_of s.shape s.note1 ∷ letters.mode ∷ [])

-- columns 33 to 56: right ascension and declination
abbrev pub angles_text : Sighting → Form → List ℕ
angles_text s form = time_text s.ra form.seconds ++ arc_text s.dec form.arcseconds form.minus

-- columns 57 to 80: nine blanks, the magnitude, the letters of band and catalogue, five blanks, the station
abbrev pub back_text : Sighting → Form → Letters → List ℕ
back_text s form letters =
    blanks 9 ++ magnitude_text form.places s.mag ++ (letters.band ∷ letters.catalogue ∷ []) ++ blanks 5
    ++ take 3 s.station.bytes

-- the line with this text in columns 16 to 32
abbrev pub line_with : Sighting → Front → Letters → List ℕ → List ℕ
line_with s front letters day =
    front_text s front letters ++ (day ++ (angles_text s (form_of s.shape) ++ back_text s (form_of s.shape) letters))

-- the line
unfoldable pub line_text : Sighting → Front → Letters → List ℕ
line_text s front letters = line_with s front letters (day_text_of s.time (form_of s.shape).days)

-- what makes it right: columns 16 to 32 are the text of the time, and the others are as they are
pub record IsLineText (s : Sighting) (front : Front) (letters : Letters) (text : List ℕ) : Type 0 where
  pub day : List ℕ
  pub day_long : length day ≡ 17
  pub day_is : IsTextOf s.time (form_of s.shape).days day
  pub text_is : text ≡ line_with s front letters day

-- the letters are printed, and the mode's is none of those of refused records
pub record AreLetters (letters : Letters) : Type 0 where
  pub mode : IsPrintable letters.mode
  pub kind : ¬ Contains refused_modes letters.mode
  pub band : IsPrintable letters.band
  pub catalogue : IsPrintable letters.catalogue

-- two lines are the same in columns 14 to 56, 66 to 71 and 78 to 80
pub record IsSameLine (line other : List ℕ) : Type 0 where
  pub observed : columns 14 56 line ≡ columns 14 56 other
  pub measured : columns 66 71 line ≡ columns 66 71 other
  pub station : columns 78 80 line ≡ columns 78 80 other
