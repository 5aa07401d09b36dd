-- How the catalogue writes an observation: as a line of 80 columns.
use Rattle.std.specs.Prelude.{ℕ, false, List, [], ◌++◌, take, Option, Some, None, unwrap_or}
use Rattle.ascii_text.specs.Bytes.{blank}
use Rattle.ascii_text.specs.Blanks.{blanks}
use Rattle.obs_record.specs.declared.name.TrackName.{TrackName}
use Rattle.obs_record.specs.declared.name.TrackName.TheVariants as tracks
use Rattle.obs_record.specs.declared.sighting.Coded.{Coded}
use Rattle.obs_record.specs.declared.sighting.Coded.TheVariants.{Nothing, Letter, Word}
use Rattle.obs_record.specs.declared.sighting.Sighting.{Sighting}
use Rattle.station_tables.specs.declared.kind.Kind.{Kind}
use Rattle.station_tables.specs.declared.kind.Kind.TheVariants.{Catalogue, Band, Mode}
use Rattle.station_tables.specs.Codes.{letter_of}
use Rattle.station_tables.specs.Rows.{CodeRow}
use Rattle.col80_format.specs.declared.writing.Front.{Front}
use Rattle.col80_format.specs.declared.writing.Letters.{Letters}
use Rattle.col80_format.specs.LineText.{line_text}
use Rattle.act_model.specs.QueryTexts.{short_text}
use Rattle.act_model.specs.Texts.{line_of}

-- the letter of a column: the one that the observation came with; for a word that of the first row that has the word;
-- or a blank
abbrev pub letter_for : List CodeRow → Kind → Coded → ℕ
letter_for codes kind Nothing = blank
letter_for codes kind (Letter byte) = byte
letter_for codes kind (Word word) = unwrap_or (letter_of codes kind word) blank

abbrev pub letters_for : List CodeRow → Sighting → Letters
letters_for codes s =
    record {
      mode = letter_for codes Mode s.mode;
      band = letter_for codes Band s.band;
      catalogue = letter_for codes Catalogue s.catalogue;
    }

-- the first seven characters of a text, filled with blanks
abbrev pub in_seven : List ℕ → List ℕ
in_seven text = take 7 (text ++ blanks 7)

-- what columns 6 to 12 say of an isolated tracklet: the name that its observers gave it, and nothing where it came
-- under a number or a designation
abbrev pub own_name : TrackName → List ℕ
own_name (tracks.Sub short) = short_text short
own_name (tracks.Number number) = []
own_name (tracks.Designation d) = []

-- columns 1 to 13 of the lines of an isolated tracklet
abbrev pub track_front : TrackName → Front
track_front name = record { number = None; name = in_seven (own_name name); star = false }

-- the line of an observation after these columns; none for an observation that isn't there
abbrev pub written_line : List CodeRow → Front → Option Sighting → List ℕ
written_line codes front None = []
written_line codes front (Some s) = line_of (line_text s front (letters_for codes s))
