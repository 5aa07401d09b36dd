-- How a line stands to the office's tables: its station, and its letters and words.
use Rattle.std.specs.Prelude.{Bool, true, false, is_some}
use Rattle.obs_time.specs.Dates.{day_of}
use Rattle.obs_record.specs.declared.sighting.Coded.{Coded}
use Rattle.obs_record.specs.declared.sighting.Coded.TheVariants as coded
use Rattle.obs_record.specs.declared.sighting.Sighting.{Sighting}
use Rattle.station_tables.specs.declared.kind.Kind.{Kind}
use Rattle.station_tables.specs.declared.serving.Serving.{Serving}
use Rattle.station_tables.specs.declared.serving.Serving.TheVariants as serving
use Rattle.station_tables.specs.Rows.{TableRows}
use Rattle.station_tables.specs.Stations.{serving_of}
use Rattle.station_tables.specs.Codes.{word_of, letter_of}

-- no station row has the code
abbrev pub is_unknown_station : Serving → Bool
is_unknown_station serving.Unknown = true
is_unknown_station serving.Outside = false
is_unknown_station serving.Serving = false

-- rows have the code, and none of them holds the day
abbrev pub is_outside : Serving → Bool
is_outside serving.Unknown = false
is_outside serving.Outside = true
is_outside serving.Serving = false

-- the letter or the word that a line gives is in a row of the kind; a line that gives none asks for none
abbrev pub is_in_row : TableRows → Kind → Coded → Bool
is_in_row tables kind coded.Nothing = true
is_in_row tables kind (coded.Letter letter) = is_some (word_of tables.codes kind letter)
is_in_row tables kind (coded.Word word) = is_some (letter_of tables.codes kind word)

-- how the observation's station stands on the observation's day of UTC
abbrev pub station_serving : TableRows → Sighting → Serving
station_serving tables s = serving_of tables.stations s.station (day_of s.time)
