-- What the station rows say of a code.
use Rattle.std.specs.Prelude.{ℕ, ℤ, Bool, ◌&&◌, ◌==◌, int_le, List, [], ◌∷◌, ◌++◌, take, filter, if◌then◌else◌}
use Rattle.std.specs.List.{list_any}
use Rattle.std.specs.Str.{bytes_eq}
use Rattle.obs_record.specs.declared.short.Short.{Short}
use Rattle.station_tables.specs.declared.serving.Serving.{Serving}
use Rattle.station_tables.specs.declared.serving.Serving.TheVariants.{Unknown, Outside, Serving as InService}
use Rattle.station_tables.specs.Rows.{StationRow, TableRows}

-- a short text is a station code where it has 3 bytes, and they are the code's
abbrev pub is_code : Short → List ℕ → Bool
is_code text code = (text.len == 3) && bytes_eq (take 3 text.bytes) code

-- the row holds the day; its first and its last day are days that it holds
abbrev pub holds_day : ℤ → StationRow → Bool
holds_day date row = int_le row.from date && int_le date row.to

-- the rows with this code
abbrev pub rows_with_code : Short → List StationRow → List StationRow
rows_with_code code rows = filter (λ row. is_code code row.code) rows

-- how these rows of one code stand on a day: Unknown where there are none, Serving where one of them holds the day,
-- else Outside
abbrev pub serving_by : List StationRow → ℤ → Serving
serving_by [] date = Unknown
serving_by (row ∷ rows) date = if list_any (holds_day date) (row ∷ rows) then InService else Outside

-- how a station code stands on a day
unfoldable pub serving_of : List StationRow → Short → ℤ → Serving
serving_of rows code date = serving_by (rows_with_code code rows) date

-- the row is one of this code, and has a day in common with the days from `from` to `to`
abbrev pub shares_day : List ℕ → ℤ → ℤ → StationRow → Bool
shares_day code from to row = bytes_eq row.code code && (int_le row.from to && int_le from row.to)

-- a row of the code has a day in common with these days
unfoldable pub overlaps : List StationRow → List ℕ → ℤ → ℤ → Bool
overlaps rows code from to = list_any (shares_day code from to) rows

-- the tables with one more station row, at the end
abbrev pub with_station_row : TableRows → StationRow → TableRows
with_station_row tables row = record { stations = tables.stations ++ row ∷ []; codes = tables.codes }
