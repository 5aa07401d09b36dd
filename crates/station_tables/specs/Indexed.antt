-- How the rows stand in their indexes.
use Rattle.std.specs.Prelude.{◌≡◌, ℕ, ℤ, Bool, ◌&&◌, int_le, List, [], map, filter, unwrap_or}
use Rattle.std.specs.Map.{lookup}
use Rattle.std.specs.Str.{bytes_eq}
use Rattle.obs_record.specs.declared.short.Short.{Short}
use Rattle.station_tables.specs.declared.kind.Kind.{Kind}
use Rattle.station_tables.specs.declared.keys.StationCode.{StationCode}
use Rattle.station_tables.specs.declared.keys.LetterKey.{LetterKey}
use Rattle.station_tables.specs.declared.keys.WordKey.{WordKey}
use Rattle.station_tables.specs.declared.stations.Row.{Row}
use Rattle.station_tables.specs.Rows.{StationRow, CodeRow, TableRows}

-- the station row that a stored row stands for
abbrev pub station_row : Row → StationRow
station_row row = record { code = row.code; from = row.from; to = row.to }

-- the row is one of this code
abbrev pub has_code : List ℕ → Row → Bool
has_code code row = bytes_eq code row.code

-- the row has a day in common with the days from `from` to `to`
abbrev pub shares_days : ℤ → ℤ → Row → Bool
shares_days from to row = int_le row.from to && int_le from row.to

-- the rows that an index has for a code
abbrev pub rows_at : List (StationCode × List Row) → List ℕ → List Row
rows_at entries code = unwrap_or (lookup (λ key. bytes_eq code key.code) entries) []

-- for each code the index has the rows of the code, in their order
abbrev pub IsByCode : List (StationCode × List Row) → List Row → Type 0
IsByCode entries rows = (code : List ℕ) → rows_at entries code ≡ filter (has_code code) rows

-- the code row that an entry by its letter stands for
abbrev pub code_row : LetterKey × Short → CodeRow
code_row entry = record { kind = entry.0.kind; letter = entry.0.letter; word = entry.1 }

-- the key of a word of a kind
abbrev pub word_key : Kind → Short → WordKey
word_key kind word = record { kind = kind; len = word.len; bytes = word.bytes }

-- the same row as an entry by its word
abbrev pub by_word : LetterKey × Short → WordKey × ℕ
by_word entry = (word_key entry.0.kind entry.1, entry.0.letter)

-- the rows that the stored rows and the entries stand for, in their order
abbrev pub rows_of : List Row → List (LetterKey × Short) → TableRows
rows_of stations words = record { stations = map station_row stations; codes = map code_row words }

-- both indexes of the code rows hold the same rows in the same order
abbrev pub IsPaired : List (LetterKey × Short) → List (WordKey × ℕ) → Type 0
IsPaired words letters = letters ≡ map by_word words
