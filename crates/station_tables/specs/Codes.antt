-- What the code rows say of a letter or a word.
use Rattle.std.specs.Prelude.{ℕ, Bool, true, false, ◌&&◌, ◌||◌, ◌==◌, List, [], ◌∷◌, ◌++◌, Option, find}
use Rattle.std.specs.List.{list_any}
use Rattle.std.specs.Option.{option_map}
use Rattle.std.specs.Str.{bytes_eq}
use Rattle.obs_record.specs.declared.short.Short.{Short}
use Rattle.station_tables.specs.declared.kind.Kind.{Kind}
use Rattle.station_tables.specs.declared.kind.Kind.TheVariants.{Catalogue, Band, Mode}
use Rattle.station_tables.specs.Rows.{CodeRow, TableRows}

-- the two kinds are the same
abbrev pub same_kind : Kind → Kind → Bool
same_kind Catalogue Catalogue = true
same_kind Band Band = true
same_kind Mode Mode = true
same_kind _ _ = false

-- the two short texts are the same
abbrev pub same_word : Short → Short → Bool
same_word a b = (a.len == b.len) && bytes_eq a.bytes b.bytes

-- the row is of the kind and has the letter
abbrev pub has_letter : Kind → ℕ → CodeRow → Bool
has_letter kind letter row = same_kind kind row.kind && (letter == row.letter)

-- the row is of the kind and has the word
abbrev pub has_word : Kind → Short → CodeRow → Bool
has_word kind word row = same_kind kind row.kind && same_word word row.word

-- the word of the first row of the kind that has the letter
unfoldable pub word_of : List CodeRow → Kind → ℕ → Option Short
word_of rows kind letter = option_map (λ row. row.word) (find (has_letter kind letter) rows)

-- the letter of the first row of the kind that has the word
unfoldable pub letter_of : List CodeRow → Kind → Short → Option ℕ
letter_of rows kind word = option_map (λ row. row.letter) (find (has_word kind word) rows)

-- a row of the kind has the letter or the word
unfoldable pub has_code : List CodeRow → Kind → ℕ → Short → Bool
has_code rows kind letter word = list_any (λ row. has_letter kind letter row || has_word kind word row) rows

-- the tables with one more code row, at the end
abbrev pub with_code_row : TableRows → CodeRow → TableRows
with_code_row tables row = record { stations = tables.stations; codes = tables.codes ++ row ∷ [] }
