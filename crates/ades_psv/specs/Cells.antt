-- The cells of a line, which bars separate: the names of a column header, and the fields of a data line.
use Rattle.std.specs.Prelude.{ℕ, Bool, false, ◌==◌, nat_eq, List, [], ◌∷◌, map, Option, Some, None, slice_get}
use Rattle.std.specs.Prelude.{unwrap_or}
use Rattle.std.specs.List.{slice_split}
use Rattle.std.specs.Cmp.Lexicographic.{pointwise}
use Rattle.ascii_text.specs.Blanks.{trimmed}
use Rattle.ascii_text.specs.Bytes.{vertical_bar}

-- the text is this word
abbrev pub is_word : List ℕ → List ℕ → Bool
is_word word text = pointwise nat_eq text word

-- the line begins with this byte
abbrev pub begins_with : ℕ → List ℕ → Bool
begins_with byte [] = false
begins_with byte (first ∷ line) = first == byte

-- what stands between the bars of a line, blanks included
abbrev pub pieces : List ℕ → List (List ℕ)
pieces line = slice_split (λ byte. byte == vertical_bar) line

-- the cells of a line: what stands between its bars, without the blanks round it
unfoldable pub cells : List ℕ → List (List ℕ)
cells line = map trimmed (pieces line)

-- the cell in this column, the columns counted from 0; it is empty where there are fewer cells, or where there is no
-- such column
abbrev pub cell_in : Option ℕ → List (List ℕ) → List ℕ
cell_in None cells = []
cell_in (Some place) cells = unwrap_or (slice_get cells place) []
