-- The lines of a batch.
use Rattle.std.specs.Prelude.{◌≡◌, ℕ, Bool, ◌&&◌, ◌||◌, ◌==◌, nat_eq, if◌then◌else◌, List, [], ◌∷◌, length, map}
use Rattle.std.specs.Prelude.{slice_index, codes}
use Rattle.std.specs.List.{list_any, starts_with}
use Rattle.ascii_text.specs.Bytes.{blank}
use Rattle.ascii_text.specs.Blanks.{are_blanks}
use Rattle.obs_record.specs.declared.line.Line.{Line}
use Rattle.text_lines.specs.Lines.{numbered_lines, filled_lines}
use Rattle.col80_format.specs.Rules.{IsReading}
use Rattle.col80_format.specs.Reading.{reading_of}

-- the words that header lines begin with
abbrev pub header_words : List (List ℕ)
header_words =
    codes "COD" ∷ codes "CON" ∷ codes "OBS" ∷ codes "MEA" ∷ codes "TEL" ∷ codes "NET"
    ∷ codes "BND" ∷ codes "COM" ∷ codes "NUM" ∷ codes "ACK" ∷ codes "AC2" ∷ []

-- the line begins with this word, and a blank or the line's end follows it
abbrev pub begins_with_word : List ℕ → List ℕ → Bool
begins_with_word word line = starts_with nat_eq line word
    && (length line == length word || slice_index line (length word) == blank)

-- a header line
unfoldable pub is_header_line : List ℕ → Bool
is_header_line line = list_any (λ word. begins_with_word word line) header_words

-- the list from its first item that fails the test
unfoldable pub drop_while : {X : Type 0} → (X → Bool) → List X → List X
drop_while test [] = []
drop_while test (x ∷ xs) = if test x then drop_while test xs else x ∷ xs

-- a line that may stand before the observations: a blank one, or a header line
abbrev pub is_front_line : List ℕ → Bool
is_front_line line = are_blanks line || is_header_line line

-- the lines from the first one on that is neither blank nor a header line
abbrev pub behind_front : List (ℕ × List ℕ) → List (ℕ × List ℕ)
behind_front numbered = drop_while (λ line. is_front_line line.1) numbered

-- the observation lines of a batch: from the first line on that is neither blank nor a header line, each one that
-- isn't blank
abbrev pub observation_lines : List ℕ → List (ℕ × List ℕ)
observation_lines body = filled_lines (behind_front (numbered_lines body))

-- the line has the number of this numbered text, and what it says is the text's reading
abbrev pub IsReadFrom : ℕ × List ℕ → Line → Type 0
IsReadFrom text line = (line.number ≡ text.0) × IsReading text.1 line.read

-- a numbered text with its reading
abbrev pub read_of : ℕ × List ℕ → Line
read_of text = record { number = text.0; read = reading_of text.1 }

-- what a batch says: each of its observation lines with its reading
abbrev pub lines_of : List ℕ → List Line
lines_of body = map read_of (observation_lines body)
