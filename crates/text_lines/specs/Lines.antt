-- The lines of a text, numbered. A text is cut into lines at line feeds as std's `lines` has it: a carriage return
-- before a line feed belongs to the line's end, and what stands after the last line feed is a line where it isn't
-- empty.
use Rattle.std.specs.Prelude.{ℕ, ◌<◌, not, List, length, filter}
use Rattle.std.specs.List.{enumerate_from}
use Rattle.std.specs.Str.Lines.{lines}
use Rattle.ascii_text.specs.Blanks.{are_blanks}

-- the lines of a text with their numbers, all of them counted, from 1
abbrev pub numbered_lines : List ℕ → List (ℕ × List ℕ)
numbered_lines text = enumerate_from 1 (lines text)

-- the lines that aren't blank; an empty line is blank
abbrev pub filled_lines : List (ℕ × List ℕ) → List (ℕ × List ℕ)
filled_lines numbered = filter (λ line. not (are_blanks line.1)) numbered

-- the text is short enough that each of its lines has a number of 32 bits, and the one after them too
abbrev pub IsNumberable : List ℕ → Type 0
IsNumberable text = length text < 4294967295
