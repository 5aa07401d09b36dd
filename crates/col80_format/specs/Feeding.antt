-- A batch that is read line by line, and fed in pieces.
use Rattle.std.specs.Prelude.{◌≡◌, ℕ, ◌+◌, true, false, not, ◌||◌, if◌then◌else◌, List, [], ◌∷◌, ◌++◌}
use Rattle.ascii_text.specs.Blanks.{are_blanks}
use Rattle.text_lines.specs.Lines.{IsNumberable}
use Rattle.text_lines.specs.Pieces.{complete_lines, unfinished}
use Rattle.obs_record.specs.declared.line.Line.{Line}
use Rattle.col80_format.specs.declared.batch.Seen.{Seen}
use Rattle.col80_format.specs.Batch.{is_front_line, read_of}

-- no line was seen yet; the first has the number 1
abbrev pub none_seen : Seen
none_seen = record { next = 1; observed = false; found = [] }

-- the lines that were read, with one more where it isn't blank
abbrev pub read_on : List Line → ℕ → List ℕ → List Line
read_on found number line = if are_blanks line then found else found ++ read_of (number, line) ∷ []

-- One more line was seen. It is passed over where it may stand before the observations and none of them came yet; else
-- it is an observation line, where it isn't blank.
unfoldable pub seen_on : Seen → List ℕ → Seen
seen_on seen line =
    if seen.observed || not (is_front_line line)
    then record { next = seen.next + 1; observed = true; found = read_on seen.found seen.next line }
    else record { next = seen.next + 1; observed = false; found = seen.found }

-- these lines were seen, in their order
abbrev pub seen_all : Seen → List (List ℕ) → Seen
seen_all seen [] = seen
seen_all seen (line ∷ lines) = seen_all (seen_on seen line) lines

-- how far a batch was read: the line that isn't finished, and what was seen of the lines before it
pub record Progress : Type 0 where
  pub rest : List ℕ
  pub seen : Seen

-- how far a batch was read of which this text came
abbrev pub progress_of : List ℕ → Progress
progress_of text = record { rest = unfinished text; seen = seen_all none_seen (complete_lines text) }

-- a text came that is short enough to have its lines numbered, and it was read so far
abbrev pub IsUnderWay : Progress → Type 0
IsUnderWay progress = (text : List ℕ) × (progress ≡ progress_of text) × IsNumberable text
