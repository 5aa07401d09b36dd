-- The data lines of a batch, or the first fault of its headers.
use Rattle.std.specs.Prelude.{◌≡◌, ℕ, List, [], ◌∷◌, length, map, All, Result, Ok, Err, IfOk}
use Rattle.std.specs.List.{AllZip}
use Rattle.std.specs.Str.Lines.{lines}
use Rattle.obs_record.specs.declared.rule.HeaderFault.{HeaderFault}
use Rattle.obs_record.specs.declared.rule.HeaderFault.TheVariants.{H1, H2}
use Rattle.obs_record.specs.declared.line.Line.{Line}
use Rattle.obs_record.specs.Sighting.{IsSighting}
use Rattle.ades_psv.specs.declared.columns.Columns.{Columns}
use Rattle.ades_psv.specs.declared.header.Place.{Place}
use Rattle.ades_psv.specs.declared.header.Place.TheVariants.{Opening, Header, Listing}
use Rattle.ades_psv.specs.declared.header.Step.{Step}
use Rattle.ades_psv.specs.declared.header.Step.TheVariants.{On, Data, Fault}
use Rattle.text_lines.specs.Steps.{◌>>=◌}
use Rattle.text_lines.specs.Lines.{numbered_lines}
use Rattle.ades_psv.specs.Headers.{step}
use Rattle.ades_psv.specs.Fields.{fields_of}
use Rattle.ades_psv.specs.Rules.{IsReading}
use Rattle.ades_psv.specs.Reading.{reading_of}

-- a data line, with its number and the columns of its header
pub record DataLine : Type 0 where
  pub columns : Columns
  pub number : ℕ
  pub text : List ℕ

-- what lines say: the place after them, and the data lines among them; or the first fault in them, with its line
abbrev pub Said : Type 0
Said = Result (Place × List DataLine) (HeaderFault × ℕ)

-- a data line stands before those after it
abbrev pub before : DataLine → Place × List DataLine → Said
before line end = Ok (end.0, line ∷ end.1)

-- what a line of this number says, and those after it, by what the line is
abbrev pub said_on : ℕ → List ℕ → (Place → Said) → Step → Said
said_on number text behind (On next) = behind next
said_on number text behind (Data columns) =
    behind (Listing columns) >>= before (record { columns = columns; number = number; text = text })
said_on number text behind (Fault fault) = Err (fault, number)

-- what numbered lines say, the first of which stands in this place
unfoldable pub said_from : Place → List (ℕ × List ℕ) → Said
said_from place [] = Ok (place, [])
said_from place (line ∷ more) = said_on line.0 line.1 (λ next. said_from next more) (step place line.1)

-- What is said of a batch whose last line has this number, by the place in which it ends: it has no line that isn't
-- blank; it ends inside a header, a fault of its last line; or all is well.
abbrev pub ended : {A : Type 0} → ℕ → Place × A → Result A (HeaderFault × ℕ)
ended last (Opening, x) = Err (H1, 1)
ended last (Header, x) = Err (H2, last)
ended last (Listing columns, x) = Ok x

-- the data lines of a batch, each with the columns of its header; or the first fault of the headers, with its line
unfoldable pub data_lines_of : List ℕ → Result (List DataLine) (HeaderFault × ℕ)
data_lines_of body = said_from Opening (numbered_lines body) >>= ended (length (lines body))

-- a data line with its reading
abbrev pub read_of : DataLine → Line
read_of data_line = record { number = data_line.number; read = reading_of (fields_of data_line.columns data_line.text) }

abbrev pub all_read : List DataLine → Result (List Line) (HeaderFault × ℕ)
all_read data_lines = Ok (map read_of data_lines)

-- what a batch says: each of its data lines with its reading; or the first fault of its headers, with its line
unfoldable pub psv_lines_of : List ℕ → Result (List Line) (HeaderFault × ℕ)
psv_lines_of body = data_lines_of body >>= all_read

-- the line has the number of this data line, and what it says is the data line's reading
abbrev pub IsReadFrom : DataLine → Line → Type 0
IsReadFrom data_line line =
    (line.number ≡ data_line.number) × IsReading (fields_of data_line.columns data_line.text) line.read

-- each data line of the batch stands in the list in its place, with its number and its reading
abbrev pub AreReadFrom : List ℕ → List Line → Type 0
AreReadFrom body found = (data_lines : List DataLine) × (data_lines_of body ≡ Ok data_lines)
    × AllZip IsReadFrom data_lines found

-- the observations among the lines have their fields in their ranges
abbrev pub AreInRange : List Line → Type 0
AreInRange lines = All (λ line. IfOk line.read IsSighting) lines
