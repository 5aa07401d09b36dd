-- A batch that is fed in pieces.
use Rattle.std.specs.Prelude.{◌≡◌, ℕ, ◌+◌, ◌<◌, List, [], ◌∷◌, ◌++◌, length, map, Option, Some, None, Result, Ok, Err}
use Rattle.std.specs.Prelude.{IsOk}
use Rattle.std.specs.List.{enumerate_from}
use Rattle.std.specs.Str.Lines.{lines}
use Rattle.obs_record.specs.declared.rule.HeaderFault.{HeaderFault}
use Rattle.obs_record.specs.declared.line.Line.{Line}
use Rattle.ades_psv.specs.declared.fault.PsvFault.{PsvFault}
use Rattle.ades_psv.specs.declared.fault.PsvFault.TheVariants as faults
use Rattle.ades_psv.specs.declared.header.Place.{Place}
use Rattle.ades_psv.specs.declared.header.Place.TheVariants.{Opening}
use Rattle.ades_psv.specs.declared.walking.Reached.{Reached}
use Rattle.text_lines.specs.Steps.{◌>>=◌}
use Rattle.text_lines.specs.Pieces.{complete_lines, unfinished}
use Rattle.ades_psv.specs.Batch.{DataLine, said_from, ended, read_of, AreInRange}

-- How far a batch was read whose headers have no fault so far.
pub record Progress : Type 0 where
  -- the place in which the unfinished line stands
  pub place : Place
  -- how many lines are complete
  pub count : ℕ
  -- the data lines among them, with their readings
  pub found : List Line
  -- the unfinished line: what stands after the last line feed
  pub rest : List ℕ

-- what a reader has come to: how far the batch was read, or the first fault of its headers, with its line
abbrev pub Fed : Type 0
Fed = Result Progress (HeaderFault × ℕ)

-- nothing was fed yet
abbrev pub start : Progress
start = record { place = Opening; count = 0; found = []; rest = [] }

abbrev pub unfed : Fed
unfed = Ok start

-- what is reached after these lines, which follow those that were complete so far, and this rest
abbrev pub progress_at : Progress → List (List ℕ) → List ℕ → Place × List DataLine → Fed
progress_at progress complete rest end = Ok (record {
  place = end.0;
  count = progress.count + length complete;
  found = progress.found ++ map read_of end.1;
  rest = rest;
})

-- These lines are read, which follow those that were complete so far, and which this rest follows.
unfoldable pub read_lines : Progress → List (List ℕ) → List ℕ → Fed
read_lines progress complete rest =
    said_from progress.place (enumerate_from (progress.count + 1) complete) >>= progress_at progress complete rest

-- the unfinished line goes on with this text: the lines that are now complete are read
unfoldable pub read_on : Progress → List ℕ → Fed
read_on progress text =
    read_lines progress (complete_lines (progress.rest ++ text)) (unfinished (progress.rest ++ text))

-- One more piece was fed. Once there is a fault nothing changes.
abbrev pub feed_piece : Fed → List ℕ → Fed
feed_piece before piece = before >>= λ progress. read_on progress piece

-- the pieces were fed, in their order
abbrev pub feed_pieces : Fed → List (List ℕ) → Fed
feed_pieces before [] = before
feed_pieces before (piece ∷ pieces) = feed_pieces (feed_piece before piece) pieces

-- what is said of a batch that ends here
abbrev pub ended_at : Progress → Result (List Line) (HeaderFault × ℕ)
ended_at progress = ended progress.count (progress.place, progress.found)

-- nothing follows: the unfinished line is one more line where it isn't empty
unfoldable pub read_end : Progress → Result (List Line) (HeaderFault × ℕ)
read_end progress = read_lines progress (lines progress.rest) [] >>= ended_at

-- The reader can take this many bytes more: the numbers of its lines have 32 bits then. Once there is a fault it lets
-- go what is fed.
abbrev pub HasRoom : Fed → ℕ → Type 0
HasRoom (Ok progress) more = progress.count + length progress.rest + more < 4294967295
HasRoom (Err fault) more = Unit {0}

-- what a reader says in the end
abbrev pub lines_at_end : Fed → Result (List Line) (HeaderFault × ℕ)
lines_at_end reader = reader >>= read_end

-- the fault where there is one, with its line
abbrev pub fault_in : {A : Type 0} → Result A (HeaderFault × ℕ) → Option (HeaderFault × ℕ)
fault_in (Ok x) = None
fault_in (Err fault) = Some fault

-- the first fault of the headers in the complete lines of a text, with its line, where they have one
unfoldable pub complete_fault : List ℕ → Option (HeaderFault × ℕ)
complete_fault text = fault_in (said_from Opening (enumerate_from 1 (complete_lines text)))

-- what a reader does with a piece: all is well so far, or the first fault is told; or memory was refused, and nothing
-- was fed
abbrev pub Feeds : Fed → List ℕ → Fed → Result (Unit {0}) PsvFault → Type 0
Feeds before piece after (Ok _) = (after ≡ feed_piece before piece) × IsOk after
Feeds before piece after (Err (faults.Header fault line)) =
    (after ≡ feed_piece before piece) × (after ≡ Err (fault, line))
Feeds before piece after (Err faults.NoMemory) = after ≡ before

-- how far a batch was read, by what a reader keeps
abbrev pub progress_of : Reached → List ℕ → Progress
progress_of progress_at rest = record {
  place = progress_at.place;
  count = progress_at.count;
  found = progress_at.found;
  rest = rest;
}

-- what a reader has come to
abbrev pub what_is_fed : Reached → List ℕ → Option (HeaderFault × ℕ) → Fed
what_is_fed progress_at rest None = Ok (progress_of progress_at rest)
what_is_fed progress_at rest (Some fault) = Err fault

-- the unfinished line has no line feed, its number and the next one's have 32 bits, and what was found is in range
pub record IsUnderWay (progress_at : Reached) (rest : List ℕ) : Type 0 where
  pub rest_alone : unfinished rest ≡ rest
  pub room : progress_at.count + length rest < 4294967295
  pub range : AreInRange progress_at.found
