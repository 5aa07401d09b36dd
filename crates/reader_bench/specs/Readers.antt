-- The readers that are measured.
use Rattle.std.specs.Prelude.{◌≡◌, ℕ, List, Ok, codes}
use Rattle.obs_record.specs.declared.line.Line.{Line}
use Rattle.ades_psv.specs.Batch.{psv_lines_of}
use Rattle.col80_format.specs.Batch.{lines_of}
use Rattle.reader_bench.specs.declared.line_reader.LineReader.{LineReader}
use Rattle.reader_bench.specs.declared.line_reader.LineReader.TheVariants.{Columns, ColumnsInPieces, Psv, PsvInPieces}

-- the word of the command line that names a reader
abbrev pub reader_name : LineReader → List ℕ
reader_name Columns = codes "columns"
reader_name ColumnsInPieces = codes "columns-pieces"
reader_name Psv = codes "psv"
reader_name PsvInPieces = codes "psv-pieces"

-- these are the lines that a reader finds in a batch, in pieces or not
abbrev pub AreReadBy : LineReader → List ℕ → List Line → Type 0
AreReadBy Columns batch found = found ≡ lines_of batch
AreReadBy ColumnsInPieces batch found = found ≡ lines_of batch
AreReadBy Psv batch found = psv_lines_of batch ≡ Ok found
AreReadBy PsvInPieces batch found = psv_lines_of batch ≡ Ok found
