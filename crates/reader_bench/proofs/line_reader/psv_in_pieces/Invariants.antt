use Rattle.std.proofs.Common.{◌≡◌, ℕ, ◌++◌, List, length}
use Rattle.ades_psv.specs.Feeding.{unfed, feed_piece, HasRoom}
use Rattle.reader_bench.proofs.line_reader.psv_in_pieces.Given as goal

abbrev pub invariant-pieces : goal.invariant-pieces
invariant-pieces l = HasRoom l.reader (length l.rest)
    × ((text : List ℕ) × (l.reader ≡ feed_piece unfed text) × (text ++ l.rest ≡ l.batch))

abbrev pub decreases-pieces : goal.decreases-pieces
decreases-pieces l = length l.rest
