use Rattle.std.proofs.Common.{length}
use Rattle.ades_psv.specs.Feeding.{HasRoom}
use Rattle.test_formats.proofs.ades.pieces.said_in_pieces.Given as goal

abbrev pub invariant-pieces : goal.invariant-pieces
invariant-pieces l = HasRoom l.reader (length l.rest)

abbrev pub decreases-pieces : goal.decreases-pieces
decreases-pieces l = length l.rest
