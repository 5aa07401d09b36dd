use Rattle.std.proofs.Common.{◌≡◌, ℕ, ◌++◌, List, length}
use Rattle.col80_format.specs.Feeding.{progress_of}
use Rattle.test_formats.proofs.batches.fed.Given as goal

abbrev pub invariant-pieces : goal.invariant-pieces
invariant-pieces l = (text : List ℕ) × (l.reader ≡ progress_of text) × (text ++ l.rest ≡ l.body)

abbrev pub decreases-pieces : goal.decreases-pieces
decreases-pieces l = length l.rest
