use Rattle.std.proofs.Common.{◌≡◌, length}
use Rattle.ades_psv.specs.Cells.{cells}
use Rattle.ades_psv.specs.Columns.{has_twice, is_seen, repeats}
use Rattle.ades_psv.proofs.columns.has_twice.Given as goal

abbrev pub invariant-names : goal.invariant-names
invariant-names l = repeats (is_seen l.seen) (cells l.rest) ≡ has_twice (cells l.line)

abbrev pub decreases-names : goal.decreases-names
decreases-names l = length l.rest
