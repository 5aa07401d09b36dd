use Rattle.std.proofs.Common.{◌≡◌, ◌≤◌, length}
use Rattle.ascii_text.specs.Blanks.{trimmed_end}
use Rattle.ascii_text.proofs.blanks.trimmed_end.Given as goal

abbrev pub invariant-loop-before : goal.invariant-loop-before
invariant-loop-before l = (trimmed_end l.rest ≡ trimmed_end l.text) × (length l.rest ≤ length l.text)

abbrev pub decreases-loop-before : goal.decreases-loop-before
decreases-loop-before l = length l.rest
