use Rattle.std.proofs.Common.{◌≡◌, ◌≤◌, length}
use Rattle.ascii_text.specs.Blanks.{trimmed_front}
use Rattle.ascii_text.proofs.blanks.trimmed_front.Given as goal

abbrev pub invariant-loop-after : goal.invariant-loop-after
invariant-loop-after l = (trimmed_front l.rest ≡ trimmed_front l.text) × (length l.rest ≤ length l.text)

abbrev pub decreases-loop-after : goal.decreases-loop-after
decreases-loop-after l = length l.rest
