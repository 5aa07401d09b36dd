use Rattle.std.proofs.Common.{◌≡◌, ◌+◌, ◌≤◌, [], length, take}
use Rattle.text_lines.specs.Pieces.{unfinished}
use Rattle.ades_psv.specs.Batch.{AreInRange}
use Rattle.ades_psv.specs.Feeding.{read_on, progress_of}
use Rattle.ades_psv.proofs.walking.Reached.read_complete.Given as goal

abbrev pub invariant-lines : goal.invariant-lines
invariant-lines l = record {
  left : read_on (progress_of l.self []) l.rest ≡ read_on (progress_of l.fn.self []) l.text;
  unfinished : unfinished l.rest ≡ unfinished l.text;
  few : l.self.count + length l.rest ≤ l.fn.self.count + length l.text;
  kept : take (length l.fn.self.found) l.self.found ≡ l.fn.self.found;
  range : AreInRange l.fn.self.found → AreInRange l.self.found;
}

abbrev pub decreases-lines : goal.decreases-lines
decreases-lines l = length l.rest
