use Rattle.std.proofs.Common.{◌≡◌, ◌+◌, ◌≤◌, length, take}
use Rattle.text_lines.specs.Pieces.{complete_lines, unfinished}
use Rattle.obs_record.specs.Lines.{AreInRange}
use Rattle.col80_format.specs.Feeding.{seen_all}
use Rattle.col80_format.proofs.batch.see_lines.Given as goal

abbrev pub invariant-lines : goal.invariant-lines
invariant-lines l = record {
  seen : seen_all l.seen (complete_lines l.rest) ≡ seen_all l.initial.seen (complete_lines l.text);
  rest : unfinished l.rest ≡ unfinished l.text;
  room : length l.rest + l.seen.next ≤ length l.text + l.initial.seen.next;
  kept : take (length l.initial.seen.found) l.seen.found ≡ l.initial.seen.found;
  range : AreInRange l.initial.seen.found → AreInRange l.seen.found;
}

abbrev pub decreases-lines : goal.decreases-lines
decreases-lines l = length l.rest
