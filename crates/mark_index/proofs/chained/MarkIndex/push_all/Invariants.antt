use Rattle.std.proofs.Common.{◌≡◌, ◌+◌, ◌++◌, take}
use Rattle.mark_index.proofs.chained.MarkIndex.push_all.Given as goal

abbrev pub invariant-loop-mark : goal.invariant-loop-mark
invariant-loop-mark l = record {
  marks : l.self.marks ≡ l.fn.self.marks ++ take l.mark-index l.marks;
  room : l.self.room + l.mark-index ≡ l.fn.self.room;
}
