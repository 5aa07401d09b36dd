use Rattle.std.proofs.Common.{◌≡◌, ◌+◌, ◌++◌, take, map}
use Rattle.tracklet_file.specs.Places.{mark_in}
use Rattle.tracklet_file.proofs.places.enter_all.Given as goal

abbrev pub invariant-loop-o : goal.invariant-loop-o
invariant-loop-o l = record {
  marks : l.index.marks ≡ l.fn.index.marks ++ map mark_in (take l.o-index l.waiting);
  room : l.index.room + l.o-index ≡ l.fn.index.room;
}
