use Rattle.std.proofs.Common.{◌≡◌, length, take, map}
use Rattle.tracklet_file.specs.declared.places.TheConstants.{BLOCK}
use Rattle.tracklet_file.specs.Places.{asked}
use Rattle.tracklet_file.proofs.places.Places.marks_asked.Given as goal

abbrev pub invariant-loop-place : goal.invariant-loop-place
invariant-loop-place l = record {
  long : length l.marks ≡ BLOCK;
  made : take l.place l.marks ≡ map (asked l.self.latest) (take l.place l.block);
}
