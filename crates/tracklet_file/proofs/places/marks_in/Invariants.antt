use Rattle.std.proofs.Common.{◌≡◌, length, take, map}
use Rattle.tracklet_file.specs.declared.places.TheConstants.{BLOCK}
use Rattle.tracklet_file.specs.Places.{mark_in}
use Rattle.tracklet_file.proofs.places.marks_in.Given as goal

abbrev pub invariant-loop-place : goal.invariant-loop-place
invariant-loop-place l = record {
  long : length l.marks ≡ BLOCK;
  made : take l.place l.marks ≡ map mark_in (take l.place l.waiting);
}
