use Rattle.std.proofs.Common.{◌≡◌, ◌++◌, take, map}
use Rattle.std.specs.Prelude.{vec_capacity}
use Rattle.tracklet_file.specs.Observations.{has_live, is_live_line}
use Rattle.tracklet_file.proofs.places.Places.have_live_each.Given as goal

abbrev pub invariant-loop-line : goal.invariant-loop-line
invariant-loop-line l = record {
  live : l.live.items ≡ l.fn.live.items ++ map (is_live_line (has_live l.filed)) (take l.line-index l.lines);
  capacity : vec_capacity l.live ≡ vec_capacity l.fn.live;
}
