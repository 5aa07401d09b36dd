use Rattle.std.proofs.Common.{◌≡◌, ◌≤◌, ◌-◌, ◌++◌, length, take, map}
use Rattle.std.specs.Prelude.{vec_capacity}
use Rattle.tracklet_file.specs.Observations.{has_live, is_live_line}
use Rattle.tracklet_file.proofs.places.Places.have_live_marked.Given as goal

abbrev pub invariant-loop-from : goal.invariant-loop-from
invariant-loop-from l = record {
  within : l.from ≤ length l.lines;
  live : l.live.items ≡ l.fn.live.items ++ map (is_live_line (has_live l.filed)) (take l.from l.lines);
  capacity : vec_capacity l.live ≡ vec_capacity l.fn.live;
}

abbrev pub decreases-loop-from : goal.decreases-loop-from
decreases-loop-from l = length l.lines - l.from
