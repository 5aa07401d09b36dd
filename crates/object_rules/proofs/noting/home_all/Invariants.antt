use Rattle.std.proofs.Common.{◌≡◌, ◌+◌, ◌≤◌, drop, length}
use Rattle.act_model.specs.Holdings.{with_homes}
use Rattle.act_model.specs.Fitting.{AreTracklets}
use Rattle.object_rules.proofs.noting.home_all.Given as goal

-- what is left goes on from what the file holds, and is there
abbrev pub invariant-loop-t : goal.invariant-loop-t
invariant-loop-t l =
    record {
      homes : with_homes l.file.tracklets (drop l.t-index l.tracklets) l.home ≡ with_homes l.fn.file.tracklets l.tracklets l.home;
      there : AreTracklets l.file.tracklets (drop l.t-index l.tracklets);
      observations : l.file.observations ≡ l.fn.file.observations;
      observation_room : l.file.observation_room ≡ l.fn.file.observation_room;
      tracklet_room : l.fn.file.tracklet_room ≤ l.file.tracklet_room;
      no_more : l.file.tracklet_room + length (drop l.t-index l.tracklets) ≤ l.fn.file.tracklet_room + length l.tracklets;
    }
