use Rattle.std.proofs.Common.{◌≡◌, ◌+◌, ◌≤◌, drop, length}
use Rattle.tracklet_file.specs.Contents.{TakesNoMemory}
use Rattle.act_model.specs.Holdings.{with_batch}
use Rattle.act_model.specs.Taken.{accepted_in}
use Rattle.desk_core.specs.Office.{held_in, AreTracked}
use Rattle.desk_core.proofs.holding.hold_batch.Given as goal

-- what is left of the batch goes on from what the file holds, and has its room
abbrev pub invariant-loop-place : goal.invariant-loop-place
invariant-loop-place l =
    let left = drop l.place l.lines in
    record {
      tracked : AreTracked (length l.file.tracklets) left;
      held : with_batch l.receipt left (held_in l.file) ≡ with_batch l.receipt l.lines (held_in l.fn.file);
      observations : accepted_in left ≤ l.file.observation_room;
      tracklets : accepted_in left ≤ l.file.tracklet_room;
      used_observations : l.fn.file.observation_room + accepted_in left ≤ l.file.observation_room + accepted_in l.lines;
      used_tracklets : l.fn.file.tracklet_room + accepted_in left ≤ l.file.tracklet_room + accepted_in l.lines;
      no_more : TakesNoMemory l.fn.file l.file;
    }
