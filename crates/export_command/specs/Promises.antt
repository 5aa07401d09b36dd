-- What `export` promises, over every sink and every two disks.
use Rattle.std.specs.Prelude.{◌≡◌, true, ℕ, List}
use Rattle.act_bodies.specs.declared.key.Key.{Key}
use Rattle.act_bodies.specs.Keys.{key_text, begins_with_plus}
use Rattle.act_model.specs.declared.entry.Entry.{Entry}
use Rattle.act_model.specs.Legal.{IsLegal}
use Rattle.mpc_desk.specs.Pairs.{FilePair, StandBoth, DiskPair, AreRead}
use Rattle.command_ends.specs.declared.status.Status.{Status}
use Rattle.command_ends.specs.declared.status.Status.TheVariants.{Damaged}
use Rattle.command_ends.specs.Courses.{SinkWords, Change, IsUncalled, SinkCause, DiskCause, IsFaultless}
use Rattle.command_ends.specs.Courses.{AreFaultless}
use Rattle.command_ends.specs.Disks.{DiskWords}
use Rattle.command_ends.specs.Statuses.{IsDoneOrNoMemory}
use Rattle.export_command.specs.Exports.{Exports, IsOwn}

-- What was written and kept at each end.
--
-- Files that stand for a legal history, under whatever founding officer, and no fault give `Done`, or `NoMemory`; and
-- such files aren't damaged. A fresh first file beside a second one that isn't in force stands for the history without
-- entries. Each fault has its cause. It ends with none of the statuses of other commands.
pub record KeepsExport {K D : Type 0} (write : SinkWords K) (on : DiskWords D) (sink : Change K)
    (disks : Change (DiskPair D)) (added : ℕ) (status : Status) : Type 0 where
  pub exports : Exports on
      (record {
        disks = disks.old;
        disks_after = disks.new;
        taken = write.taken sink.old;
        taken_after = write.taken sink.new;
        added = added;
      })
      (IsUncalled sink) status
  pub complete : (key : Key) (files : FilePair) (history : List Entry) → begins_with_plus (key_text key) ≡ true
      → AreRead on disks.old files → StandBoth files history → IsLegal key history → IsFaultless write.faults sink
      → AreFaultless on disks → IsDoneOrNoMemory status
  pub sound : (key : Key) (files : FilePair) (history : List Entry) (file offset : ℕ)
      → begins_with_plus (key_text key) ≡ true → AreRead on disks.old files → StandBoth files history
      → IsLegal key history → status ≡ Damaged file offset → ⊥
  pub write_cause : SinkCause write sink status
  pub disk_cause : DiskCause on disks status
  pub own : IsOwn status
