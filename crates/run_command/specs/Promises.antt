-- What `run` promises, over every source, sink, disk and clock.
use Rattle.std.specs.Prelude.{◌≡◌, ℕ, List, Some}
use Rattle.std.specs.Io.KnownBytes.{Appends}
use Rattle.read_ahead.specs.Reading.{Supplies}
use Rattle.frame_service.specs.Runs.{Run, AwaitsNext, IsWhole}
use Rattle.act_bodies.specs.declared.key.Key.{Key}
use Rattle.act_model.specs.declared.entry.Entry.{Entry}
use Rattle.act_model.specs.Legal.{IsLegal}
use Rattle.mpc_desk.specs.Pairs.{FilePair, StandBoth, AreRead}
use Rattle.command_ends.specs.declared.status.Status.TheVariants.{Usage, Damaged, DoorFault, MirrorFault, TooMany}
use Rattle.command_ends.specs.Courses.{SourceWords, OutsideWords, Change, IsUncalled, Course, SourceCause, SinkCause}
use Rattle.command_ends.specs.Courses.{DiskCause, IsFaultless, AreFaultless}
use Rattle.command_ends.specs.Statuses.{IsDoneOrNoMemory}
use Rattle.run_command.specs.Runs.{Ends}

-- What was read, answered, written and kept at each end: of the bytes that came, whether the source tells its bytes or
-- not, and of each image that a crash may leave. No read was made but while the next frame was awaited.
--
-- A whole session, files that stand for a legal history, and no fault give `Done`, or `NoMemory`; and such files aren't
-- damaged. A fresh first file beside a second one that isn't in force stands for the history without entries. Each
-- fault has its cause. It ends with none of `Usage`, `DoorFault`, `MirrorFault` and `TooMany`.
pub record KeepsRun {S K D C : Type 0} (read : SourceWords S) (on : OutsideWords K D C) (source : Change S)
    (course : Course K D C) (founder : Key) : Type 0 where
  pub run : Run
  pub supplies : Supplies read.left read.gives (AwaitsNext run.answered) source.old source.new run.came run.more
  pub texts : Appends (on.sink.taken course.sink.old) (on.sink.taken course.sink.new) run.texts
  pub ends : Ends on.disk
      (record {
        founder = founder;
        disks = course.disks.old;
        disks_after = course.disks.new;
        clock = on.clock course.clock.old;
        clock_after = on.clock course.clock.new;
        run = run;
        added = course.added;
      })
      (IsUncalled source × IsUncalled course.sink × IsUncalled course.clock) course.status
  pub complete : (bytes : List ℕ) (files : FilePair) (history : List Entry) → read.left source.old ≡ Some bytes
      → IsWhole bytes → AreRead on.disk course.disks.old files → StandBoth files history → IsLegal founder history
      → IsFaultless read.faults source → IsFaultless on.sink.faults course.sink → AreFaultless on.disk course.disks
      → IsDoneOrNoMemory course.status
  pub sound : (files : FilePair) (history : List Entry) (file offset : ℕ) → AreRead on.disk course.disks.old files
      → StandBoth files history → IsLegal founder history → course.status ≡ Damaged file offset → ⊥
  pub read_cause : SourceCause read source course.status
  pub write_cause : SinkCause on.sink course.sink course.status
  pub disk_cause : DiskCause on.disk course.disks course.status
  pub own : (course.status ≡ Usage → ⊥) × (course.status ≡ DoorFault → ⊥) × (course.status ≡ MirrorFault → ⊥)
      × ((count : ℕ) → course.status ≡ TooMany count → ⊥)
