-- What `mirror` promises, over every sink, every two disks and every mirror.
use Rattle.std.specs.Prelude.{◌≡◌, ◌≤◌, true, List}
use Rattle.act_bodies.specs.declared.key.Key.{Key}
use Rattle.act_bodies.specs.Keys.{key_text, begins_with_plus}
use Rattle.act_model.specs.declared.entry.Entry.{Entry}
use Rattle.act_model.specs.Legal.{IsLegal}
use Rattle.mpc_desk.specs.Pairs.{FilePair, StandBoth, AreRead}
use Rattle.command_ends.specs.declared.status.Status.{Status}
use Rattle.command_ends.specs.declared.status.Status.TheVariants.{MirrorFault}
use Rattle.command_ends.specs.Courses.{SinkWords, HasCause, SinkCause, DiskCause, IsFaultless, AreFaultless}
use Rattle.command_ends.specs.Disks.{DiskWords}
use Rattle.command_ends.specs.Reading.{IsSound}
use Rattle.mirror_store.specs.Words.{MirrorWords}
use Rattle.mirror_command.specs.Ends.{Course, Mirrors, IsCounted, IsOwn}

-- What the mirror holds, what was written and what is kept at each end.
--
-- Files that stand for a legal history, under whatever founding officer, and no fault give `Done`, `TooMany` exactly
-- where there are more rows than can be counted, or `NoMemory`; and such files aren't damaged. Each fault has its
-- cause. It ends with none of the statuses of other commands.
pub record KeepsMirror {K D M : Type 0} (write : SinkWords K) (on : DiskWords D) (kept : MirrorWords M)
    (course : Course K D M) (status : Status) : Type 0 where
  pub mirrors : Mirrors write on kept course status
  pub complete : (key : Key) (files : FilePair) (history : List Entry) → begins_with_plus (key_text key) ≡ true
      → AreRead on course.disks.old files → StandBoth files history → IsLegal key history
      → IsFaultless write.faults course.sink → AreFaultless on course.disks → IsFaultless kept.faults course.mirror
      → IsCounted history status
  pub sound : IsSound on course.disks.old status
  pub write_cause : SinkCause write course.sink status
  pub disk_cause : DiskCause on course.disks status
  pub mirror_cause : HasCause kept.faults course.mirror MirrorFault status
  pub mirror_counts : kept.faults course.mirror.old ≤ kept.faults course.mirror.new
  pub own : IsOwn status
