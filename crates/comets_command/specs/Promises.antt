-- What `comets` promises, over every source, sink, disk and clock.
use Rattle.std.specs.Prelude.{◌≡◌, ◌⊎◌, true, ℕ, List, Some}
use Rattle.std.specs.Io.KnownBytes.{Appends}
use Rattle.call_log.specs.Counts.{Rises}
use Rattle.read_ahead.specs.Reading.{Supplies}
use Rattle.frame_service.specs.Runs.{Run, AwaitsNext, IsWhole}
use Rattle.act_bodies.specs.declared.key.Key.{Key}
use Rattle.act_bodies.specs.Keys.{key_text, begins_with_plus}
use Rattle.act_model.specs.declared.deed.Deed.{Deed}
use Rattle.act_model.specs.declared.entry.Entry.{Entry}
use Rattle.act_model.specs.Deeds.{deeds}
use Rattle.act_model.specs.Legal.{IsLegal}
use Rattle.mpc_desk.specs.Pairs.{FilePair, StandBoth, DiskPair, AreRead, EitherRises}
use Rattle.command_ends.specs.declared.status.Status.{Status}
use Rattle.command_ends.specs.declared.status.Status.TheVariants.{Usage, DiskFault, Damaged, DoorFault, MirrorFault}
use Rattle.command_ends.specs.declared.status.Status.TheVariants.{TooMany}
use Rattle.command_ends.specs.Courses.{SourceWords, OutsideWords, Change, IsUncalled, Course, SourceCause, SinkCause}
use Rattle.command_ends.specs.Courses.{IsFaultless, AreFaultless}
use Rattle.command_ends.specs.Disks.{DiskWords}
use Rattle.command_ends.specs.Statuses.{IsDoneOrNoMemory}
use Rattle.comet_model.specs.Legal.{IsLegal as IsLegalRegister}
use Rattle.comet_desk.specs.Files.{HoldsEntries}
use Rattle.comets_command.specs.Runs.{Ends}

-- two disks stand for this history, as their files are read, and it is legal under whatever founding officer
pub record OfficeStands {D : Type 0} (on : DiskWords D) (disks : DiskPair D) (history : List Entry) : Type 0 where
  pub key : Key
  pub plus : begins_with_plus (key_text key) ≡ true
  pub files : FilePair
  pub read : AreRead on disks files
  pub stood : StandBoth files history
  pub legal : IsLegal key history

-- a disk holds the entries of a register, as its file is read, and they are legal beside an office with these deeds
pub record RegisterStands {D : Type 0} (on : DiskWords D) (founder : Key) (desk : List Deed) (disk : D)
    : Type 0 where
  pub file : List ℕ
  pub entries : List Entry
  pub read : on.reads disk ≡ Some file
  pub held : HoldsEntries file entries
  pub legal : IsLegalRegister founder desk entries

-- disks that stand for a legal history aren't said to be damaged: only the register's file is
abbrev pub IsOfficeSound : {D : Type 0} → DiskWords D → DiskPair D → Status → Type 0
IsOfficeSound on disks status =
    (history : List Entry) (file offset : ℕ) → OfficeStands on disks history → status ≡ Damaged file offset → file ≡ 3

-- What was read, answered, written and kept at each end: of the bytes that came, whether the source tells its bytes or
-- not, and of each image that a crash may leave. No read was made but while the next frame was awaited.
--
-- A whole session, two files that stand for a legal history, a file of the register that holds a legal list of entries
-- or isn't in force, and no fault give `Done`, or `NoMemory`; and such files aren't damaged, those of the office
-- whatever the register's is. Each fault has its cause. It ends with none of `Usage`, `DoorFault`, `MirrorFault` and
-- `TooMany`.
pub record KeepsComets {S K D C : Type 0} (read : SourceWords S) (on : OutsideWords K D C) (source : Change S)
    (course : Course K D C) (register : Change D) (founder : Key) : Type 0 where
  pub run : Run
  pub supplies : Supplies read.left read.gives (AwaitsNext run.answered) source.old source.new run.came run.more
  pub texts : Appends (on.sink.taken course.sink.old) (on.sink.taken course.sink.new) run.texts
  pub ends : Ends on.disk
      (record {
        founder = founder;
        disks = course.disks;
        register = register;
        clock = record { old = on.clock course.clock.old; new = on.clock course.clock.new };
        run = run;
        added = course.added;
      })
      (IsUncalled source × IsUncalled course.sink × IsUncalled course.clock) course.status
  pub complete : (bytes : List ℕ) (history : List Entry) → read.left source.old ≡ Some bytes → IsWhole bytes
      → OfficeStands on.disk course.disks.old history → RegisterStands on.disk founder (deeds history) register.old
      → IsFaultless read.faults source → IsFaultless on.sink.faults course.sink → AreFaultless on.disk course.disks
      → IsFaultless on.disk.faults register → IsDoneOrNoMemory course.status
  pub sound_office : IsOfficeSound on.disk course.disks.old course.status
  pub sound : (history : List Entry) (file offset : ℕ) → OfficeStands on.disk course.disks.old history
      → RegisterStands on.disk founder (deeds history) register.old → course.status ≡ Damaged file offset → ⊥
  pub read_cause : SourceCause read source course.status
  pub write_cause : SinkCause on.sink course.sink course.status
  pub disk_cause : course.status ≡ DiskFault → EitherRises on.disk course.disks.old course.disks.new
      ⊎ Rises (on.disk.faults register.old) (on.disk.faults register.new)
  pub own : (course.status ≡ Usage → ⊥) × (course.status ≡ DoorFault → ⊥) × (course.status ≡ MirrorFault → ⊥)
      × ((count : ℕ) → course.status ≡ TooMany count → ⊥)
