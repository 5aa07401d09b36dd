-- What the program promises of each command, over every source, sink, three disks, clock, mirror and door. What it
-- promises of one command stands in that command's own `specs/Promises.antt`.
use Rattle.std.specs.Prelude.{◌≡◌, ◌↔◌, ◌≤◌, ◌⊎◌, true, false, ℕ, ℤ, List, [], Option, Some, None}
use Rattle.call_log.specs.Counts.{Rises}
use Rattle.mpc_desk.specs.Pairs.{DiskPair, EitherRises}
use Rattle.command_line.specs.declared.command.Command.{Command}
use Rattle.command_line.specs.declared.command.Command.TheVariants.{Run, Serve, Export, Mirror, Look, Workload, Comets}
use Rattle.command_ends.specs.Courses.{SourceWords, OutsideWords, Change, IsUncalled, Course, HasCause, SourceCause}
use Rattle.command_ends.specs.Courses.{SinkCause}
use Rattle.command_ends.specs.Disks.{DiskWords}
use Rattle.command_ends.specs.declared.status.Status.{Status}
use Rattle.command_ends.specs.declared.status.Status.TheVariants.{Usage, DiskFault, DoorFault, MirrorFault}
use Rattle.run_command.specs.Promises.{KeepsRun}
use Rattle.export_command.specs.Promises.{KeepsExport}
use Rattle.mirror_store.specs.Words.{MirrorWords}
use Rattle.mirror_command.specs.Promises.{KeepsMirror}
use Rattle.look_command.specs.Promises.{KeepsLook}
use Rattle.workload_command.specs.Promises.{KeepsWorkload}
use Rattle.comets_command.specs.Promises.{KeepsComets}
use Rattle.serve_command.specs.declared.ends.LinkEnd.{LinkEnd}
use Rattle.serve_command.specs.Promises.{DoorWords, KeepsServe}
use Rattle.program_top.specs.Jobs.{is_done_alone, is_done, calls_mirror, calls_register}

-- the door before a command and after it, and how the links ended that came, in the door's order
pub record DoorCourse (G I O : Type 0) : Type 0 where
  pub door : Change G
  pub ends : List (LinkEnd I O)

-- the door wasn't called, and there are no links
abbrev pub IsDoorUncalled : {G I O : Type 0} → DoorCourse G I O → Type 0
IsDoorUncalled at = IsUncalled at.door × (at.ends ≡ [])

-- ---- each command

-- words that name no command: nothing was called, and the disks are given back as they were
pub record IsUsage {S K D C : Type 0} (source : Change S) (course : Course K D C) : Type 0 where
  pub status : course.status ≡ Usage
  pub uncalled : IsUncalled source × IsUncalled course.sink × IsUncalled course.clock
  pub disks : IsUncalled course.disks
  pub added : course.added ≡ 0

-- `export` calls neither source nor clock
pub record ExportsAlone {S K D C : Type 0} (on : OutsideWords K D C) (source : Change S) (course : Course K D C)
    : Type 0 where
  pub source_rests : IsUncalled source
  pub clock_rests : IsUncalled course.clock
  pub keeps : KeepsExport on.sink on.disk course.sink course.disks course.added course.status

-- `mirror` calls neither source nor clock
pub record MirrorsAlone {S K D C M : Type 0} (on : OutsideWords K D C) (kept : MirrorWords M) (source : Change S)
    (course : Course K D C) (mirror : Change M) : Type 0 where
  pub source_rests : IsUncalled source
  pub clock_rests : IsUncalled course.clock
  pub keeps : KeepsMirror on.sink on.disk kept
      (record { sink = course.sink; disks = course.disks; mirror = mirror; added = course.added }) course.status

-- `look` calls sink and mirror alone, and the mirror still holds what it held; the disks are given back as they were
pub record LooksAlone {S K D C M : Type 0} (on : OutsideWords K D C) (kept : MirrorWords M) (source : Change S)
    (course : Course K D C) (mirror : Change M) (from to : ℤ) : Type 0 where
  pub source_rests : IsUncalled source
  pub clock_rests : IsUncalled course.clock
  pub disks_rest : IsUncalled course.disks
  pub added : course.added ≡ 0
  pub keeps : KeepsLook on.sink kept from to course.sink mirror course.status

-- `workload` calls the sink alone; the disks are given back as they were
pub record WorksAlone {S K D C : Type 0} (on : OutsideWords K D C) (source : Change S) (course : Course K D C)
    (seed count : ℕ) : Type 0 where
  pub source_rests : IsUncalled source
  pub clock_rests : IsUncalled course.clock
  pub disks_rest : IsUncalled course.disks
  pub added : course.added ≡ 0
  pub keeps : KeepsWorkload on.sink course.sink course.status seed count

-- what is said of the command that the words name, where `serve` is none
abbrev pub KeepsAlone : {S K D C M : Type 0} → SourceWords S → OutsideWords K D C → MirrorWords M → Change S
    → Course K D C → Change M → Change D → Option Command → Type 0
KeepsAlone read on kept source course mirror register None = IsUsage source course
KeepsAlone read on kept source course mirror register (Some (Run key)) = KeepsRun read on source course key
KeepsAlone read on kept source course mirror register (Some (Serve key connections)) = IsUsage source course
KeepsAlone read on kept source course mirror register (Some Export) = ExportsAlone on source course
KeepsAlone read on kept source course mirror register (Some Mirror) = MirrorsAlone on kept source course mirror
KeepsAlone read on kept source course mirror register (Some (Look from to)) =
    LooksAlone on kept source course mirror from to
KeepsAlone read on kept source course mirror register (Some (Workload seed count)) =
    WorksAlone on source course seed count
KeepsAlone read on kept source course mirror register (Some (Comets key)) =
    KeepsComets read on source course register key

-- ---- the promises

-- one of the office's two disks failed where the end is `DiskFault`, or for `comets` the register's
abbrev pub AnyDiskCause : {D : Type 0} → DiskWords D → Change (DiskPair D) → Change D → Option Command → Status
    → Type 0
AnyDiskCause on disks register command status =
    status ≡ DiskFault → EitherRises on disks.old disks.new
    ⊎ ((calls_register command ≡ true) × Rises (on.faults register.old) (on.faults register.new))

-- each fault has its cause, whatever the command
pub record HasCauses {S K D C : Type 0} (read : SourceWords S) (on : OutsideWords K D C) (source : Change S)
    (course : Course K D C) (register : Change D) (command : Option Command) : Type 0 where
  pub read_cause : SourceCause read source course.status
  pub write_cause : SinkCause on.sink course.sink course.status
  pub disk_cause : AnyDiskCause on.disk course.disks register command course.status

-- the mirror failed where the end is `MirrorFault`, and nowhere else; no command but `mirror` and `look` calls it
pub record MirrorRests {M : Type 0} (kept : MirrorWords M) (mirror : Change M) (status : Status)
    (command : Option Command) : Type 0 where
  pub cause : HasCause kept.faults mirror MirrorFault status
  pub counts : kept.faults mirror.old ≤ kept.faults mirror.new
  pub uncalled : calls_mirror command ≡ false → IsUncalled mirror

-- What is promised without threads. The words decide alone whether it ends with `Usage`. No command but `comets` calls
-- the register's disk.
pub record PromisesAlone {S K D C M : Type 0} (read : SourceWords S) (on : OutsideWords K D C) (kept : MirrorWords M)
    (source : Change S) (course : Course K D C) (mirror : Change M) (register : Change D) (command : Option Command)
    : Type 0 where
  pub keeps : KeepsAlone read on kept source course mirror register command
  pub usage : (course.status ≡ Usage) ↔ (is_done_alone command ≡ false)
  pub causes : HasCauses read on source course register command
  pub mirror_cause : MirrorRests kept mirror course.status command
  pub comets_untouched : calls_register command ≡ false → IsUncalled register

-- what is said of the command that the words name; `serve` doesn't call the source, and each other doesn't call the
-- door
abbrev pub Keeps : {S K D C M G I O : Type 0} → SourceWords S → OutsideWords K D C → MirrorWords M → DoorWords G I O
    → Change S → Course K D C → Change M → Change D → DoorCourse G I O → Option Command → Type 0
Keeps read on kept doors source course mirror register at (Some (Serve key connections)) =
    IsUncalled source × KeepsServe on doors course at.door at.ends key connections
Keeps read on kept doors source course mirror register at None =
    KeepsAlone read on kept source course mirror register None × IsDoorUncalled at
Keeps read on kept doors source course mirror register at (Some (Run key)) =
    KeepsAlone read on kept source course mirror register (Some (Run key)) × IsDoorUncalled at
Keeps read on kept doors source course mirror register at (Some Export) =
    KeepsAlone read on kept source course mirror register (Some Export) × IsDoorUncalled at
Keeps read on kept doors source course mirror register at (Some Mirror) =
    KeepsAlone read on kept source course mirror register (Some Mirror) × IsDoorUncalled at
Keeps read on kept doors source course mirror register at (Some (Look from to)) =
    KeepsAlone read on kept source course mirror register (Some (Look from to)) × IsDoorUncalled at
Keeps read on kept doors source course mirror register at (Some (Workload seed count)) =
    KeepsAlone read on kept source course mirror register (Some (Workload seed count)) × IsDoorUncalled at
Keeps read on kept doors source course mirror register at (Some (Comets key)) =
    KeepsAlone read on kept source course mirror register (Some (Comets key)) × IsDoorUncalled at

-- What the program promises. The words decide alone whether it ends with `Usage`. No command but `comets` calls the
-- register's disk.
pub record Promises {S K D C M G I O : Type 0} (read : SourceWords S) (on : OutsideWords K D C) (kept : MirrorWords M)
    (doors : DoorWords G I O) (source : Change S) (course : Course K D C) (mirror : Change M) (register : Change D)
    (at : DoorCourse G I O) (command : Option Command) : Type 0 where
  pub keeps : Keeps read on kept doors source course mirror register at command
  pub usage : (course.status ≡ Usage) ↔ (is_done command ≡ false)
  pub causes : HasCauses read on source course register command
  pub mirror_cause : MirrorRests kept mirror course.status command
  pub comets_untouched : calls_register command ≡ false → IsUncalled register
  pub door_cause : HasCause doors.faults at.door DoorFault course.status
