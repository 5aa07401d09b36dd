-- What the command leaves, by the status with which it ended.
use Rattle.std.specs.Prelude.{◌≡◌, ◌⊎◌, ℕ, ◌+◌, List, [], length, Some}
use Rattle.call_log.specs.Counts.{Rises}
use Rattle.disk_model.specs.Crashes.{During}
use Rattle.act_bodies.specs.declared.key.Key.{Key}
use Rattle.act_model.specs.declared.entry.Entry.{Entry}
use Rattle.act_model.specs.declared.keeper.OfficeState.{OfficeState}
use Rattle.act_model.specs.Clocks.{ClockState}
use Rattle.act_model.specs.Conducts.{Extends}
use Rattle.act_model.specs.Deeds.{deeds}
use Rattle.act_model.specs.History.{EachNumberOnce}
use Rattle.act_model.specs.Turns.{at_rest}
use Rattle.mpc_desk.specs.Pairs.{DiskPair}
use Rattle.frame_service.specs.Exchanges.{Exchange}
use Rattle.frame_service.specs.Runs.{Run, AnswersAll, StopsAt, StopsReading, StopsWriting}
use Rattle.command_ends.specs.declared.status.Status.{Status}
use Rattle.command_ends.specs.declared.status.Status.TheVariants.{Done, Usage, BadFrame, DiskFault, Damaged, ReadFault}
use Rattle.command_ends.specs.declared.status.Status.TheVariants.{WriteFault, NoMemory, DoorFault, MirrorFault, TooMany}
use Rattle.command_ends.specs.Closing.{IsNotMended, IsMended, IsStillInDoubt}
use Rattle.command_ends.specs.Courses.{Change, IsUncalled}
use Rattle.command_ends.specs.Disks.{DiskWords, DiskRose}
use Rattle.command_ends.specs.Opening.{EndsUnopened}
use Rattle.command_ends.specs.Reading.{reader, KeepsOffice}
use Rattle.comet_model.specs.Conducts.{HadMemory, IsStepped}
use Rattle.comet_model.specs.Turns.{CometTurn, rises_of}
use Rattle.comet_model.specs.Unbroken.{UnbrokenNames}
use Rattle.comet_desk.specs.Desks.{CometDeskState}
use Rattle.comet_desk.specs.Opening.{IsOpened}
use Rattle.comets_command.specs.Terms.{Terms, terms_at, IsLegalIn, ConductIn}
use Rattle.comets_command.specs.Conducted.{LeavesAt, Grows, KeepsEach}
use Rattle.comets_command.specs.Serving.{Serves}
use Rattle.comets_command.specs.Opening.{EndsUnbegun}
use Rattle.comets_command.specs.Closing.{IsClosed}

-- the course of the command: the founding officer's key; the office's disks, the register's disk and the clock, each
-- before it and after it; what came, was answered and written; and by how many entries the register grew
pub record Course (D : Type 0) : Type 0 where
  pub founder : Key
  pub disks : Change (DiskPair D)
  pub register : Change D
  pub clock : Change ClockState
  pub run : Run
  pub added : ℕ

-- ---- the register

-- The entries at the end are those at the start and this many newer ones. They are legal, each number stands for at
-- most one of them, the comets of each half-month are numbered without gap or repeat, and no designation has two.
pub record IsLeft (terms : Terms) (first last : List Entry) (added : ℕ) : Type 0 where
  pub entries : length last ≡ length first + added
  pub goes_on : Extends first last
  pub legal : IsLegalIn terms last
  pub once : EachNumberOnce last
  pub names : UnbrokenNames terms.desk last

-- The register of a run. It was opened on its disk, at the entries that the file held, none where it wasn't in force.
-- The turns are a conduct from there, each of whose settled lists is an end of every later one. What is in doubt when
-- serving has stopped is closed, and the disk is then at rest.
pub record RegisterRun {D : Type 0} (on : DiskWords D) (terms : Terms) (disk : D) (turns : List CometTurn)
    (Closes : OfficeState → ℕ → OfficeState → Type 0) : Type 0 where
  pub opened : CometDeskState D
  pub opens : IsOpened on terms.founder terms.limit terms.desk disk opened
  pub left : CometDeskState D
  pub conduct : ConductIn terms (at_rest opened.state.settled) turns left.state
  pub grows : Grows terms (at_rest opened.state.settled) turns left.state conduct
  pub last : CometDeskState D
  pub mending : ℕ
  pub closes : Closes left.state mending last.state
  pub closed : IsClosed on mending left last

-- The register of a run, from its disk at the start to its disk at the end. What each turn left is in each image of the
-- disk from the moment at which its reply was given to the end. The count of faults rose by what it rose in opening, in
-- the turns and in the last mending. What a crash at some moment of the run leaves is what it might have left at the
-- start, or what the conduct allows. Where the count didn't rise and no turn ran out of memory, the conduct is the
-- step, one after another.
pub record RegisterOn {D : Type 0} (on : DiskWords D) (terms : Terms) (disk now : D) (turns : List CometTurn)
    (Closes : OfficeState → ℕ → OfficeState → Type 0) (added : ℕ) : Type 0 where
  pub run : RegisterRun on terms disk turns Closes
  pub disk_is : now ≡ run.last.disk
  pub kept : KeepsEach on now terms (at_rest run.opened.state.settled) turns run.left.state run.conduct run.opened.disk
      run.left.disk
  pub opening : ℕ
  pub rose_opening : DiskRose on opening disk run.opened.disk
  pub counts : DiskRose on (opening + rises_of turns + run.mending) disk now
  pub images : During on.moment on.since disk now
      (LeavesAt terms (at_rest run.opened.state.settled) turns run.left.state run.conduct)
  pub is_left : IsLeft terms run.opened.state.settled run.last.state.settled added
  pub stepped : ¬ Rises (on.faults disk) (on.faults now) → HadMemory turns
      → IsStepped terms.founder (Some terms.limit) terms.desk run.opened.state.settled turns run.last.state.settled

-- The office was opened to be read, and is kept with its history; the register was opened beside it, these turns were
-- taken there, and what was in doubt was closed so.
pub record RunsBeside {D : Type 0} (on : DiskWords D) (course : Course D) (turns : List CometTurn)
    (Closes : OfficeState → ℕ → OfficeState → Type 0) : Type 0 where
  pub history : List Entry
  pub office : KeepsOffice on reader course.disks.old course.disks.new 0 history
  pub register : RegisterOn on (terms_at course.founder history) course.register.old course.register.new turns Closes
      course.added

-- ---- nothing was served

-- no byte came and none was written
pub record ServesNothing (run : Run) (Uncalled : Type 0) : Type 0 where
  pub uncalled : Uncalled
  pub came : run.came ≡ []
  pub texts : run.texts ≡ []

-- the office couldn't be opened, for the reason that the status says, and the register's disk wasn't called
pub record IsOfficeShut {D : Type 0} (on : DiskWords D) (course : Course D) (status : Status) : Type 0 where
  pub unopened : EndsUnopened on reader course.disks.old course.disks.new course.added status
  pub uncalled : IsUncalled course.register

-- the office was opened to be read, and is kept with its history; the register couldn't be opened beside it
pub record IsRegisterShut {D : Type 0} (on : DiskWords D) (course : Course D) (status : Status) : Type 0 where
  pub history : List Entry
  pub office : KeepsOffice on reader course.disks.old course.disks.new 0 history
  pub unbegun : EndsUnbegun on course.founder (deeds history) course.register.old course.register.new status
  pub added : course.added ≡ 0

abbrev pub IsNotServed : {D : Type 0} → DiskWords D → Course D → Type 0 → Status → Type 0
IsNotServed on course Uncalled status =
    ServesNothing course.run Uncalled × (IsOfficeShut on course status ⊎ IsRegisterShut on course status)

-- ---- what stands at each end

-- frames of which this holds were answered by turns, and what was in doubt was closed so
abbrev pub IsServed : {D : Type 0} → DiskWords D → Course D → (List Exchange → Type 0)
    → (OfficeState → ℕ → OfficeState → Type 0) → Type 0
IsServed on course AreSo Closes =
    (turns : List CometTurn) × Serves course.clock.old course.clock.new AreSo turns
    × RunsBeside on course turns Closes

-- What stands at each end. `Uncalled` says that the source, the sink and the clock were not called.
abbrev pub Ends : {D : Type 0} → DiskWords D → Course D → Type 0 → Status → Type 0
Ends on course Uncalled Done = IsServed on course (AnswersAll course.run) IsMended
Ends on course Uncalled (BadFrame offset) = IsServed on course (StopsAt course.run offset) IsNotMended
Ends on course Uncalled ReadFault = IsServed on course (StopsReading course.run) IsNotMended
Ends on course Uncalled WriteFault = IsServed on course (StopsWriting course.run) IsNotMended
Ends on course Uncalled DiskFault =
    IsNotServed on course Uncalled DiskFault ⊎ IsServed on course (AnswersAll course.run) IsStillInDoubt
Ends on course Uncalled (Damaged file offset) = IsNotServed on course Uncalled (Damaged file offset)
Ends on course Uncalled NoMemory = IsNotServed on course Uncalled NoMemory
Ends on course Uncalled Usage = ⊥
Ends on course Uncalled DoorFault = ⊥
Ends on course Uncalled MirrorFault = ⊥
Ends on course Uncalled (TooMany count) = ⊥
