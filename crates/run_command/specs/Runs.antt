-- What a run of the program leaves, by the status with which it ended.
use Rattle.std.specs.Prelude.{◌≡◌, ◌⊎◌, ℕ, ◌+◌, List, [], Some}
use Rattle.frame_service.specs.Runs.{Run, AnswersAll, StopsAt, StopsReading, StopsWriting}
use Rattle.act_bodies.specs.declared.key.Key.{Key}
use Rattle.act_model.specs.declared.keeper.OfficeState.{OfficeState}
use Rattle.act_model.specs.Conducts.{HadMemory, IsStepped}
use Rattle.act_model.specs.Turns.{Turn, Conduct, at_rest, rises_of}
use Rattle.mpc_desk.specs.Desks.{DeskState}
use Rattle.mpc_desk.specs.Pairs.{DiskPair, pair, DuringBoth, HaveRisen, EitherRises, PairState, disks_of}
use Rattle.command_ends.specs.Disks.{DiskWords}
use Rattle.command_ends.specs.Opening.{journal_bytes, Opens, EndsUnopened}
use Rattle.command_ends.specs.Closing.{IsNotMended, IsMended, IsStillInDoubt, IsClosed}
use Rattle.command_ends.specs.Left.{IsLeft}
use Rattle.command_ends.specs.declared.status.Status.{Status}
use Rattle.command_ends.specs.declared.status.Status.TheVariants.{Done, Usage, BadFrame, DiskFault, Damaged, ReadFault}
use Rattle.command_ends.specs.declared.status.Status.TheVariants.{WriteFault, NoMemory, DoorFault, MirrorFault, TooMany}
use Rattle.act_model.specs.Clocks.{ClockState}
use Rattle.run_command.specs.Serving.{Serves}
use Rattle.run_command.specs.Conducted.{LeavesBoth, Grows, KeepsEach}

-- ---- the office

-- The office of a run. It was opened on the disks, which stood for a legal history. The turns are a conduct from there,
-- each of whose settled histories is an end of every later one. What is in doubt when serving has stopped is closed,
-- and the second disk is then at rest.
pub record OfficeRun {D : Type 0} (on : DiskWords D) (founder : Key) (disks : DiskPair D) (turns : List Turn)
    (Closes : OfficeState → ℕ → OfficeState → Type 0) : Type 0 where
  pub opened : PairState D
  pub opens : Opens on founder disks opened
  pub left : DeskState D
  pub conduct : Conduct founder (Some journal_bytes) (at_rest opened.chained.state.settled) turns left.state
  pub grows : Grows founder (Some journal_bytes) (at_rest opened.chained.state.settled) turns left.state conduct
  pub last : DeskState D
  pub mending : ℕ
  pub closes : Closes left.state mending last.state
  pub closed : IsClosed on mending left last

-- The office of a run, from the disks at its start to the disks at its end, of which the first one is as opening left
-- it. What each turn left is in each image of the second disk from the moment at which its reply was given to the end.
-- The counts of faults rose together by what they rose in opening, in the turns and in the last mending. What a crash
-- at some moment of the run leaves is read like what it might have left at its start, or is what the conduct allows.
-- Where no count rose and no turn ran out of memory, the conduct is the step, one after another.
pub record RunsOn {D : Type 0} (on : DiskWords D) (founder : Key) (disks now : DiskPair D) (turns : List Turn)
    (Closes : OfficeState → ℕ → OfficeState → Type 0) (added : ℕ) : Type 0 where
  pub office : OfficeRun on founder disks turns Closes
  pub disks_are : now ≡ pair office.opened.first office.last.disk
  pub kept : KeepsEach on now.second founder (Some journal_bytes) (at_rest office.opened.chained.state.settled) turns
      office.left.state office.conduct office.opened.chained.disk office.left.disk
  pub opening : ℕ
  pub rose_opening : HaveRisen on opening disks (disks_of office.opened)
  pub counts : HaveRisen on (opening + rises_of turns + office.mending) disks now
  pub images : DuringBoth on disks now
      (LeavesBoth founder (Some journal_bytes) (at_rest office.opened.chained.state.settled) turns office.left.state
      office.conduct)
  pub is_left : IsLeft office.opened.chained.state.settled office.last.state.settled added
  pub stepped : ¬ EitherRises on disks now → HadMemory turns
      → IsStepped founder (Some journal_bytes) office.opened.chained.state.settled turns office.last.state.settled

-- the office wasn't opened: nothing was served, and no byte came and none was written
pub record ServesNothing (run : Run) (Uncalled : Type 0) : Type 0 where
  pub uncalled : Uncalled
  pub came : run.came ≡ []
  pub texts : run.texts ≡ []

-- ---- what stands at each end

-- the course of a run: the founding officer's key, the disks and the clock before it and after it, what came, was
-- answered and written, and by how many entries the history grew
pub record Course (D : Type 0) : Type 0 where
  pub founder : Key
  pub disks : DiskPair D
  pub disks_after : DiskPair D
  pub clock : ClockState
  pub clock_after : ClockState
  pub run : Run
  pub added : ℕ

-- the office was opened, these turns were taken there, and what was in doubt was closed so
abbrev pub RunsSo : {D : Type 0} → DiskWords D → Course D → List Turn → (OfficeState → ℕ → OfficeState → Type 0)
    → Type 0
RunsSo on course turns Closes = RunsOn on course.founder course.disks course.disks_after turns Closes course.added

-- it was not opened, and nothing was served
abbrev pub IsNotRun : {D : Type 0} → DiskWords D → Course D → Type 0 → Status → Type 0
IsNotRun on course Uncalled status =
    ServesNothing course.run Uncalled
    × EndsUnopened on course.founder course.disks course.disks_after course.added status

-- What stands at each end of a run. `Uncalled` says that the source, the sink and the clock were not called.
abbrev pub Ends : {D : Type 0} → DiskWords D → Course D → Type 0 → Status → Type 0
Ends on course Uncalled Done =
    (turns : List Turn) × Serves course.clock course.clock_after (AnswersAll course.run) turns
    × RunsSo on course turns IsMended
Ends on course Uncalled (BadFrame offset) =
    (turns : List Turn) × Serves course.clock course.clock_after (StopsAt course.run offset) turns
    × RunsSo on course turns IsNotMended
Ends on course Uncalled ReadFault =
    (turns : List Turn) × Serves course.clock course.clock_after (StopsReading course.run) turns
    × RunsSo on course turns IsNotMended
Ends on course Uncalled WriteFault =
    (turns : List Turn) × Serves course.clock course.clock_after (StopsWriting course.run) turns
    × RunsSo on course turns IsNotMended
Ends on course Uncalled DiskFault =
    IsNotRun on course Uncalled DiskFault
    ⊎ ((turns : List Turn) × Serves course.clock course.clock_after (AnswersAll course.run) turns
    × RunsSo on course turns IsStillInDoubt)
Ends on course Uncalled (Damaged file offset) = IsNotRun on course Uncalled (Damaged file offset)
Ends on course Uncalled NoMemory = IsNotRun on course Uncalled NoMemory
Ends on course Uncalled Usage = ⊥
Ends on course Uncalled DoorFault = ⊥
Ends on course Uncalled MirrorFault = ⊥
Ends on course Uncalled (TooMany count) = ⊥
