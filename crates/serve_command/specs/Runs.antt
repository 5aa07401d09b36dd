-- What a call that serves a door leaves, by the status with which it ended.
use Rattle.std.specs.Prelude.{◌≡◌, ◌≢◌, ◌⊎◌, ℕ, ◌+◌, List, [], length, Option, Some, None}
use Rattle.std.specs.List.{AllByRecursion}
use Rattle.std.specs.Io.KnownBytes.{Appends}
use Rattle.desk_io.specs.Outside.{AppendsPart}
use Rattle.act_bodies.specs.declared.key.Key.{Key}
use Rattle.act_model.specs.Clocks.{ClockState}
use Rattle.act_model.specs.Conducts.{EitherWay, Extends}
use Rattle.act_model.specs.Legal.{IsLegal}
use Rattle.intake_lock.specs.Items.{RisesBy, rises}
use Rattle.intake_lock.specs.declared.view.Item.{Item}
use Rattle.mpc_desk.specs.Desks.{DeskState, IsAtRest, count_of}
use Rattle.mpc_desk.specs.Pairs.{DiskPair, pair, DuringBoth, HaveRisen, EitherRises, PairState, disks_of}
use Rattle.command_ends.specs.declared.status.Status.{Status}
use Rattle.command_ends.specs.declared.status.Status.TheVariants.{Done, Usage, BadFrame, DiskFault, Damaged, ReadFault}
use Rattle.command_ends.specs.declared.status.Status.TheVariants.{WriteFault, NoMemory, DoorFault, MirrorFault, TooMany}
use Rattle.command_ends.specs.Disks.{DiskWords, DiskRose}
use Rattle.command_ends.specs.Opening.{Opens, EndsUnopened}
use Rattle.command_ends.specs.Closing.{MendsLast}
use Rattle.command_ends.specs.Left.{IsLeft}
use Rattle.serve_command.specs.declared.accepting.Stop.{Stop}
use Rattle.serve_command.specs.declared.accepting.Stop.TheVariants as stops
use Rattle.serve_command.specs.declared.ends.LinkEnd.{LinkEnd}
use Rattle.serve_command.specs.Images.{Answered, stamping_office, AskedBy, KeepsDone, LeavesInService}
use Rattle.serve_command.specs.Links.{LinkWords, calls_in}
use Rattle.serve_command.specs.Gathering.{DoorState}
use Rattle.serve_command.specs.Serving.{IsNoDiskFault, Serves}
use Rattle.serve_command.specs.Summaries.{summary}

-- ---- the first fault

-- The first fault that arose: of the door, or out of memory, or else what the last mending gave, which is made
-- whatever the links stopped at.
abbrev pub first_fault : Option Stop → Status → Status
first_fault (Some stops.Full) mended = mended
first_fault (Some stops.Shut) mended = mended
first_fault (Some stops.Failed) mended = DoorFault
first_fault (Some stops.NoMemory) mended = NoMemory
first_fault None mended = NoMemory

-- ---- the two lines

-- the lines were written, or a front of them and not all
abbrev pub WritesLines : Option (List ℕ) → Option (List ℕ) → List ℕ → Status → Type 0
WritesLines old new lines Done = Appends old new lines
WritesLines old new lines WriteFault = AppendsPart old new lines
WritesLines old new lines Usage = ⊥
WritesLines old new lines (BadFrame offset) = ⊥
WritesLines old new lines DiskFault = ⊥
WritesLines old new lines (Damaged file offset) = ⊥
WritesLines old new lines ReadFault = ⊥
WritesLines old new lines NoMemory = ⊥
WritesLines old new lines DoorFault = ⊥
WritesLines old new lines MirrorFault = ⊥
WritesLines old new lines (TooMany count) = ⊥

-- The lines are written where nothing failed so far; else nothing is, and the status is that of the first fault.
abbrev pub Writes : Status → Type 0 → Option (List ℕ) → Option (List ℕ) → List ℕ → Status → Type 0
Writes so_far Unwritten old new lines status =
    ((so_far ≡ Done) × WritesLines old new lines status) ⊎ ((so_far ≢ Done) × (status ≡ so_far) × Unwritten)

-- ---- the whole call

-- what the call was given: the founder's key, the disks, the clock, the door, how many links may come, and what the
-- sink took so far
pub record RunStart (D I O : Type 0) : Type 0 where
  pub founder : Key
  pub disks : DiskPair D
  pub clock : ClockState
  pub door : DoorState I O
  pub most : ℕ
  pub taken : Option (List ℕ)

-- what the call left: the disks, the door, how the links ended, what the sink took, by how many entries the history
-- grew, and the status
pub record RunEnd (D I O : Type 0) : Type 0 where
  pub disks : DiskPair D
  pub door : DoorState I O
  pub ends : List (LinkEnd I O)
  pub taken : Option (List ℕ)
  pub added : ℕ
  pub status : Status

-- the counts of faults rose by at least this much together, each by itself
pub record HaveRisenBy {D : Type 0} (on : DiskWords D) (rise : ℕ) (old new : DiskPair D) : Type 0 where
  pub first : ℕ
  pub second : ℕ
  pub sum : rise ≡ first + second
  pub rises_first : RisesBy first (count_of (on.faults old.first)) (count_of (on.faults new.first))
  pub rises_second : RisesBy second (count_of (on.faults old.second)) (count_of (on.faults new.second))

-- The desk was opened, the links of the door were attended, and an act in doubt was mended once. `Unasked` says that
-- clock and door are as they were, which they are where memory for the links was refused.
pub record ServesLinks {D I O : Type 0} (on : DiskWords D) (links : LinkWords I O) (start : RunStart D I O)
    (end : RunEnd D I O) (Unasked : Type 0) : Type 0 where
  pub opened : PairState D
  pub opens : Opens on start.founder start.disks opened
  pub left : DeskState D
  pub stop : Option Stop
  pub answered : Answered D
  pub serves : Serves links
      (record {
        clock = start.clock;
        office = stamping_office on.moment on.faults opened.chained [];
        door = start.door;
        most = start.most;
      })
      (record {
        office = stamping_office on.moment on.faults left answered;
        door = end.door;
        ends = end.ends;
        stop = stop;
      })
  pub unasked : stop ≡ None → Unasked
  pub last : DeskState D
  pub mended : Status
  pub mends : MendsLast on left mended last

-- What such a call, in which links asked these calls, leaves of the office that was opened so and closed so. What a
-- crash at some moment of it leaves is read like what it might have left at its start, or stands for a legal history to
-- which the office came, or for one entry more, which the step adds there for an act that a link asked at that place.
-- At the end each image of the second disk stands for the settled history, or for that with the act in doubt; the first
-- disk is as opening left it. That history is legal, extends the one at the opening, and has all that every legal
-- history has. The entry of each act that was done, also of one that was sent again, is in each image since the moment
-- at which it was answered, its stamp's.
pub record LeavesOffice {D I O : Type 0} (on : DiskWords D) (start : RunStart D I O) (end : RunEnd D I O)
    (calls : List Item) (opened : PairState D) (last : DeskState D) : Type 0 where
  pub disks_are : end.disks ≡ pair opened.first last.disk
  pub images : DuringBoth on start.disks end.disks
      (LeavesInService on start.disks start.founder (Some opened.chained.limit) (AskedBy calls)
      opened.chained.state.settled last.state.settled)
  pub kept : AllByRecursion (KeepsDone on.moment on.since (AskedBy calls) opened.chained last) calls
  pub at_rest : IsAtRest on.leaves last
  pub legal : EitherWay (IsLegal start.founder) last.state
  pub grows : Extends opened.chained.state.settled last.state.settled
  pub is_left : IsLeft opened.chained.state.settled last.state.settled end.added

-- The counts of faults rose together by at least what they rose in opening, in these calls for the links and in the
-- last mending; where none rose no call is answered that the disk failed.
pub record CountsFaults {D : Type 0} (on : DiskWords D) (old new : DiskPair D) (calls : List Item)
    (opened : PairState D) (left last : DeskState D) : Type 0 where
  pub opening : ℕ
  pub rose_opening : HaveRisen on opening old (disks_of opened)
  pub mending : ℕ
  pub rose_mending : DiskRose on mending left.disk last.disk
  pub counts : HaveRisenBy on (opening + rises calls + mending) old new
  pub quiet : ¬ EitherRises on old new → AllByRecursion IsNoDiskFault calls

-- The links of the door were attended, the office is left so, and the two lines were written where nothing had failed.
-- `Unwritten` says that the sink is as it was.
pub record Runs {D I O : Type 0} (on : DiskWords D) (links : LinkWords I O) (start : RunStart D I O)
    (end : RunEnd D I O) (Unasked Unwritten : Type 0) : Type 0 where
  pub service : ServesLinks on links start end Unasked
  pub office : LeavesOffice on start end (calls_in service.serves.attendances) service.opened service.last
  pub faults : CountsFaults on start.disks end.disks (calls_in service.serves.attendances) service.opened service.left
      service.last
  pub writes : Writes (first_fault service.stop service.mended) Unwritten start.taken end.taken
      (summary (length end.ends) (length service.last.state.settled)) end.status

-- What stands at the end of the call. Either the office couldn't be opened, and `Uncalled` says that the sink, the
-- clock and the door were not called and that there are no links; or it was opened, and the links were attended.
abbrev pub Ends : {D I O : Type 0} → DiskWords D → LinkWords I O → RunStart D I O → RunEnd D I O → Type 0 → Type 0
    → Type 0 → Type 0
Ends on links start end Uncalled Unasked Unwritten =
    (Uncalled × EndsUnopened on start.founder start.disks end.disks end.added end.status)
    ⊎ Runs on links start end Unasked Unwritten
