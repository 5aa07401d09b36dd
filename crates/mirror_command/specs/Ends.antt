-- What the command leaves outside, by the status with which it ended.
use Rattle.std.specs.Prelude.{◌≡◌, ◌⊎◌, ◌≤◌, ℕ, List, Option, Some, None}
use Rattle.std.specs.Io.KnownBytes.{Appends}
use Rattle.desk_io.specs.Outside.{AppendsPart}
use Rattle.act_model.specs.declared.entry.Entry.{Entry}
use Rattle.act_model.specs.Deeds.{deeds}
use Rattle.act_model.specs.Observations.{observations}
use Rattle.mpc_desk.specs.Pairs.{DiskPair}
use Rattle.command_ends.specs.declared.status.Status.{Status}
use Rattle.command_ends.specs.declared.status.Status.TheVariants.{Done, Usage, BadFrame, DiskFault, Damaged, ReadFault}
use Rattle.command_ends.specs.declared.status.Status.TheVariants.{WriteFault, NoMemory, DoorFault, MirrorFault, TooMany}
use Rattle.command_ends.specs.Courses.{SinkWords, Change, IsUncalled}
use Rattle.command_ends.specs.Disks.{DiskWords}
use Rattle.command_ends.specs.Opening.{EndsUnopened}
use Rattle.command_ends.specs.Reading.{reader, KeepsOffice}
use Rattle.mirror_store.specs.Mirrored.{mirrored, greatest, uncountable}
use Rattle.mirror_store.specs.Mirrors.{IsReplaced}
use Rattle.mirror_store.specs.Words.{MirrorWords}
use Rattle.mirror_command.specs.Lines.{line_of_history}

-- the course of the command: its sink, its two disks and the mirror, before it and after it, and by how many entries
-- the history grew
pub record Course (K D M : Type 0) : Type 0 where
  pub sink : Change K
  pub disks : Change (DiskPair D)
  pub mirror : Change M
  pub added : ℕ

-- ---- the line

-- all of the line was written, or a front and not all of it where the sink failed
abbrev pub Tells : Option (List ℕ) → Option (List ℕ) → List ℕ → Status → Type 0
Tells old new text Done = Appends old new text
Tells old new text WriteFault = AppendsPart old new text
Tells old new text Usage = ⊥
Tells old new text (BadFrame offset) = ⊥
Tells old new text DiskFault = ⊥
Tells old new text (Damaged file offset) = ⊥
Tells old new text ReadFault = ⊥
Tells old new text NoMemory = ⊥
Tells old new text DoorFault = ⊥
Tells old new text MirrorFault = ⊥
Tells old new text (TooMany count) = ⊥

-- ---- an office that was opened

-- the rows of the history can be counted, and the mirror holds them, where it tells what it holds
pub record Holds {M : Type 0} (kept : MirrorWords M) (mirror : Change M) (history : List Entry) : Type 0 where
  pub counted : uncountable history ≡ None
  pub held : IsReplaced (kept.told mirror.old) (kept.told mirror.new) (mirrored history)

-- the mirror holds what it held, and nothing was written
pub record HoldsOn {K M : Type 0} (kept : MirrorWords M) (sink : Change K) (mirror : Change M) : Type 0 where
  pub held : kept.told mirror.new ≡ kept.told mirror.old
  pub silent : IsUncalled sink

-- rows can count the accepted observations, for which no memory is asked
abbrev pub AreCounted : List Entry → Type 0
AreCounted history = observations (deeds history) ≤ greatest

-- Done: the mirror holds the rows, and their line was written. WriteFault: it holds them, and the sink took a front of
-- the line and not all of it. MirrorFault: nothing has changed. NoMemory: nothing has, and there aren't too many
-- accepted observations. TooMany: nothing was called.
abbrev pub AtHistory : {K M : Type 0} → SinkWords K → MirrorWords M → Change K → Change M → List Entry → Status → Type 0
AtHistory write kept sink mirror history Done =
    Holds kept mirror history × Appends (write.taken sink.old) (write.taken sink.new) (line_of_history history)
AtHistory write kept sink mirror history WriteFault =
    Holds kept mirror history × AppendsPart (write.taken sink.old) (write.taken sink.new) (line_of_history history)
AtHistory write kept sink mirror history MirrorFault = (uncountable history ≡ None) × HoldsOn kept sink mirror
AtHistory write kept sink mirror history NoMemory = AreCounted history × HoldsOn kept sink mirror
AtHistory write kept sink mirror history (TooMany count) =
    (uncountable history ≡ Some count) × IsUncalled mirror × IsUncalled sink
AtHistory write kept sink mirror history Usage = ⊥
AtHistory write kept sink mirror history (BadFrame offset) = ⊥
AtHistory write kept sink mirror history DiskFault = ⊥
AtHistory write kept sink mirror history (Damaged file offset) = ⊥
AtHistory write kept sink mirror history ReadFault = ⊥
AtHistory write kept sink mirror history DoorFault = ⊥

-- the office was opened, is kept, and the mirror was made to hold its rows, as the status says
pub record Refreshes {K D M : Type 0} (write : SinkWords K) (on : DiskWords D) (kept : MirrorWords M)
    (course : Course K D M) (status : Status) : Type 0 where
  pub history : List Entry
  pub keeps : KeepsOffice on reader course.disks.old course.disks.new course.added history
  pub ends : AtHistory write kept course.sink course.mirror history status

-- ---- all ends

-- the office couldn't be opened, for the reason that the status says, and neither sink nor mirror was called
pub record IsNotRead {K D M : Type 0} (on : DiskWords D) (course : Course K D M) (status : Status) : Type 0 where
  pub silent : IsUncalled course.sink
  pub unmirrored : IsUncalled course.mirror
  pub unopened : EndsUnopened on reader course.disks.old course.disks.new course.added status

abbrev pub Mirrors : {K D M : Type 0} → SinkWords K → DiskWords D → MirrorWords M → Course K D M → Status → Type 0
Mirrors write on kept course status = IsNotRead on course status ⊎ Refreshes write on kept course status

-- the ends that the command can have
abbrev pub IsOwn : Status → Type 0
IsOwn Done = Unit {0}
IsOwn DiskFault = Unit {0}
IsOwn (Damaged file offset) = Unit {0}
IsOwn WriteFault = Unit {0}
IsOwn NoMemory = Unit {0}
IsOwn MirrorFault = Unit {0}
IsOwn (TooMany count) = Unit {0}
IsOwn Usage = ⊥
IsOwn (BadFrame offset) = ⊥
IsOwn ReadFault = ⊥
IsOwn DoorFault = ⊥

-- the end where nothing failed: the rows are counted, or memory was refused
abbrev pub IsCounted : List Entry → Status → Type 0
IsCounted history Done = uncountable history ≡ None
IsCounted history (TooMany count) = uncountable history ≡ Some count
IsCounted history NoMemory = Unit {0}
IsCounted history Usage = ⊥
IsCounted history (BadFrame offset) = ⊥
IsCounted history DiskFault = ⊥
IsCounted history (Damaged file offset) = ⊥
IsCounted history ReadFault = ⊥
IsCounted history WriteFault = ⊥
IsCounted history DoorFault = ⊥
IsCounted history MirrorFault = ⊥
