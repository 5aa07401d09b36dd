-- What the command leaves outside, by the status with which it ended.
use Rattle.std.specs.Prelude.{ℤ, List, ℕ, Option}
use Rattle.std.specs.List.{AllByRecursion}
use Rattle.std.specs.Io.KnownBytes.{Appends}
use Rattle.desk_io.specs.Outside.{AppendsPart}
use Rattle.command_ends.specs.declared.status.Status.{Status}
use Rattle.command_ends.specs.declared.status.Status.TheVariants.{Done, Usage, BadFrame, DiskFault, Damaged, ReadFault}
use Rattle.command_ends.specs.declared.status.Status.TheVariants.{WriteFault, NoMemory, DoorFault, MirrorFault, TooMany}
use Rattle.command_ends.specs.Courses.{SinkWords, Change, IsUncalled}
use Rattle.mirror_store.specs.declared.rows.ObjectRow.{ObjectRow}
use Rattle.mirror_store.specs.declared.rows.SightRow.{SightRow}
use Rattle.mirror_store.specs.declared.rows.MirrorRows.{MirrorRows}
use Rattle.mirror_store.specs.Rows.{IsObjectRow, IsSightRow}
use Rattle.mirror_store.specs.Mirrors.{TellsObjects, TellsBetween}
use Rattle.look_command.specs.Looks.{rows_text}

-- Done: the sink took the text. WriteFault: it took a front of the text and not all of it. MirrorFault, NoMemory: it
-- wasn't called.
abbrev pub Writes : {K : Type 0} → SinkWords K → Change K → List ℕ → Status → Type 0
Writes write sink text Done = Appends (write.taken sink.old) (write.taken sink.new) text
Writes write sink text WriteFault = AppendsPart (write.taken sink.old) (write.taken sink.new) text
Writes write sink text MirrorFault = IsUncalled sink
Writes write sink text NoMemory = IsUncalled sink
Writes write sink text Usage = ⊥
Writes write sink text (BadFrame offset) = ⊥
Writes write sink text DiskFault = ⊥
Writes write sink text (Damaged file offset) = ⊥
Writes write sink text ReadFault = ⊥
Writes write sink text DoorFault = ⊥
Writes write sink text (TooMany count) = ⊥

-- the rows are in range, and those of the mirror where it tells its lists: all objects, and the observations from the
-- one moment on and before the other
pub record AreSeen (told : Option MirrorRows) (from to : ℤ) (objects : List ObjectRow) (sights : List SightRow)
    : Type 0 where
  pub objects_in_range : AllByRecursion IsObjectRow objects
  pub sights_in_range : AllByRecursion IsSightRow sights
  pub objects_told : TellsObjects told objects
  pub sights_told : TellsBetween told from to sights

-- there are such rows, and so much of their text was written
pub record Shows (told : Option MirrorRows) (from to : ℤ) (Written : List ℕ → Type 0) : Type 0 where
  pub objects : List ObjectRow
  pub sights : List SightRow
  pub seen : AreSeen told from to objects sights
  pub written : Written (rows_text objects sights)

-- the same ends of a mirror that may tell nothing: the text is that of some rows
abbrev pub Looks : {K : Type 0} → SinkWords K → Option MirrorRows → (from to : ℤ) → Change K → Status → Type 0
Looks write told from to sink Done = Shows told from to (Appends (write.taken sink.old) (write.taken sink.new))
Looks write told from to sink WriteFault =
    Shows told from to (AppendsPart (write.taken sink.old) (write.taken sink.new))
Looks write told from to sink MirrorFault = IsUncalled sink
Looks write told from to sink NoMemory = IsUncalled sink
Looks write told from to sink Usage = ⊥
Looks write told from to sink (BadFrame offset) = ⊥
Looks write told from to sink DiskFault = ⊥
Looks write told from to sink (Damaged file offset) = ⊥
Looks write told from to sink ReadFault = ⊥
Looks write told from to sink DoorFault = ⊥
Looks write told from to sink (TooMany count) = ⊥

-- the ends that the command can have
abbrev pub IsOwn : Status → Type 0
IsOwn Done = Unit {0}
IsOwn WriteFault = Unit {0}
IsOwn NoMemory = Unit {0}
IsOwn MirrorFault = Unit {0}
IsOwn Usage = ⊥
IsOwn (BadFrame offset) = ⊥
IsOwn DiskFault = ⊥
IsOwn (Damaged file offset) = ⊥
IsOwn ReadFault = ⊥
IsOwn DoorFault = ⊥
IsOwn (TooMany count) = ⊥
