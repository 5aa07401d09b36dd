-- What writing out the catalogue leaves, by the status with which it ended.
use Rattle.std.specs.Prelude.{◌⊎◌, ℕ, List, Option}
use Rattle.std.specs.Io.KnownBytes.{Appends}
use Rattle.desk_io.specs.Outside.{AppendsPart}
use Rattle.act_model.specs.declared.entry.Entry.{Entry}
use Rattle.act_model.specs.Catalogue.{catalogue}
use Rattle.catalogue_export.specs.Exports.{AppendsFront}
use Rattle.mpc_desk.specs.Pairs.{DiskPair}
use Rattle.command_ends.specs.declared.status.Status.{Status}
use Rattle.command_ends.specs.declared.status.Status.TheVariants.{Done, Usage, BadFrame, DiskFault, Damaged, ReadFault}
use Rattle.command_ends.specs.declared.status.Status.TheVariants.{WriteFault, NoMemory, DoorFault, MirrorFault, TooMany}
use Rattle.command_ends.specs.Disks.{DiskWords}
use Rattle.command_ends.specs.Opening.{EndsUnopened}
use Rattle.command_ends.specs.Reading.{reader, KeepsOffice}

-- how much of a text was written: all of it; a front and not all where the sink failed; a front where memory was
-- refused
abbrev pub IsWritten : Option (List ℕ) → Option (List ℕ) → List ℕ → Status → Type 0
IsWritten old new text Done = Appends old new text
IsWritten old new text WriteFault = AppendsPart old new text
IsWritten old new text NoMemory = AppendsFront old new text
IsWritten old new text Usage = ⊥
IsWritten old new text (BadFrame offset) = ⊥
IsWritten old new text DiskFault = ⊥
IsWritten old new text (Damaged file offset) = ⊥
IsWritten old new text ReadFault = ⊥
IsWritten old new text DoorFault = ⊥
IsWritten old new text MirrorFault = ⊥
IsWritten old new text (TooMany count) = ⊥

-- the course of an export: the disks and what the sink took, before it and after it, and by how many entries the
-- history grew
pub record Course (D : Type 0) : Type 0 where
  pub disks : DiskPair D
  pub disks_after : DiskPair D
  pub taken : Option (List ℕ)
  pub taken_after : Option (List ℕ)
  pub added : ℕ

-- the catalogue of the history that the disks stood for was written, so far as the status says
pub record Writes {D : Type 0} (on : DiskWords D) (course : Course D) (status : Status) : Type 0 where
  pub history : List Entry
  pub keeps : KeepsOffice on reader course.disks course.disks_after course.added history
  pub written : IsWritten course.taken course.taken_after (catalogue history) status

-- What stands at the end: the office couldn't be opened, for the reason that the status says, and the sink was not
-- called, which `Uncalled` says; or its catalogue was written.
abbrev pub Exports : {D : Type 0} → DiskWords D → Course D → Type 0 → Status → Type 0
Exports on course Uncalled status =
    (Uncalled × EndsUnopened on reader course.disks course.disks_after course.added status) ⊎ Writes on course status

-- the ends that writing out the catalogue can have
abbrev pub IsOwn : Status → Type 0
IsOwn Done = Unit {0}
IsOwn DiskFault = Unit {0}
IsOwn (Damaged file offset) = Unit {0}
IsOwn WriteFault = Unit {0}
IsOwn NoMemory = Unit {0}
IsOwn Usage = ⊥
IsOwn (BadFrame offset) = ⊥
IsOwn ReadFault = ⊥
IsOwn DoorFault = ⊥
IsOwn MirrorFault = ⊥
IsOwn (TooMany count) = ⊥
