-- The ends that the workload can have.
use Rattle.command_ends.specs.declared.status.Status.{Status}
use Rattle.command_ends.specs.declared.status.Status.TheVariants.{Done, Usage, BadFrame, DiskFault, Damaged, ReadFault}
use Rattle.command_ends.specs.declared.status.Status.TheVariants.{WriteFault, NoMemory, DoorFault, MirrorFault, TooMany}

abbrev pub IsOwn : Status → Type 0
IsOwn Done = Unit {0}
IsOwn WriteFault = Unit {0}
IsOwn NoMemory = Unit {0}
IsOwn Usage = ⊥
IsOwn (BadFrame offset) = ⊥
IsOwn DiskFault = ⊥
IsOwn (Damaged file offset) = ⊥
IsOwn ReadFault = ⊥
IsOwn DoorFault = ⊥
IsOwn MirrorFault = ⊥
IsOwn (TooMany count) = ⊥
