-- The statuses: their numbers, with which the program ends, and those that need no fault.
use Rattle.std.specs.Prelude.{ℕ}
use Rattle.command_ends.specs.declared.status.Status.{Status}
use Rattle.command_ends.specs.declared.status.Status.TheVariants.{Done, Usage, BadFrame, DiskFault, Damaged, ReadFault}
use Rattle.command_ends.specs.declared.status.Status.TheVariants.{WriteFault, NoMemory, DoorFault, MirrorFault, TooMany}

-- the number with which the program ends
abbrev pub number_of : Status → ℕ
number_of Done = 0
number_of Usage = 2
number_of (BadFrame offset) = 3
number_of DiskFault = 4
number_of (Damaged file offset) = 5
number_of ReadFault = 6
number_of WriteFault = 7
number_of NoMemory = 8
number_of DoorFault = 9
number_of MirrorFault = 10
number_of (TooMany count) = 11

-- the job was done, or memory was refused
abbrev pub IsDoneOrNoMemory : Status → Type 0
IsDoneOrNoMemory Done = Unit {0}
IsDoneOrNoMemory NoMemory = Unit {0}
IsDoneOrNoMemory Usage = ⊥
IsDoneOrNoMemory (BadFrame offset) = ⊥
IsDoneOrNoMemory DiskFault = ⊥
IsDoneOrNoMemory (Damaged file offset) = ⊥
IsDoneOrNoMemory ReadFault = ⊥
IsDoneOrNoMemory WriteFault = ⊥
IsDoneOrNoMemory DoorFault = ⊥
IsDoneOrNoMemory MirrorFault = ⊥
IsDoneOrNoMemory (TooMany count) = ⊥
