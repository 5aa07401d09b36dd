-- What a command finds outside and what it leaves there: each thing before it and after it, and what each says about
-- itself.
use Rattle.std.specs.Prelude.{◌≡◌, ◌≤◌, ℕ, List, Option, Bool}
use Rattle.call_log.specs.Counts.{Rises}
use Rattle.desk_io.specs.Reads.{Passes}
use Rattle.act_model.specs.Clocks.{ClockState}
use Rattle.mpc_desk.specs.Pairs.{DiskPair, EitherRises}
use Rattle.command_ends.specs.Disks.{DiskWords}
use Rattle.command_ends.specs.declared.status.Status.{Status}
use Rattle.command_ends.specs.declared.status.Status.TheVariants.{DiskFault, ReadFault, WriteFault}

-- ---- what each says about itself

pub record SourceWords (S : Type 0) : Type 1 where
  pub left : S → Option (List ℕ)
  pub gives : Passes S
  pub faults : S → ℕ
  pub is_open : S → Bool

abbrev pub source_words : {S : Type 0} → (S → Option (List ℕ)) → Passes S → (S → ℕ) → (S → Bool) → SourceWords S
source_words left gives faults is_open = record { left = left; gives = gives; faults = faults; is_open = is_open }

pub record SinkWords (K : Type 0) : Type 1 where
  pub taken : K → Option (List ℕ)
  pub faults : K → ℕ
  pub is_open : K → Bool

abbrev pub sink_words : {K : Type 0} → (K → Option (List ℕ)) → (K → ℕ) → (K → Bool) → SinkWords K
sink_words taken faults is_open = record { taken = taken; faults = faults; is_open = is_open }

-- a sink, disks and a clock
pub record OutsideWords (K D C : Type 0) : Type 1 where
  pub sink : SinkWords K
  pub disk : DiskWords D
  pub clock : C → ClockState

abbrev pub outside_words : {K D C : Type 0} → SinkWords K → DiskWords D → (C → ClockState) → OutsideWords K D C
outside_words sink disk clock = record { sink = sink; disk = disk; clock = clock }

-- ---- before a command and after it

-- a thing before a command and after it
pub record Change (X : Type 0) : Type 0 where
  pub old : X
  pub new : X

abbrev pub change : {X : Type 0} → X → X → Change X
change old new = record { old = old; new = new }

-- it wasn't called
abbrev pub IsUncalled : {X : Type 0} → Change X → Type 0
IsUncalled x = x.new ≡ x.old

-- the course of a command: its sink, its two disks and its clock, by how many entries the history grew, and the status
-- with which it ended
pub record Course (K D C : Type 0) : Type 0 where
  pub sink : Change K
  pub disks : Change (DiskPair D)
  pub clock : Change C
  pub added : ℕ
  pub status : Status

-- ---- causes

-- it failed where the command ended so, and nowhere else
pub record HasCause {X : Type 0} (faults : X → ℕ) (x : Change X) (fault status : Status) : Type 0 where
  pub cause : status ≡ fault → Rises (faults x.old) (faults x.new)
  pub faultless : (status ≡ fault → ⊥) → faults x.new ≡ faults x.old

-- its count of faults didn't fall, and it is open where it was
pub record StaysOpen {X : Type 0} (faults : X → ℕ) (is_open : X → Bool) (x : Change X) : Type 0 where
  pub counts : faults x.old ≤ faults x.new
  pub stays : is_open x.new ≡ is_open x.old

-- the source failed where the end is `ReadFault`, and nowhere else
abbrev pub SourceCause : {S : Type 0} → SourceWords S → Change S → Status → Type 0
SourceCause on source status =
    HasCause on.faults source ReadFault status × StaysOpen on.faults on.is_open source

-- the sink failed where the end is `WriteFault`, and nowhere else
abbrev pub SinkCause : {K : Type 0} → SinkWords K → Change K → Status → Type 0
SinkCause on sink status = HasCause on.faults sink WriteFault status × StaysOpen on.faults on.is_open sink

-- one of the disks failed where the end is `DiskFault`
abbrev pub DiskCause : {D : Type 0} → DiskWords D → Change (DiskPair D) → Status → Type 0
DiskCause on disks status = status ≡ DiskFault → EitherRises on disks.old disks.new

-- ---- no fault

-- no fault of a thing was counted
abbrev pub IsFaultless : {X : Type 0} → (X → ℕ) → Change X → Type 0
IsFaultless faults x = ¬ Rises (faults x.old) (faults x.new)

-- and none of either disk
abbrev pub AreFaultless : {D : Type 0} → DiskWords D → Change (DiskPair D) → Type 0
AreFaultless on disks = ¬ EitherRises on disks.old disks.new
