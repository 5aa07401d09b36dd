-- What follows from the ends of writing out the catalogue.
use Rattle.std.proofs.Common.{◌≡◌, ℕ, refl, subst, inl, inr}
use Rattle.mpc_desk.specs.Pairs.{EitherRises}
use Rattle.mpc_desk.specs.PairLaws.{risen_rises}
use Rattle.command_ends.specs.declared.status.Status.{Status}
use Rattle.command_ends.specs.declared.status.Status.TheVariants.{Done, Usage, BadFrame, DiskFault, Damaged, ReadFault, WriteFault, NoMemory, DoorFault, MirrorFault, TooMany}
use Rattle.command_ends.specs.Disks.{DiskWords}
use Rattle.command_ends.specs.Statuses.{IsDoneOrNoMemory}
use Rattle.export_command.specs.Exports.{Course, Exports, IsOwn}

module _ {D : Type 0} (on : DiskWords D) (course : Course D) (Uncalled : Type 0) where
  fault_rises : Exports on course Uncalled DiskFault → EitherRises on course.disks course.disks_after
  fault_rises (inl (uncalled, (rise, some, shut))) = risen_rises rise some shut.counts
  fault_rises (inr writes) = absurd writes.written

  pub disk_rises : (status : Status) → Exports on course Uncalled status → status ≡ DiskFault → EitherRises on course.disks course.disks_after
  disk_rises status ends is = fault_rises (subst (λ (s : Status). Exports on course Uncalled s) is ends)

  pub own : (status : Status) → Exports on course Uncalled status → IsOwn status
  own Done ends = tt
  own DiskFault ends = tt
  own (Damaged file offset) ends = tt
  own WriteFault ends = tt
  own NoMemory ends = tt
  own Usage (inl ends) = ends.1
  own Usage (inr writes) = writes.written
  own (BadFrame offset) (inl ends) = ends.1
  own (BadFrame offset) (inr writes) = writes.written
  own ReadFault (inl ends) = ends.1
  own ReadFault (inr writes) = writes.written
  own DoorFault (inl ends) = ends.1
  own DoorFault (inr writes) = writes.written
  own MirrorFault (inl ends) = ends.1
  own MirrorFault (inr writes) = writes.written
  own (TooMany count) (inl ends) = ends.1
  own (TooMany count) (inr writes) = writes.written

  pub complete : (status : Status) → Exports on course Uncalled status → ((file offset : ℕ) → status ≡ Damaged file offset → ⊥)
      → (status ≡ DiskFault → ⊥) → (status ≡ WriteFault → ⊥) → IsDoneOrNoMemory status
  complete Done ends undamaged disks writes = tt
  complete NoMemory ends undamaged disks writes = tt
  complete DiskFault ends undamaged disks writes = disks refl
  complete WriteFault ends undamaged disks writes = writes refl
  complete (Damaged file offset) ends undamaged disks writes = undamaged file offset refl
  complete Usage ends undamaged disks writes = own Usage ends
  complete (BadFrame offset) ends undamaged disks writes = own (BadFrame offset) ends
  complete ReadFault ends undamaged disks writes = own ReadFault ends
  complete DoorFault ends undamaged disks writes = own DoorFault ends
  complete MirrorFault ends undamaged disks writes = own MirrorFault ends
  complete (TooMany count) ends undamaged disks writes = own (TooMany count) ends
