-- What follows from the ends of the command `mirror`.
use Rattle.std.proofs.Common.{◌≡◌, ℕ, List, refl, subst, inl, inr}
use Rattle.act_model.specs.declared.entry.Entry.{Entry}
use Rattle.mpc_desk.specs.Pairs.{FilePair, StandBoth, AreRead, EitherRises}
use Rattle.mpc_desk.specs.PairLaws.{risen_rises}
use Rattle.command_ends.specs.declared.status.Status.{Status}
use Rattle.command_ends.specs.declared.status.Status.TheVariants.{Done, Usage, BadFrame, DiskFault, Damaged, ReadFault, WriteFault, NoMemory, DoorFault, MirrorFault, TooMany}
use Rattle.command_ends.specs.Courses.{SinkWords}
use Rattle.command_ends.specs.Disks.{DiskWords}
use Rattle.mirror_store.specs.Words.{MirrorWords}
use Rattle.mirror_command.specs.Ends.{Course, AtHistory, Mirrors, Refreshes, IsOwn, IsCounted}

module _ {K D M : Type 0} (write : SinkWords K) (on : DiskWords D) (kept : MirrorWords M) (course : Course K D M) where
  fault_rises : Mirrors write on kept course DiskFault → EitherRises on course.disks.old course.disks.new
  fault_rises (inl not) = let (rise, some, shut) = not.unopened in risen_rises rise some shut.counts
  fault_rises (inr refreshes) = absurd refreshes.ends

  pub disk_rises : (status : Status) → Mirrors write on kept course status → status ≡ DiskFault → EitherRises on course.disks.old course.disks.new
  disk_rises status ends is = fault_rises (subst (λ (s : Status). Mirrors write on kept course s) is ends)

  pub own : (status : Status) → Mirrors write on kept course status → IsOwn status
  own Done ends = tt
  own DiskFault ends = tt
  own (Damaged file offset) ends = tt
  own WriteFault ends = tt
  own NoMemory ends = tt
  own MirrorFault ends = tt
  own (TooMany count) ends = tt
  own Usage (inl not) = not.unopened
  own Usage (inr refreshes) = refreshes.ends
  own (BadFrame offset) (inl not) = not.unopened
  own (BadFrame offset) (inr refreshes) = refreshes.ends
  own ReadFault (inl not) = not.unopened
  own ReadFault (inr refreshes) = refreshes.ends
  own DoorFault (inl not) = not.unopened
  own DoorFault (inr refreshes) = refreshes.ends

  -- where nothing failed, by the law that two files stand for one history
  module _ (one_history : (files : FilePair) (h k : List Entry) → StandBoth files h → StandBoth files k → h ≡ k)
      (files : FilePair) (history : List Entry) (read : AreRead on course.disks.old files) (stands : StandBoth files history) where
    same : {status : Status} (refreshes : Refreshes write on kept course status) → refreshes.history ≡ history
    same refreshes = one_history files refreshes.history history (refreshes.keeps.stood files read) stands

    at : {status : Status} (refreshes : Refreshes write on kept course status) → AtHistory write kept course.sink course.mirror history status
    at {status} refreshes = subst (λ (h : List Entry). AtHistory write kept course.sink course.mirror h status) (same refreshes) refreshes.ends

    pub complete : (status : Status) → Mirrors write on kept course status → ((file offset : ℕ) → status ≡ Damaged file offset → ⊥)
        → (status ≡ DiskFault → ⊥) → (status ≡ WriteFault → ⊥) → (status ≡ MirrorFault → ⊥) → IsCounted history status
    complete Done (inl not) undamaged disks writes mirrors = absurd not.unopened
    complete Done (inr refreshes) undamaged disks writes mirrors = (at refreshes).0.counted
    complete (TooMany count) (inl not) undamaged disks writes mirrors = absurd not.unopened
    complete (TooMany count) (inr refreshes) undamaged disks writes mirrors = (at refreshes).0
    complete NoMemory ends undamaged disks writes mirrors = tt
    complete DiskFault ends undamaged disks writes mirrors = absurd (disks refl)
    complete WriteFault ends undamaged disks writes mirrors = absurd (writes refl)
    complete MirrorFault ends undamaged disks writes mirrors = absurd (mirrors refl)
    complete (Damaged file offset) ends undamaged disks writes mirrors = absurd (undamaged file offset refl)
    complete Usage ends undamaged disks writes mirrors = absurd (own Usage ends)
    complete (BadFrame offset) ends undamaged disks writes mirrors = absurd (own (BadFrame offset) ends)
    complete ReadFault ends undamaged disks writes mirrors = absurd (own ReadFault ends)
    complete DoorFault ends undamaged disks writes mirrors = absurd (own DoorFault ends)
