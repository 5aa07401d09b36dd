-- The last mending of an office, once it is asked nothing more.
use Rattle.std.specs.Prelude.{◌≡◌, ◌<◌, ℕ, None, IsSome}
use Rattle.disk_model.specs.Crashes.{During}
use Rattle.act_model.specs.declared.keeper.OfficeState.{OfficeState}
use Rattle.act_model.specs.Turns.{Mends}
use Rattle.mpc_desk.specs.Desks.{DeskState, IsAtRest}
use Rattle.command_ends.specs.declared.status.Status.{Status}
use Rattle.command_ends.specs.declared.status.Status.TheVariants.{Done, Usage, BadFrame, DiskFault, Damaged, ReadFault}
use Rattle.command_ends.specs.declared.status.Status.TheVariants.{WriteFault, NoMemory, DoorFault, MirrorFault, TooMany}
use Rattle.command_ends.specs.Disks.{DiskWords, DiskRose}

-- From what was left to what is there at the end, with the rise of the count of faults in the last mending.
-- Nothing is mended.
abbrev pub IsNotMended : OfficeState → ℕ → OfficeState → Type 0
IsNotMended left rise last = (last ≡ left) × (rise ≡ 0)

-- an act in doubt is mended once, and nothing is in doubt; where nothing was there is nothing to mend
pub record IsMended (left : OfficeState) (rise : ℕ) (last : OfficeState) : Type 0 where
  pub mends : Mends left.settled left.doubt last.settled
  pub settled : last.doubt ≡ None
  pub nothing : left.doubt ≡ None → rise ≡ 0

-- the disk failed in mending, and the act stays in doubt
pub record IsStillInDoubt (left : OfficeState) (rise : ℕ) (last : OfficeState) : Type 0 where
  pub doubted : IsSome left.doubt
  pub stays : last ≡ left
  pub rose : 0 < rise

-- no image came, and the disk is at rest; its count of faults rose by so much
pub record IsClosed {D : Type 0} (on : DiskWords D) (rise : ℕ) (old new : DeskState D) : Type 0 where
  pub counts : DiskRose on rise old.disk new.disk
  pub no_image : During on.moment on.since old.disk new.disk (λ _. ⊥)
  pub at_rest : IsAtRest on.leaves new

-- the last mending of a desk, and the status that it gives
abbrev pub MendsLast : {D : Type 0} → DiskWords D → DeskState D → Status → DeskState D → Type 0
MendsLast on old Done new = (rise : ℕ) × IsMended old.state rise new.state × IsClosed on rise old new
MendsLast on old DiskFault new = (rise : ℕ) × IsStillInDoubt old.state rise new.state × IsClosed on rise old new
MendsLast on old Usage new = ⊥
MendsLast on old (BadFrame offset) new = ⊥
MendsLast on old (Damaged file offset) new = ⊥
MendsLast on old ReadFault new = ⊥
MendsLast on old WriteFault new = ⊥
MendsLast on old NoMemory new = ⊥
MendsLast on old DoorFault new = ⊥
MendsLast on old MirrorFault new = ⊥
MendsLast on old (TooMany count) new = ⊥
