-- How a register ends on its disk, by why serving stopped.
use Rattle.std.specs.Prelude.{◌≡◌, ◌⊎◌, ℕ}
use Rattle.disk_model.specs.Crashes.{During}
use Rattle.frame_service.specs.declared.serving.Stop.{Stop}
use Rattle.frame_service.specs.declared.serving.Stop.TheVariants.{Over, NoFrameAt, ReadFailed, WriteFailed}
use Rattle.command_ends.specs.declared.status.Status.{Status}
use Rattle.command_ends.specs.declared.status.Status.TheVariants.{Done, BadFrame, DiskFault, ReadFault, WriteFault}
use Rattle.command_ends.specs.Closing.{IsMended, IsStillInDoubt}
use Rattle.command_ends.specs.Disks.{DiskWords, DiskRose}
use Rattle.comet_desk.specs.Desks.{CometDeskState, IsAtRest}

-- no image came, and the register's disk is at rest; its count of faults rose by so much
pub record IsClosed {D : Type 0} (on : DiskWords D) (rise : ℕ) (old new : CometDeskState D) : Type 0 where
  pub counts : DiskRose on rise old.disk new.disk
  pub no_image : During on.moment on.since old.disk new.disk (λ _. ⊥)
  pub at_rest : IsAtRest on.leaves new

-- the last mending of a register, and the status that it gives
pub record MendsLast {D : Type 0} (on : DiskWords D) (old : CometDeskState D) (status : Status) (new : CometDeskState D)
    : Type 0 where
  pub rise : ℕ
  pub closed : IsClosed on rise old new
  pub mends : ((status ≡ Done) × IsMended old.state rise new.state)
      ⊎ ((status ≡ DiskFault) × IsStillInDoubt old.state rise new.state)

-- the end where serving stopped so: only where the source was read to its end is an act in doubt mended
abbrev pub Finishes : {D : Type 0} → DiskWords D → CometDeskState D → Stop → Status → CometDeskState D → Type 0
Finishes on old Over status new = MendsLast on old status new
Finishes on old (NoFrameAt offset) status new = (status ≡ BadFrame offset) × (new ≡ old)
Finishes on old ReadFailed status new = (status ≡ ReadFault) × (new ≡ old)
Finishes on old WriteFailed status new = (status ≡ WriteFault) × (new ≡ old)
