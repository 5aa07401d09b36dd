-- How a run ends on its disk, by why serving stopped.
use Rattle.std.specs.Prelude.{◌≡◌}
use Rattle.mpc_desk.specs.Desks.{DeskState}
use Rattle.command_ends.specs.declared.status.Status.{Status}
use Rattle.command_ends.specs.declared.status.Status.TheVariants.{BadFrame, ReadFault, WriteFault}
use Rattle.command_ends.specs.Closing.{MendsLast}
use Rattle.command_ends.specs.Disks.{DiskWords}
use Rattle.frame_service.specs.declared.serving.Stop.{Stop}
use Rattle.frame_service.specs.declared.serving.Stop.TheVariants.{Over, NoFrameAt, ReadFailed, WriteFailed}

-- the end of a run where serving stopped so: only where the source was read to its end is an act in doubt mended
abbrev pub Finishes : {D : Type 0} → DiskWords D → DeskState D → Stop → Status → DeskState D → Type 0
Finishes on old Over status new = MendsLast on old status new
Finishes on old (NoFrameAt offset) status new = (status ≡ BadFrame offset) × (new ≡ old)
Finishes on old ReadFailed status new = (status ≡ ReadFault) × (new ≡ old)
Finishes on old WriteFailed status new = (status ≡ WriteFault) × (new ≡ old)
