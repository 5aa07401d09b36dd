-- What the disk under a command says about itself.
use Rattle.std.specs.Prelude.{ℕ}
use Rattle.act_model.specs.Keepers.{RoseBy}
use Rattle.mpc_desk.specs.Desks.{count_of}
pub use Rattle.mpc_desk.specs.Disks.{DiskWords, disk_words}

-- the count of the disk's faults rose by so much
abbrev pub DiskRose : {D : Type 0} → DiskWords D → ℕ → D → D → Type 0
DiskRose on rise old new = RoseBy rise (count_of (on.faults old)) (count_of (on.faults new))
