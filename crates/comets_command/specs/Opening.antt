-- What stands where the register couldn't be opened on its disk.
use Rattle.std.specs.Prelude.{◌≡◌, ◌<◌, ℕ, List, IfSome}
use Rattle.disk_model.specs.Crashes.{During}
use Rattle.obs_journal.specs.Journals.{IsUnwritten}
use Rattle.act_bodies.specs.declared.key.Key.{Key}
use Rattle.act_model.specs.declared.deed.Deed.{Deed}
use Rattle.command_ends.specs.declared.status.Status.{Status}
use Rattle.command_ends.specs.declared.status.Status.TheVariants.{Done, Usage, BadFrame, DiskFault, Damaged, ReadFault}
use Rattle.command_ends.specs.declared.status.Status.TheVariants.{WriteFault, NoMemory, DoorFault, MirrorFault, TooMany}
use Rattle.command_ends.specs.Disks.{DiskWords, DiskRose}
use Rattle.comet_desk.specs.Opening.{IsDamaged, HoldsAlike}

-- The count of the disk's faults rose by so much. What a crash at any moment leaves is what it might have left at the
-- start, or holds the entries that the file held as it was read.
pub record IsNotBegun {D : Type 0} (on : DiskWords D) (disk now : D) (rise : ℕ) : Type 0 where
  pub counts : DiskRose on rise disk now
  pub images : During on.moment on.since disk now (HoldsAlike (on.reads disk))

-- and the disk was not written
pub record IsNotWritten {D : Type 0} (on : DiskWords D) (disk now : D) : Type 0 where
  pub rise : ℕ
  pub shut : IsNotBegun on disk now rise
  pub unwritten : IsUnwritten on.reads on.moment on.since disk now

-- The register couldn't be opened beside an office with these deeds, and the command ends so: its disk failed, its
-- file, which has the number 3, is damaged, or memory was refused.
abbrev pub EndsUnbegun : {D : Type 0} → DiskWords D → Key → List Deed → D → D → Status → Type 0
EndsUnbegun on founder desk disk now DiskFault = (rise : ℕ) × (0 < rise) × IsNotBegun on disk now rise
EndsUnbegun on founder desk disk now (Damaged file offset) =
    (file ≡ 3) × IfSome (on.reads disk) (λ bytes. IsDamaged founder desk bytes offset) × IsNotWritten on disk now
EndsUnbegun on founder desk disk now NoMemory = IsNotWritten on disk now
EndsUnbegun on founder desk disk now Done = ⊥
EndsUnbegun on founder desk disk now Usage = ⊥
EndsUnbegun on founder desk disk now (BadFrame offset) = ⊥
EndsUnbegun on founder desk disk now ReadFault = ⊥
EndsUnbegun on founder desk disk now WriteFault = ⊥
EndsUnbegun on founder desk disk now DoorFault = ⊥
EndsUnbegun on founder desk disk now MirrorFault = ⊥
EndsUnbegun on founder desk disk now (TooMany count) = ⊥
