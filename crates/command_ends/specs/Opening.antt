-- How a command opens the office on its disks, and what stands where that failed.
use Rattle.std.specs.Prelude.{◌≡◌, ◌<◌, ℕ}
use Rattle.obs_journal.specs.declared.fault.OpenFault.{OpenFault}
use Rattle.obs_journal.specs.declared.fault.OpenFault.TheVariants as opening
use Rattle.obs_journal.specs.Journals.{IsUnwritten}
use Rattle.act_bodies.specs.declared.key.Key.{Key}
use Rattle.mpc_desk.specs.Opening.{IsOpened, IsDamagedOn, IsKnownUnwritten, SpellAlike}
use Rattle.mpc_desk.specs.Pairs.{DiskPair, DuringBoth, HaveRisen, IsFirstUncalled, PairState}
use Rattle.command_ends.specs.declared.status.Status.{Status}
use Rattle.command_ends.specs.declared.status.Status.TheVariants.{Done, Usage, BadFrame, DiskFault, Damaged, ReadFault}
use Rattle.command_ends.specs.declared.status.Status.TheVariants.{WriteFault, NoMemory, DoorFault, MirrorFault, TooMany}
use Rattle.command_ends.specs.Disks.{DiskWords}

-- how many bytes the second file may have
abbrev pub journal_bytes : ℕ
journal_bytes = 536870912

-- the office was opened, with this limit
abbrev pub Opens : {D : Type 0} → DiskWords D → Key → DiskPair D → PairState D → Type 0
Opens on founder disks opened = IsOpened on founder journal_bytes disks opened

-- ---- where it failed

-- the status of a desk that couldn't be opened
abbrev pub status_of : OpenFault → Status
status_of opening.DiskFault = DiskFault
status_of (opening.Damaged file offset) = Damaged file offset
status_of opening.NoMemory = NoMemory

-- Nothing was added, and the disks' counts of faults rose by so much together. What a crash at any moment leaves is
-- read like what it might have left at the start, or spells the parcels that the files spelled as they were read. Where
-- the second file is in force the first disk wasn't called.
pub record IsNotOpened {D : Type 0} (on : DiskWords D) (disks now : DiskPair D) (added rise : ℕ) : Type 0 where
  pub added_is : added ≡ 0
  pub counts : HaveRisen on rise disks now
  pub images : DuringBoth on disks now (SpellAlike on disks)
  pub uncalled : IsFirstUncalled on disks now

-- and the second disk was not written, nor the first one where its bytes are known
pub record AreAsTheyWere {D : Type 0} (on : DiskWords D) (disks now : DiskPair D) (added : ℕ) : Type 0 where
  pub rise : ℕ
  pub shut : IsNotOpened on disks now added rise
  pub second_unwritten : IsUnwritten on.reads on.moment on.since disks.second now.second
  pub first_unwritten : IsKnownUnwritten on disks.first now.first

-- the office couldn't be opened, and the command ends so: a disk failed, a file is damaged, or memory was refused
abbrev pub EndsUnopened : {D : Type 0} → DiskWords D → Key → DiskPair D → DiskPair D → ℕ → Status → Type 0
EndsUnopened on founder disks now added DiskFault = (rise : ℕ) × (0 < rise) × IsNotOpened on disks now added rise
EndsUnopened on founder disks now added (Damaged file offset) =
    IsDamagedOn on founder disks file offset × AreAsTheyWere on disks now added
EndsUnopened on founder disks now added NoMemory = AreAsTheyWere on disks now added
EndsUnopened on founder disks now added Done = ⊥
EndsUnopened on founder disks now added Usage = ⊥
EndsUnopened on founder disks now added (BadFrame offset) = ⊥
EndsUnopened on founder disks now added ReadFault = ⊥
EndsUnopened on founder disks now added WriteFault = ⊥
EndsUnopened on founder disks now added DoorFault = ⊥
EndsUnopened on founder disks now added MirrorFault = ⊥
EndsUnopened on founder disks now added (TooMany count) = ⊥
