-- Two files, and two disks with a file each: the second file counts where it is in force, and else the first one does.
use Rattle.std.specs.Prelude.{◌≡◌, ◌⊎◌, ℕ, ◌+◌, ◌≤◌, List, ◌∷◌, Some, IfSome, IsSomeAnd}
use Rattle.call_log.specs.Counts.{Rises}
use Rattle.obs_journal.specs.Parcels.{RawParcel}
use Rattle.obs_journal.specs.Chains.{IsInForce, IsChain}
use Rattle.obs_journal.specs.Moves.{IsIdle}
use Rattle.obs_journal.specs.Files.{Spells}
use Rattle.act_model.specs.declared.entry.Entry.{Entry}
use Rattle.act_model.specs.declared.keeper.OfficeState.{OfficeState}
use Rattle.act_model.specs.Keepers.{RoseBy}
use Rattle.mpc_desk.specs.Desks.{DeskState, count_of}
use Rattle.mpc_desk.specs.Disks.{DiskWords}
use Rattle.mpc_desk.specs.Files.{Stands, StandsFirst}

-- ---- two files

pub record FilePair : Type 0 where
  pub first : List ℕ
  pub second : List ℕ

-- what two files stand for together: what the second one does where it is in force, and else what the first one does
pub record StandBoth (files : FilePair) (history : List Entry) : Type 0 where
  pub in_force : IsInForce files.second → Stands files.second history
  pub idle : IsIdle files.second → StandsFirst files.first history

-- and the parcels that they spell together
pub record SpellBoth (files : FilePair) (parcels : List RawParcel) : Type 0 where
  pub in_force : IsInForce files.second → IsChain files.second parcels
  pub idle : IsIdle files.second → Spells files.first parcels

-- two pairs are read alike: they have the same second file, and it is in force; or neither's is, and they have the same
-- first file
abbrev pub AreReadAlike : FilePair → FilePair → Type 0
AreReadAlike one other =
    (IsInForce one.second × (one.second ≡ other.second))
    ⊎ (IsIdle one.second × IsIdle other.second × (one.first ≡ other.first))

-- ---- two disks

pub record DiskPair (D : Type 0) : Type 0 where
  pub first : D
  pub second : D

abbrev pub pair : {D : Type 0} → D → D → DiskPair D
pair first second = record { first = first; second = second }

-- the bytes that reads give of the two
pub record AreRead {D : Type 0} (on : DiskWords D) (disks : DiskPair D) (files : FilePair) : Type 0 where
  pub first : on.reads disks.first ≡ Some files.first
  pub second : on.reads disks.second ≡ Some files.second

-- a crash may leave these two files now
abbrev pub AreLeft : {D : Type 0} → DiskWords D → DiskPair D → FilePair → Type 0
AreLeft on disks files = on.leaves disks.first files.first × on.leaves disks.second files.second

-- a crash at some moment since these earlier ones, of each disk its own, may have left these two
abbrev pub AreSince : {D : Type 0} → DiskWords D → (now old : DiskPair D) → FilePair → Type 0
AreSince on now old files =
    on.since now.first (on.moment old.first) files.first × on.since now.second (on.moment old.second) files.second

-- they are read like two that a crash might have left of these disks
pub record AreLikeLeft {D : Type 0} (on : DiskWords D) (disks : DiskPair D) (files : FilePair) : Type 0 where
  pub before : FilePair
  pub left : AreLeft on disks before
  pub alike : AreReadAlike before files

-- A crash at any moment from old to new, of each disk its own: what it leaves is read like what it might have left at
-- the start, or has P.
pub record DuringBoth {D : Type 0} (on : DiskWords D) (old new : DiskPair D) (P : FilePair → Type 0) : Type 0 where
  pub later_first : on.moment old.first ≤ on.moment new.first
  pub later_second : on.moment old.second ≤ on.moment new.second
  pub either : (files : FilePair) → AreSince on new old files → AreLikeLeft on old files ⊎ P files

-- where the second disk reads a file in force, the first one wasn't called
abbrev pub IsFirstUncalled : {D : Type 0} → DiskWords D → (old new : DiskPair D) → Type 0
IsFirstUncalled on old new = IfSome (on.reads old.second) (λ file. IsInForce file → new.first ≡ old.first)

-- ---- counts

-- the counts of faults rose by so much together, each by itself
pub record HaveRisen {D : Type 0} (on : DiskWords D) (rise : ℕ) (old new : DiskPair D) : Type 0 where
  pub first : ℕ
  pub second : ℕ
  pub sum : rise ≡ first + second
  pub rose_first : RoseBy first (count_of (on.faults old.first)) (count_of (on.faults new.first))
  pub rose_second : RoseBy second (count_of (on.faults old.second)) (count_of (on.faults new.second))

-- neither count fell
pub record NeitherFell {D : Type 0} (on : DiskWords D) (old new : DiskPair D) : Type 0 where
  pub first : on.faults old.first ≤ on.faults new.first
  pub second : on.faults old.second ≤ on.faults new.second

-- one of the two disks failed
abbrev pub EitherRises : {D : Type 0} → DiskWords D → (old new : DiskPair D) → Type 0
EitherRises on old new =
    Rises (on.faults old.first) (on.faults new.first) ⊎ Rises (on.faults old.second) (on.faults new.second)

-- ---- the office on two disks

-- the office: its desk on the second disk, and the first disk beside it
pub record PairState (D : Type 0) : Type 0 where
  pub first : D
  pub chained : DeskState D

-- two files while it is at rest: they stand for the settled history, or for that with the act in doubt
abbrev pub RestBoth : OfficeState → FilePair → Type 0
RestBoth state files =
    StandBoth files state.settled ⊎ IsSomeAnd state.doubt (λ entry. StandBoth files (entry ∷ state.settled))

-- its two disks
abbrev pub disks_of : {D : Type 0} → PairState D → DiskPair D
disks_of office = pair office.first office.chained.disk
