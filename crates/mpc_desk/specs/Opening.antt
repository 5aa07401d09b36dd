-- What opening the office finds, and what it leaves.
use Rattle.std.specs.Prelude.{◌≡◌, ◌≢◌, ◌⊎◌, true, ℕ, ◌+◌, ◌≤◌, List, ◌∷◌, ◌++◌, Option, Some, None, IfSome, IsSome}
use Rattle.std.specs.Prelude.{Result, Ok, Err}
use Rattle.disk_model.specs.Crashes.{During}
use Rattle.obs_journal.specs.declared.fault.OpenFault.{OpenFault}
use Rattle.obs_journal.specs.declared.fault.OpenFault.TheVariants.{DiskFault, Damaged}
use Rattle.obs_journal.specs.declared.opening.Placed.{Placed}
use Rattle.obs_journal.specs.Parcels.{RawParcel}
use Rattle.obs_journal.specs.Formats.{row_length_in}
use Rattle.obs_journal.specs.Files.{Spells, IsDamagedAt, row_length}
use Rattle.obs_journal.specs.Chains.{IsChain, IsBrokenAt, chained}
use Rattle.obs_journal.specs.Journals.{IsUnwritten}
use Rattle.obs_journal.specs.Moves.{IsIdle, IsCarriedInto}
use Rattle.obs_journal.specs.Opening.{parcels_of, SpellsAlike}
use Rattle.act_bodies.specs.declared.key.Key.{Key}
use Rattle.act_model.specs.declared.entry.Entry.{Entry}
use Rattle.act_model.specs.Legal.{IsAdded, IsLegal}
use Rattle.desk_core.specs.Replaying.{entry_of}
use Rattle.act_model.specs.Requests.{is_act}
use Rattle.mpc_desk.specs.Desks.{DeskState, IsAtRest}
use Rattle.mpc_desk.specs.Disks.{DiskWords}
use Rattle.mpc_desk.specs.Files.{parcel_of, parcels_in, AreActs, StandsFirst}
use Rattle.mpc_desk.specs.Pairs.{FilePair, StandBoth, SpellBoth, DiskPair, pair, AreRead, AreLeft, DuringBoth}
use Rattle.mpc_desk.specs.Pairs.{IsFirstUncalled, NeitherFell, EitherRises, PairState, disks_of}

-- ---- entries taken in again

-- the entry of a parcel; None where its verb is no act's
abbrev pub entry_in : RawParcel → Option Entry
entry_in parcel = entry_of parcel.caller parcel.number parcel.moment parcel.verb parcel.body

-- the parcel's entry is what the office makes after these, and now it is the newest
pub record ComesNext (founder : Key) (past : List Entry) (parcel : RawParcel) (now : List Entry) : Type 0 where
  pub entry : Entry
  pub parcel_is : parcel_of entry ≡ parcel
  pub act : is_act entry.verb ≡ true
  pub added : IsAdded founder past entry
  pub now_is : now ≡ entry ∷ past

-- an entry that isn't legal: a parcel whose entry the office would not have made after these
abbrev pub IsNotNext : Key → List Entry → RawParcel → Type 0
IsNotNext founder past parcel =
    (entry : Entry) → entry_in parcel ≡ Some entry → IsAdded founder past entry → ⊥

-- among these placed parcels those before this offset are of legal entries, and the one there isn't
pub record StopsIn (founder : Key) (places : List Placed) (offset : ℕ) : Type 0 where
  pub before : List Entry
  pub front : List Placed
  pub placed : Placed
  pub rest : List Placed
  pub places_are : places ≡ front ++ placed ∷ rest
  pub front_is : parcels_of front ≡ parcels_in before
  pub legal : IsLegal founder before
  pub acts : AreActs before
  pub not_next : IsNotNext founder before placed.parcel
  pub offset_is : offset ≡ placed.offset

-- ---- damage

-- the offset of the gate after these parcels: in a first file, and in a second one
abbrev pub gate_in_first : List RawParcel → ℕ
gate_in_first parcels = row_length parcels

abbrev pub gate_in_second : List RawParcel → ℕ
gate_in_second parcels = 1 + row_length_in chained parcels

-- among these parcels those before the gate at this offset are of legal entries, and the one there isn't
pub record StopsAt (gate_after : List RawParcel → ℕ) (founder : Key) (parcels : List RawParcel) (offset : ℕ)
    : Type 0 where
  pub before : List Entry
  pub parcel : RawParcel
  pub rest : List RawParcel
  pub parcels_are : parcels ≡ parcels_in before ++ parcel ∷ rest
  pub legal : IsLegal founder before
  pub acts : AreActs before
  pub not_next : IsNotNext founder before parcel
  pub offset_is : offset ≡ gate_after (parcels_in before)

-- The file is damaged at this offset: the shape of its row is broken there; or it spells parcels, and the one there is
-- the first whose entry isn't legal.
abbrev pub IsDamagedFirst : Key → List ℕ → ℕ → Type 0
IsDamagedFirst founder file offset =
    IsDamagedAt file offset
    ⊎ ((parcels : List RawParcel) × Spells file parcels × StopsAt gate_in_first founder parcels offset)

abbrev pub IsDamagedSecond : Key → List ℕ → ℕ → Type 0
IsDamagedSecond founder file offset =
    IsBrokenAt file offset
    ⊎ ((parcels : List RawParcel) × IsChain file parcels × StopsAt gate_in_second founder parcels offset)

-- of the files of two disks the one of this number is damaged there, as far as their bytes are known: the second one,
-- or the first one where the second isn't in force
abbrev pub IsDamagedOn : {D : Type 0} → DiskWords D → Key → DiskPair D → ℕ → ℕ → Type 0
IsDamagedOn on founder disks file offset =
    ((file ≡ 2) × IfSome (on.reads disks.second) (λ bytes. IsDamagedSecond founder bytes offset))
    ⊎ ((file ≡ 1) × IfSome (on.reads disks.second) IsIdle
    × IfSome (on.reads disks.first) (λ bytes. IsDamagedFirst founder bytes offset))

-- ---- what a crash inside opening may leave

-- the two files stand for the history that the disks stood for as they were read
pub record StandAlike {D : Type 0} (on : DiskWords D) (disks : DiskPair D) (history : List Entry) (files : FilePair)
    : Type 0 where
  pub before : FilePair
  pub read : AreRead on disks before
  pub stood : StandBoth before history
  pub now : StandBoth files history

-- the two files spell the parcels that the disks spelled as they were read
pub record SpellAlike {D : Type 0} (on : DiskWords D) (disks : DiskPair D) (files : FilePair) : Type 0 where
  pub before : FilePair
  pub parcels : List RawParcel
  pub read : AreRead on disks before
  pub spelled : SpellBoth before parcels
  pub now : SpellBoth files parcels

-- the parcels of the first disk are carried into the second
abbrev pub IsCarriedOver : {D : Type 0} → DiskWords D → D → D → D → Type 0
IsCarriedOver on first second now =
    (parcels : List RawParcel) × IfSome (on.reads first) (λ file. Spells file parcels)
    × During on.moment on.since second now (IsCarriedInto (on.reads second) parcels)

-- ---- how carrying an office over ends

-- a disk whose bytes are known wasn't written
abbrev pub IsKnownUnwritten : {D : Type 0} → DiskWords D → D → D → Type 0
IsKnownUnwritten on disk now = IsSome (on.reads disk) → IsUnwritten on.reads on.moment on.since disk now

-- The first disk stood for the office's legal history, and its parcels were carried into the second. What a crash at
-- any moment leaves of the first spells the same parcels.
pub record IsMoved {D : Type 0} (on : DiskWords D) (founder : Key) (limit : ℕ) (disks : DiskPair D) (first_now : D)
    (desk : DeskState D) : Type 0 where
  pub founder_is : desk.founder ≡ founder
  pub limit_is : desk.limit ≡ limit
  pub settled : desk.state.doubt ≡ None
  pub stood : IfSome (on.reads disks.first) (λ file. StandsFirst file desk.state.settled)
  pub legal : IsLegal founder desk.state.settled
  pub at_rest : IsAtRest on.leaves desk
  pub first_moment : During on.moment on.since disks.first first_now (SpellsAlike (on.reads disks.first))
  pub carried : IsCarriedOver on disks.first disks.second desk.disk
  pub first_counts : on.faults disks.first ≤ on.faults first_now
  pub second_counts : on.faults disks.second ≤ on.faults desk.disk

-- It couldn't be: a disk failed, the first file is damaged, or memory was refused. Unless a disk failed the second one
-- wasn't called, and the first one wasn't written where its bytes are known.
pub record IsNotMoved {D : Type 0} (on : DiskWords D) (founder : Key) (disks : DiskPair D) (fault : OpenFault)
    (now : DiskPair D) : Type 0 where
  pub cause : fault ≡ DiskFault → EitherRises on disks now
  pub damaged : (file offset : ℕ) → fault ≡ Damaged file offset → (file ≡ 1)
      × IfSome (on.reads disks.first) (λ bytes. IsDamagedFirst founder bytes offset)
  pub first_moment : During on.moment on.since disks.first now.first (SpellsAlike (on.reads disks.first))
  pub second_moment : (now.second ≡ disks.second) ⊎ IsCarriedOver on disks.first disks.second now.second
  pub first_unwritten : fault ≢ DiskFault → IsKnownUnwritten on disks.first now.first
  pub second_uncalled : fault ≢ DiskFault → now.second ≡ disks.second
  pub counts : NeitherFell on disks now

-- either end
abbrev pub EndsMove : {D : Type 0} → DiskWords D → Key → ℕ → DiskPair D → D → Result (DeskState D) (OpenFault × D)
    → Type 0
EndsMove on founder limit disks first_now (Ok desk) = IsMoved on founder limit disks first_now desk
EndsMove on founder limit disks first_now (Err failed) =
    IsNotMoved on founder disks failed.0 (pair first_now failed.1)

-- ---- how opening ends

-- The office was opened: with nothing in doubt, at the legal history that the disks stood for as they were read. Each
-- image of the second disk stands for it. What a crash at any moment of opening leaves is read like what it might have
-- left at the start, or stands for that history. Where the second file is in force the first disk wasn't called.
pub record IsOpened {D : Type 0} (on : DiskWords D) (founder : Key) (limit : ℕ) (disks : DiskPair D)
    (office : PairState D) : Type 0 where
  pub founder_is : office.chained.founder ≡ founder
  pub limit_is : office.chained.limit ≡ limit
  pub settled : office.chained.state.doubt ≡ None
  pub stood : (files : FilePair) → AreRead on disks files → StandBoth files office.chained.state.settled
  pub legal : IsLegal founder office.chained.state.settled
  pub at_rest : IsAtRest on.leaves office.chained
  pub images : DuringBoth on disks (disks_of office) (StandAlike on disks office.chained.state.settled)
  pub counts : NeitherFell on disks (disks_of office)
  pub uncalled : IsFirstUncalled on disks (disks_of office)

-- The office couldn't be opened: one of the disks failed, a file is damaged, or memory was refused; a file isn't
-- damaged where all that a crash may leave stands for a legal history. Unless a disk failed the second one wasn't
-- written, and neither was the first one where its bytes are known. What a crash at any moment leaves is read like what
-- it might have left at the start, or spells the same parcels. Where the second file is in force the first disk wasn't
-- called.
pub record IsUnopened {D : Type 0} (on : DiskWords D) (founder : Key) (disks : DiskPair D) (fault : OpenFault)
    (now : DiskPair D) : Type 0 where
  pub cause : fault ≡ DiskFault → EitherRises on disks now
  pub damaged : (file offset : ℕ) → fault ≡ Damaged file offset → IsDamagedOn on founder disks file offset
  pub sound : (file offset : ℕ) → fault ≡ Damaged file offset → (read : FilePair) → AreRead on disks read
      → ((files : FilePair) → AreLeft on disks files
      → (history : List Entry) × IsLegal founder history × StandBoth files history) → ⊥
  pub second_unwritten : fault ≢ DiskFault → IsUnwritten on.reads on.moment on.since disks.second now.second
  pub first_unwritten : fault ≢ DiskFault → IsKnownUnwritten on disks.first now.first
  pub images : DuringBoth on disks now (SpellAlike on disks)
  pub counts : NeitherFell on disks now
  pub uncalled : IsFirstUncalled on disks now

-- the disks after opening: the office's, or those that were handed back
abbrev pub disks_after : {D : Type 0} → Result (PairState D) (OpenFault × D × D) → DiskPair D
disks_after (Ok office) = disks_of office
disks_after (Err failed) = pair failed.1 failed.2

-- either end
abbrev pub EndsOpening : {D : Type 0} → DiskWords D → Key → ℕ → DiskPair D → Result (PairState D) (OpenFault × D × D)
    → Type 0
EndsOpening on founder limit disks (Ok office) = IsOpened on founder limit disks office
EndsOpening on founder limit disks (Err failed) = IsUnopened on founder disks failed.0 (pair failed.1 failed.2)

-- the second disk after it was opened or carried to: the desk's, or the one that was handed back
abbrev pub second_after : {D : Type 0} → Result (DeskState D) (OpenFault × D) → D
second_after (Ok desk) = desk.disk
second_after (Err failed) = failed.1
