-- What opening a register finds, and what it leaves.
use Rattle.std.specs.Prelude.{◌≡◌, ◌≢◌, ◌⊎◌, ℕ, ◌≤◌, List, ◌∷◌, ◌++◌, Option, Some, None, IfSome, IsSome}
use Rattle.std.specs.Prelude.{Result, Ok, Err}
use Rattle.call_log.specs.Counts.{Rises}
use Rattle.disk_model.specs.Crashes.{During}
use Rattle.obs_journal.specs.declared.fault.OpenFault.{OpenFault}
use Rattle.obs_journal.specs.declared.fault.OpenFault.TheVariants.{DiskFault, Damaged}
use Rattle.obs_journal.specs.declared.opening.Placed.{Placed}
use Rattle.obs_journal.specs.Parcels.{RawParcel}
use Rattle.obs_journal.specs.Chains.{IsInForce, IsChain, IsBrokenAt}
use Rattle.obs_journal.specs.Journals.{IsUnwritten}
use Rattle.obs_journal.specs.Opening.{parcels_of}
use Rattle.act_bodies.specs.declared.key.Key.{Key}
use Rattle.act_model.specs.declared.deed.Deed.{Deed}
use Rattle.act_model.specs.declared.entry.Entry.{Entry}
use Rattle.mpc_desk.specs.Disks.{DiskWords}
use Rattle.mpc_desk.specs.Files.{parcel_of, parcels_in}
use Rattle.mpc_desk.specs.Opening.{gate_in_second}
use Rattle.comet_model.specs.Legal.{IsAdded, IsLegal}
use Rattle.comet_desk.specs.Files.{HoldsEntries}
use Rattle.comet_desk.specs.Desks.{CometDeskState, IsBeside, IsAtRest}

-- ---- entries taken in again

-- the parcel's entry is what the register makes after these, and now it is the newest
pub record ComesNext (founder : Key) (desk : List Deed) (past : List Entry) (parcel : RawParcel) (now : List Entry)
    : Type 0 where
  pub entry : Entry
  pub parcel_is : parcel_of entry ≡ parcel
  pub added : IsAdded founder desk past entry
  pub now_is : now ≡ entry ∷ past

-- an entry that isn't legal: a parcel of no entry that the register would have made after these
abbrev pub IsNotNext : Key → List Deed → List Entry → RawParcel → Type 0
IsNotNext founder desk past parcel =
    (entry : Entry) → parcel_of entry ≡ parcel → IsAdded founder desk past entry → ⊥

-- among these placed parcels those before this offset are of legal entries, and the one there isn't
pub record StopsIn (founder : Key) (desk : List Deed) (places : List Placed) (offset : ℕ) : Type 0 where
  pub before : List Entry
  pub front : List Placed
  pub placed : Placed
  pub rest : List Placed
  pub places_are : places ≡ front ++ placed ∷ rest
  pub front_is : parcels_of front ≡ parcels_in before
  pub legal : IsLegal founder desk before
  pub not_next : IsNotNext founder desk before placed.parcel
  pub offset_is : offset ≡ placed.offset

-- ---- damage

-- among these parcels those before the gate at this offset are of legal entries, and the one there isn't
pub record StopsAt (founder : Key) (desk : List Deed) (parcels : List RawParcel) (offset : ℕ) : Type 0 where
  pub before : List Entry
  pub parcel : RawParcel
  pub rest : List RawParcel
  pub parcels_are : parcels ≡ parcels_in before ++ parcel ∷ rest
  pub legal : IsLegal founder desk before
  pub not_next : IsNotNext founder desk before parcel
  pub offset_is : offset ≡ gate_in_second (parcels_in before)

-- The file is damaged at this offset: the shape of its chain is broken there; or it is a chain of parcels, and the one
-- there is the first whose entry isn't legal beside an office with these deeds.
abbrev pub IsDamaged : Key → List Deed → List ℕ → ℕ → Type 0
IsDamaged founder desk file offset =
    IsBrokenAt file offset
    ⊎ ((parcels : List RawParcel) × IsChain file parcels × StopsAt founder desk parcels offset)

-- ---- what a crash inside opening may leave

-- the image holds the entries that the file held as it was read
pub record HoldsAlike (reads : Option (List ℕ)) (image : List ℕ) : Type 0 where
  pub file : List ℕ
  pub entries : List Entry
  pub file_is : reads ≡ Some file
  pub before : HoldsEntries file entries
  pub now : HoldsEntries image entries

-- ---- how opening ends

-- The register was opened beside an office with these deeds: with nothing in doubt, at the entries that the file held
-- as it was read, which are legal there. Each image stands for them. What a crash at any moment of opening leaves is
-- what it might have left at the start, or holds those entries. A file in force wasn't written.
pub record IsOpened {D : Type 0} (on : DiskWords D) (founder : Key) (limit : ℕ) (desk : List Deed) (disk : D)
    (register : CometDeskState D) : Type 0 where
  pub founder_is : register.founder ≡ founder
  pub limit_is : register.limit ≡ limit
  pub settled : register.state.doubt ≡ None
  pub stood : IfSome (on.reads disk) (λ file. HoldsEntries file register.state.settled)
  pub legal : IsLegal founder desk register.state.settled
  pub beside : IsBeside desk register
  pub at_rest : IsAtRest on.leaves register
  pub images : During on.moment on.since disk register.disk (λ image. HoldsEntries image register.state.settled)
  pub unwritten : IfSome (on.reads disk) (λ file. IsInForce file
      → IsUnwritten on.reads on.moment on.since disk register.disk)
  pub counts : on.faults disk ≤ on.faults register.disk

-- The register couldn't be opened: the disk failed, the file is damaged, or memory was refused; the file isn't damaged
-- where all that a crash may leave holds a legal list of entries. Unless the disk failed it wasn't written. What a
-- crash at any moment leaves is what it might have left at the start, or holds the same entries.
pub record IsUnopened {D : Type 0} (on : DiskWords D) (founder : Key) (desk : List Deed) (disk : D) (fault : OpenFault)
    (now : D) : Type 0 where
  pub cause : fault ≡ DiskFault → Rises (on.faults disk) (on.faults now)
  pub damaged : (file offset : ℕ) → fault ≡ Damaged file offset → (file ≡ 3)
      × IfSome (on.reads disk) (λ bytes. IsDamaged founder desk bytes offset)
  pub sound : (file offset : ℕ) → fault ≡ Damaged file offset → IsSome (on.reads disk)
      → ((image : List ℕ) → on.leaves disk image
      → (entries : List Entry) × IsLegal founder desk entries × HoldsEntries image entries) → ⊥
  pub unwritten : fault ≢ DiskFault → IsUnwritten on.reads on.moment on.since disk now
  pub images : During on.moment on.since disk now (HoldsAlike (on.reads disk))
  pub counts : on.faults disk ≤ on.faults now

-- either end
abbrev pub EndsOpening : {D : Type 0} → DiskWords D → Key → ℕ → List Deed → D
    → Result (CometDeskState D) (OpenFault × D) → Type 0
EndsOpening on founder limit desk disk (Ok register) = IsOpened on founder limit desk disk register
EndsOpening on founder limit desk disk (Err failed) = IsUnopened on founder desk disk failed.0 failed.1

-- the disk after opening: the register's, or the one that was handed back
abbrev pub disk_after : {D : Type 0} → Result (CometDeskState D) (OpenFault × D) → D
disk_after (Ok register) = register.disk
disk_after (Err failed) = failed.1
