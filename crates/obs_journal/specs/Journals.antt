-- What an open journal stands for.
use Rattle.std.specs.Prelude.{◌≡◌, ◌≢◌, ℕ, List, [], ◌∷◌, ◌++◌, Result, Ok, Err}
use Rattle.std.specs.declared.option.Option.{Option}
use Rattle.std.specs.declared.option.Option.TheVariants.{None, Some}
use Rattle.std.specs.Option.{option_map}
use Rattle.std.specs.List.{AllByRecursion}
use Rattle.disk_model.specs.Crashes.{During}
use Rattle.obs_journal.specs.Parcels.{RawParcel, IsParcel, parcel_bytes}
use Rattle.obs_journal.specs.Formats.{file_of, next_seal}
use Rattle.obs_journal.specs.declared.format.Format.{Format}
use Rattle.obs_journal.specs.declared.format.Format.TheVariants.{Chained}
use Rattle.obs_journal.specs.Chains.{IsChain, reached_after}
use Rattle.obs_journal.specs.declared.journal.Reached.{Reached}
use Rattle.obs_journal.specs.declared.fault.OpenFault.{OpenFault}
use Rattle.obs_journal.specs.declared.opening.Placed.{Placed}

-- a journal: its disk, where its chain stands, and, while a parcel is in doubt, where it stands once that is added
pub record JournalState (D : Type 0) : Type 0 where
  pub disk : D
  pub reached : Reached
  pub in_doubt : Option Reached

-- An image while one more parcel is in doubt: after the others any byte stands as its gate, and after that it stands
-- whole, with its seal and a closed gate after it.
pub record IsDoubtfulIn (format : Format) (image : List ℕ) (parcels : List RawParcel) (doubt : RawParcel) : Type 0 where
  pub gate : ℕ
  pub next : ℕ
  pub rest : List ℕ
  pub image_is : image ≡ file_of format parcels
      (gate ∷ (parcel_bytes doubt ++ (next_seal format parcels doubt ++ next ∷ rest)))
  pub closed : next ≢ 1
  pub each : AllByRecursion IsParcel parcels
  pub fits : IsParcel doubt

-- an image holds these parcels, and perhaps the one in doubt
abbrev pub Holds : List RawParcel → Option RawParcel → List ℕ → Type 0
Holds parcels None image = IsChain image parcels
Holds parcels (Some doubt) image = IsDoubtfulIn Chained image parcels doubt

-- the journal stands for these parcels, with this one in doubt: each image holds them, and the chain stands after them
pub record StandsFor {D : Type 0} (leaves : D → List ℕ → Type 0) (journal : JournalState D) (parcels : List RawParcel)
    (doubt : Option RawParcel) : Type 0 where
  pub images : (image : List ℕ) → leaves journal.disk image → Holds parcels doubt image
  pub reached : journal.reached ≡ reached_after parcels
  pub in_doubt : journal.in_doubt ≡ option_map (λ parcel. reached_after (parcels ++ parcel ∷ [])) doubt

-- the disk after opening: the journal's, or the one that was handed back
abbrev pub opened_disk : {D : Type 0} → Result (JournalState D × List Placed) (OpenFault × D) → D
opened_disk (Ok opened) = opened.0.disk
opened_disk (Err failed) = failed.1

-- the disk after carrying: the journal's, or the one that was handed back
abbrev pub carried_disk : {D : Type 0} → Result (JournalState D) D → D
carried_disk (Ok journal) = journal.disk
carried_disk (Err disk) = disk

-- the disk was not written: what reads give stays the same, and no image came
pub record IsUnwritten {D : Type 0} (reads : D → Option (List ℕ)) (moment : D → ℕ) (since : D → ℕ → List ℕ → Type 0)
    (old new : D) : Type 0 where
  pub same : reads new ≡ reads old
  pub no_image : During moment since old new (λ _. ⊥)
