-- What opening a file gives.
use Rattle.std.specs.Prelude.{◌≡◌, ℕ, ◌+◌, List, [], ◌∷◌, map}
use Rattle.std.specs.declared.option.Option.{Option}
use Rattle.std.specs.declared.option.Option.TheVariants.{Some}
use Rattle.obs_journal.specs.Parcels.{RawParcel}
use Rattle.obs_journal.specs.Formats.{room_in}
use Rattle.obs_journal.specs.Files.{Spells}
use Rattle.obs_journal.specs.declared.opening.Placed.{Placed}
use Rattle.obs_journal.specs.declared.format.Format.{Format}
use Rattle.obs_journal.specs.declared.format.Format.TheVariants.{Plain}

-- the parcels without their places
abbrev pub parcels_of : List Placed → List RawParcel
parcels_of places = map (λ (placed : Placed). placed.parcel) places

-- the parcels with the offsets of their gates, of which the first is this
abbrev pub placed_in : Format → ℕ → List RawParcel → List Placed
placed_in format offset [] = []
placed_in format offset (parcel ∷ parcels) =
    record { offset = offset; parcel = parcel } ∷ placed_in format (offset + room_in format parcel) parcels

-- in a plain file
abbrev pub placed_from : ℕ → List RawParcel → List Placed
placed_from offset parcels = placed_in Plain offset parcels

-- the image spells the parcels that the file spelled as it was read
pub record SpellsAlike (reads : Option (List ℕ)) (image : List ℕ) : Type 0 where
  pub file : List ℕ
  pub parcels : List RawParcel
  pub file_is : reads ≡ Some file
  pub before : Spells file parcels
  pub now : Spells image parcels
