-- A write that a sync follows.
use Rattle.std.specs.Prelude.{◌≡◌, ℕ, ◌-◌, List, [], ◌∷◌, ◌++◌}
use Rattle.std.specs.declared.option.Option.{Option}
use Rattle.std.specs.declared.option.Option.TheVariants.{Some}
use Rattle.disk_model.specs.Files.{written}
use Rattle.obs_journal.specs.Parcels.{RawParcel, parcel_bytes}
use Rattle.obs_journal.specs.Formats.{seal}
use Rattle.obs_journal.specs.declared.format.Format.{Format}

-- the file with these bytes at this offset is safe: each image is what was read before, with the bytes
abbrev pub IsSafe : {D : Type 0} (reads : D → Option (List ℕ)) (leaves : D → List ℕ → Type 0) (at : ℕ)
    (bytes : List ℕ) (old new : D) → Type 0
IsSafe reads leaves at bytes old new =
    (image : List ℕ) → leaves new image → (file : List ℕ) × (reads old ≡ Some file) × (image ≡ written at bytes file)

-- the file with a parcel after the closed gate that ends at this position, where this is the last seal: the parcel
-- stands there with its seal and the closed gate 0 after it, and its own gate is 1
abbrev pub appended_in : Format → List ℕ → RawParcel → ℕ → List ℕ → List ℕ
appended_in format last parcel position file = written (position - 1) (1 ∷ [])
    (written position (parcel_bytes parcel ++ (seal format last (parcel_bytes parcel) ++ 0 ∷ [])) file)
