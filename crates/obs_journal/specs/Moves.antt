-- How a history is carried into a second file.
use Rattle.std.specs.Prelude.{◌≡◌, ◌≢◌, ◌⊎◌, ℕ, ◌≤◌, List, [], ◌∷◌, ◌++◌, length, slice_index, IfSome, IsSome}
use Rattle.std.specs.declared.option.Option.{Option}
use Rattle.std.specs.declared.option.Option.TheVariants.{Some}
use Rattle.disk_model.specs.Crashes.{During}
use Rattle.obs_journal.specs.Parcels.{RawParcel}
use Rattle.obs_journal.specs.Chains.{IsInForce, IsChain}

abbrev pub IsIdle : List ℕ → Type 0
IsIdle file = IsInForce file → ⊥

-- The file is idle, and so is what a write behind its first byte may leave of it: that byte is there, and isn't 1.
pub record IsShut (file : List ℕ) : Type 0 where
  pub some : 1 ≤ length file
  pub first : slice_index file 0 ≢ 1

-- the one byte of a shut file
pub record IsOneByte (file : List ℕ) : Type 0 where
  pub byte : ℕ
  pub file_is : file ≡ byte ∷ []
  pub shut : byte ≢ 1

-- while these parcels are carried, an image is idle, or has them
abbrev pub IsCarried : List RawParcel → List ℕ → Type 0
IsCarried parcels image = IsIdle image ⊎ IsChain image parcels

-- while these parcels are carried into a file that was read so, an image is idle, or has them; there is none where
-- the file's bytes are unknown
pub record IsCarriedInto (reads : Option (List ℕ)) (parcels : List RawParcel) (image : List ℕ) : Type 0 where
  pub known : IsSome reads
  pub now : IsCarried parcels image

-- Bytes were put at the end of the file, which is at this offset. Where each image was shut, each image still is; and
-- there is none where there was none.
pub record Adds {D : Type 0} (reads : D → Option (List ℕ)) (leaves : D → List ℕ → Type 0) (at : ℕ) (bytes : List ℕ)
    (old new : D) : Type 0 where
  pub grown : IfSome (reads old) (λ file. length file ≡ at → reads new ≡ Some (file ++ bytes))
  pub shut : ((image : List ℕ) → leaves old image → IsShut image) → (image : List ℕ) → leaves new image → IsShut image
  pub from : (image : List ℕ) → leaves new image → (before : List ℕ) × leaves old before

-- The image has P, and the file was known as it was read so: one that isn't known has no image.
abbrev pub IsKnownAnd : Option (List ℕ) → (List ℕ → Type 0) → List ℕ → Type 0
IsKnownAnd reads P image = IsSome reads × P image

-- where each image was shut, and the file known as it was read so, both hold of each image at any moment of a run
abbrev pub StaysShut : {D : Type 0} (leaves : D → List ℕ → Type 0) (moment : D → ℕ) (since : D → ℕ → List ℕ → Type 0)
    (old new : D) → Type 0
StaysShut leaves moment since old new =
    (reads : Option (List ℕ)) → ((image : List ℕ) → leaves old image → IsKnownAnd reads IsShut image)
    → During moment since old new (IsKnownAnd reads IsShut)
