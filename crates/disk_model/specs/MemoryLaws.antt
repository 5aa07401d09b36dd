-- Laws on the images of a disk in memory.
use Rattle.std.specs.Prelude.{◌≡◌, ℕ, zero, suc, ◌+◌, ◌≤◌, true, false, List, [], ◌∷◌, length, refl, Option, Some}
use Rattle.std.specs.Prelude.{unwrap_or}
use Rattle.std.proofs.Common.{ap, subst, arith}
use Rattle.disk_model.specs.FileLaws.{torn_same, torn_part, cut_same, cut_front}
use Rattle.disk_model.specs.Memory.{Deed, Wrote, Cut, Synced, MemoryState, file_after, file_of, IsImage, IsImageSince}

-- the file as reads give it is an image
pub is_file_image : (first : List ℕ) (deeds : List Deed) → IsImage first deeds (file_after first deeds)
is_file_image first [] = refl
is_file_image first (Wrote at bytes true ∷ past) = (
  file_after first past,
  is_file_image first past,
  torn_part at (length bytes) at bytes (file_after first past) (omega arith) (omega arith),
)
is_file_image first (Wrote at bytes false ∷ past) = (
  file_after first past,
  is_file_image first past,
  torn_same at (length bytes) (file_after first past),
)
is_file_image first (Cut len true ∷ past) = (
  file_after first past,
  is_file_image first past,
  cut_front len len (file_after first past) (omega arith),
)
is_file_image first (Cut len false ∷ past) = (
  file_after first past,
  is_file_image first past,
  cut_same len (file_after first past),
)
is_file_image first (Synced true ∷ past) = refl
is_file_image first (Synced false ∷ past) = is_file_image first past

-- an image now is one since each earlier moment
pub is_image_since : (first : List ℕ) (deeds : List Deed) (t : ℕ) (image : List ℕ) → t ≤ length deeds
    → IsImage first deeds image → IsImageSince first deeds t image
is_image_since first deeds t image le now = (0, (let bound : 0 + t ≤ length deeds = omega (arith, le) in bound), now)

-- since now there is no other
pub only_image_now : (first : List ℕ) (deeds : List Deed) (image : List ℕ)
    → IsImageSince first deeds (length deeds) image → IsImage first deeds image
only_image_now first deeds image (zero, le, was) = was
only_image_now first deeds image (suc newer, le, was) = absurd (omega (arith, le))

-- the file that reads give is an image
pub as_read : (disk : MemoryState) (file : List ℕ) → Some (file_of disk) ≡ Some file
    → IsImage disk.first disk.deeds file
as_read disk file is =
    subst (λ (l : List ℕ). IsImage disk.first disk.deeds l)
    (ap (λ (o : Option (List ℕ)). unwrap_or o []) is) (is_file_image disk.first disk.deeds)
