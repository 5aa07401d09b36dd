-- A disk in memory: its record of writes, cuts and syncs, the file after them, and what a crash may leave.
use Rattle.std.specs.Prelude.{◌≡◌, ◌⊎◌, ℕ, ◌+◌, ◌≤◌, max, Bool, true, false, List, [], ◌∷◌, length, drop}
use Rattle.call_log.specs.Calls.{Calls, no_calls, FailsNext, passed, failed}
use Rattle.disk_model.specs.Files.{written, cut_to}
use Rattle.disk_model.specs.Crashes.{Torn, CutTo, After}

-- a write, a cut or a sync, and whether it was done; one that failed is in the record too
pub data Deed : Type 0 where
  Wrote : (at : ℕ) (bytes : List ℕ) (done : Bool) → Deed
  Cut : (len : ℕ) (done : Bool) → Deed
  Synced : (done : Bool) → Deed

-- the file as reads give it after these deeds, the newest first; a deed that failed leaves it
abbrev pub file_after : List ℕ → List Deed → List ℕ
file_after first [] = first
file_after first (Wrote at bytes true ∷ past) = written at bytes (file_after first past)
file_after first (Cut len true ∷ past) = cut_to len (file_after first past)
file_after first (_ ∷ past) = file_after first past

-- The images after these deeds. A write or a cut changes what a crash may leave, also where it failed; after a sync
-- that was done it is what reads give.
abbrev pub IsImage : List ℕ → List Deed → List ℕ → Type 0
IsImage first [] image = image ≡ first
IsImage first (Wrote at bytes _ ∷ past) image = After (Torn at (length bytes)) (IsImage first past) image
IsImage first (Cut len _ ∷ past) image = After (CutTo len) (IsImage first past) image
IsImage first (Synced true ∷ past) image = image ≡ file_after first past
IsImage first (Synced false ∷ past) image = IsImage first past image

-- an image at the moment when at least t of the deeds were made: some of the newest weren't made yet
abbrev pub IsImageSince : List ℕ → List Deed → ℕ → List ℕ → Type 0
IsImageSince first deeds t image = (newer : ℕ) × (newer + t ≤ length deeds) × IsImage first (drop newer deeds) image

-- the file as the last sync that was done left it
abbrev pub last_synced : List ℕ → List Deed → List ℕ
last_synced first [] = first
last_synced first (Synced true ∷ past) = file_after first past
last_synced first (_ ∷ past) = last_synced first past

-- how much the record holds: 32 bytes for each deed, and the bytes of the writes
abbrev pub record_size : List Deed → ℕ
record_size [] = 0
record_size (Wrote at bytes _ ∷ past) = 32 + length bytes + record_size past
record_size (_ ∷ past) = 32 + record_size past

-- a record: its deeds, the newest first, and how many bytes it and the file may take together
pub record RecordState : Type 0 where
  pub deeds : List Deed
  pub capacity : ℕ

-- a record with one deed more
abbrev pub with_deed : RecordState → Deed → RecordState
with_deed old deed = record old { deeds = deed ∷ old.deeds }

-- the file when the disk was made, the deeds since then, the newest first, the capacity in bytes, and the calls
pub record MemoryState : Type 0 where
  pub first : List ℕ
  pub deeds : List Deed
  pub capacity : ℕ
  pub calls : Calls

-- a disk with this file, all of it safe, before its first call
abbrev pub new_disk : List ℕ → ℕ → List ℕ → MemoryState
new_disk file capacity fails = record { first = file; deeds = []; capacity = capacity; calls = no_calls fails }

-- the file as reads give it
abbrev pub file_of : MemoryState → List ℕ
file_of disk = file_after disk.first disk.deeds

-- the capacity holds the record with one more deed, and the file before and after it
abbrev pub HasRoom : MemoryState → Deed → Type 0
HasRoom disk deed =
    max (length (file_of disk)) (length (file_after disk.first (deed ∷ disk.deeds))) + record_size (deed ∷ disk.deeds)
    ≤ disk.capacity

-- what a disk in memory keeps: the file is the one after the deeds, and the capacity holds it with the record
pub record IsHeld (first file : List ℕ) (deeds : List Deed) (capacity : ℕ) : Type 0 where
  pub same : file ≡ file_after first deeds
  pub fits : length file + record_size deeds ≤ capacity
  pub start : length first ≤ capacity

-- a call that makes this deed fails: it is one of those that are to fail, or the capacity has no room
abbrev pub Fails : MemoryState → Deed → Type 0
Fails disk deed = FailsNext disk.calls ⊎ (¬ HasRoom disk deed)

-- after a call that made no deed, and did what it could or failed
abbrev pub after_passed : MemoryState → MemoryState
after_passed disk = record disk { calls = passed disk.calls }

abbrev pub after_fault : MemoryState → MemoryState
after_fault disk = record disk { calls = failed disk.calls }

-- after a deed that was done
abbrev pub after_done : MemoryState → Deed → MemoryState
after_done disk deed = record disk { deeds = deed ∷ disk.deeds; calls = passed disk.calls }

-- after a deed that failed
abbrev pub after_failed : MemoryState → Deed → MemoryState
after_failed disk deed = record disk { deeds = deed ∷ disk.deeds; calls = failed disk.calls }

-- the images of a disk in memory, the moment as the number of its deeds, and the images since a moment
abbrev pub images_of : MemoryState → List ℕ → Type 0
images_of disk = IsImage disk.first disk.deeds

abbrev pub moment_of : MemoryState → ℕ
moment_of disk = length disk.deeds

abbrev pub images_since : MemoryState → ℕ → List ℕ → Type 0
images_since disk = IsImageSince disk.first disk.deeds

-- the record has this deed more, done or not, or it is as it was
abbrev pub Records : MemoryState → MemoryState → (Bool → Deed) → Type 0
Records old new deed =
    (new.first ≡ old.first) × ((new.deeds ≡ old.deeds) ⊎ ((done : Bool) × (new.deeds ≡ deed done ∷ old.deeds)))
