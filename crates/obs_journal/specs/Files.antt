-- What the bytes of a journal stand for: a row of gates, each followed by a parcel where it is open. A gate is open
-- where it is 1.
use Rattle.std.specs.Prelude.{◌≡◌, ◌≢◌, ◌⊎◌, ℕ, List, [], ◌∷◌, ◌++◌, length, take}
use Rattle.std.specs.List.{AllByRecursion}
use Rattle.obs_journal.specs.Parcels.{RawParcel, IsParcel, parcel_bytes}
use Rattle.obs_journal.specs.Formats.{head, first_seal, seal, last_seal, row, row_length_in, front_length, file_of}
use Rattle.obs_journal.specs.declared.format.Format.{Format}
use Rattle.obs_journal.specs.declared.format.Format.TheVariants.{Plain}

-- an open gate and its parcel for each, before what follows
abbrev pub opened : List RawParcel → List ℕ → List ℕ
opened parcels rest = row Plain [] parcels rest

-- how many bytes they take
abbrev pub row_length : List RawParcel → ℕ
row_length parcels = row_length_in Plain parcels

-- a file that nothing was added to: it is empty, or the one byte 1
abbrev pub IsFresh : List ℕ → Type 0
IsFresh file = (file ≡ []) ⊎ (file ≡ 1 ∷ [])

-- a file of a format: an open gate, its parcel and the seal for each, then a closed gate, then any bytes
pub record IsRowIn (format : Format) (file : List ℕ) (parcels : List RawParcel) : Type 0 where
  pub gate : ℕ
  pub rest : List ℕ
  pub file_is : file ≡ file_of format parcels (gate ∷ rest)
  pub closed : gate ≢ 1
  pub each : AllByRecursion IsParcel parcels

-- a plain one
abbrev pub IsRow : List ℕ → List RawParcel → Type 0
IsRow file parcels = IsRowIn Plain file parcels

-- the file spells these parcels
abbrev pub Spells : List ℕ → List RawParcel → Type 0
Spells file parcels = (IsFresh file × (parcels ≡ [])) ⊎ IsRow file parcels

-- after this seal no parcel with its own and a gate after it stands at the front of these bytes
abbrev pub NoParcelIn : Format → List ℕ → List ℕ → Type 0
NoParcelIn format last bytes = (parcel : RawParcel) (gate : ℕ) (rest : List ℕ) → IsParcel parcel →
    bytes ≢ parcel_bytes parcel ++ (seal format last (parcel_bytes parcel) ++ gate ∷ rest)

-- no parcel with a gate after it stands there
abbrev pub NoParcel : List ℕ → Type 0
NoParcel bytes = NoParcelIn Plain [] bytes

-- the file begins as one of the format does
abbrev pub HasHead : Format → List ℕ → Type 0
HasHead format file = take (length (head format)) file ≡ head format

-- A file of a format is damaged at this offset: an open gate stands there after open gates with their parcels and
-- seals, and no parcel with its seal and a gate after it follows.
pub record IsBrokenIn (format : Format) (file : List ℕ) (offset : ℕ) : Type 0 where
  pub before : List RawParcel
  pub rest : List ℕ
  pub file_is : file ≡ file_of format before (1 ∷ rest)
  pub each : AllByRecursion IsParcel before
  pub stops : NoParcelIn format (last_seal format (first_seal format) before) rest
  pub offset_is : offset ≡ front_length format before

-- The file is damaged at this offset: an open gate stands there after open gates with their parcels, and no parcel
-- with a gate after it follows.
pub record IsDamagedAt (file : List ℕ) (offset : ℕ) : Type 0 where
  pub before : List RawParcel
  pub rest : List ℕ
  pub file_is : file ≡ opened before (1 ∷ rest)
  pub each : AllByRecursion IsParcel before
  pub stops : NoParcel rest
  pub not_fresh : file ≢ 1 ∷ []
  pub offset_is : offset ≡ row_length before
