-- How a parcel lies in memory: as it stands in a plain file, with the closed gate after it, and room for a digest.
use Rattle.std.specs.Prelude.{◌≡◌, ℕ, ℤ, ◌-◌, List, [], ◌∷◌, ◌++◌, length, take, drop, replicate}
use Rattle.obs_journal.specs.Parcels.{RawParcel, IsParcel, parcel_bytes}

-- the bytes of the body among all of them
abbrev pub body_of : List ℕ → List ℕ
body_of bytes = take (length (drop 25 bytes) - 33) (drop 25 bytes)

-- the parcel of these fields, and of the body among these bytes
abbrev pub stored : ℕ → ℕ → ℤ → ℕ → List ℕ → RawParcel
stored caller number moment verb bytes = record {
  caller = caller;
  number = number;
  moment = moment;
  verb = verb;
  body = body_of bytes;
}

-- the bytes are those of the parcel and the gate, and the room
pub record IsStored (parcel : RawParcel) (bytes : List ℕ) : Type 0 where
  pub fits : IsParcel parcel
  pub bytes_are : bytes ≡ (parcel_bytes parcel ++ 0 ∷ []) ++ replicate 32 0
