-- The two formats of a row: what stands before it, and the seal that stands after each parcel's bytes. A seal is a
-- function of the last one and of those bytes.
use Rattle.std.specs.Prelude.{ℕ, ◌+◌, List, [], ◌∷◌, ◌++◌, length, replicate}
use Rattle.sha2.specs.Sha256.{sha256}
use Rattle.obs_journal.specs.Parcels.{RawParcel, parcel_bytes, room}
use Rattle.obs_journal.specs.declared.format.Format.{Format}
use Rattle.obs_journal.specs.declared.format.Format.TheVariants.{Plain, Chained}

-- the number of the file that has this format: the first one is plain, the second one is chained
abbrev pub file_number : Format → ℕ
file_number Plain = 1
file_number Chained = 2

-- what stands before the row: nothing in a plain file, the byte 1 in a chained one
abbrev pub head : Format → List ℕ
head Plain = []
head Chained = 1 ∷ []

-- what stands for the last seal before the first parcel
abbrev pub first_seal : Format → List ℕ
first_seal Plain = []
first_seal Chained = replicate 32 0

-- the seal after a parcel's bytes: none; or the SHA-256 digest of the last digest and of those bytes
abbrev pub seal : Format → List ℕ → List ℕ → List ℕ
seal Plain last bytes = []
seal Chained last bytes = sha256 (last ++ bytes)

abbrev pub seal_length : Format → ℕ
seal_length Plain = 0
seal_length Chained = 32

-- the seal that the 32 bytes which are kept of it stand for: of a plain one nothing is kept
abbrev pub kept_seal : Format → List ℕ → List ℕ
kept_seal Plain digest = []
kept_seal Chained digest = digest

-- the last seal after these parcels
abbrev pub last_seal : Format → List ℕ → List RawParcel → List ℕ
last_seal format last [] = last
last_seal format last (parcel ∷ parcels) = last_seal format (seal format last (parcel_bytes parcel)) parcels

-- the bytes that a parcel, its seal and the gate after it take
abbrev pub room_in : Format → RawParcel → ℕ
room_in Plain parcel = room parcel
room_in Chained parcel = 58 + length parcel.body

-- an open gate, a parcel's bytes and their seal for each, before what follows
abbrev pub row : Format → List ℕ → List RawParcel → List ℕ → List ℕ
row format last [] rest = rest
row format last (parcel ∷ parcels) rest =
    1 ∷ (parcel_bytes parcel ++ (seal format last (parcel_bytes parcel)
    ++ row format (seal format last (parcel_bytes parcel)) parcels rest))

-- how many bytes they take
abbrev pub row_length_in : Format → List RawParcel → ℕ
row_length_in format [] = 0
row_length_in format (parcel ∷ parcels) = room_in format parcel + row_length_in format parcels

-- the bytes up to the gate after these parcels
abbrev pub front_length : Format → List RawParcel → ℕ
front_length format parcels = length (head format) + row_length_in format parcels

-- a file with these parcels, and then such bytes
abbrev pub file_of : Format → List RawParcel → List ℕ → List ℕ
file_of format parcels rest = head format ++ row format (first_seal format) parcels rest

-- the seal of one parcel more
abbrev pub next_seal : Format → List RawParcel → RawParcel → List ℕ
next_seal format parcels parcel = seal format (last_seal format (first_seal format) parcels) (parcel_bytes parcel)
