-- When a second file is in force, what it spells, and where its chain stands.
use Rattle.std.specs.Prelude.{◌≡◌, ℕ, ◌+◌, ◌≤◌, List, length, slice_index}
use Rattle.obs_journal.specs.Parcels.{RawParcel, parcel_bytes}
use Rattle.obs_journal.specs.Formats.{first_seal, seal, last_seal, room_in, row_length_in}
use Rattle.obs_journal.specs.declared.format.Format.{Format}
use Rattle.obs_journal.specs.declared.format.Format.TheVariants.{Chained}
use Rattle.obs_journal.specs.Files.{IsRowIn, IsBrokenIn}
use Rattle.obs_journal.specs.declared.journal.Reached.{Reached}

-- the format of a chained file, for crates above, which can't name the variants
abbrev pub chained : Format
chained = Chained

-- the file has a byte behind the first one, and that is 1
abbrev pub IsInForce : List ℕ → Type 0
IsInForce file = (2 ≤ length file) × (slice_index file 0 ≡ 1)

-- the file is in force, and after its first byte an open gate, its parcel and the digest stand for each of these, then
-- a closed gate, then any bytes
abbrev pub IsChain : List ℕ → List RawParcel → Type 0
IsChain file parcels = IsRowIn Chained file parcels

-- the chained file is damaged at this offset: an open gate stands there after open gates with their parcels and
-- digests, and no parcel with its digest and a gate after it follows
abbrev pub IsBrokenAt : List ℕ → ℕ → Type 0
IsBrokenAt file offset = IsBrokenIn Chained file offset

-- where a chain stands after these parcels: the bytes up to and with the closed gate, and the last digest
abbrev pub reached_after : List RawParcel → Reached
reached_after parcels = record {
  position = row_length_in Chained parcels + 2;
  last = last_seal Chained (first_seal Chained) parcels;
}

-- and where it stands with one parcel more
abbrev pub reached_with : Reached → RawParcel → Reached
reached_with reached parcel = record {
  position = reached.position + room_in Chained parcel;
  last = seal Chained reached.last (parcel_bytes parcel);
}
