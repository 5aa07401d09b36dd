-- What stands at a gate, as it was read.
use Rattle.std.specs.Prelude.{◌≡◌, ◌≢◌, ℕ, ◌+◌, ◌≤◌, ◌<◌, List, [], ◌∷◌, ◌++◌}
use Rattle.std.specs.Int.{w32, w64, to_be_bytes, cast_unsigned}
use Rattle.obs_journal.specs.Parcels.{RawParcel, IsParcel, parcel_bytes}
use Rattle.obs_journal.specs.Formats.{seal, seal_length, room_in, kept_seal}
use Rattle.obs_journal.specs.Files.{NoParcelIn}
use Rattle.obs_journal.specs.declared.format.Format.{Format}
use Rattle.obs_journal.specs.declared.gates.Head.{Head}
use Rattle.obs_journal.specs.declared.gates.Front.{Front}
use Rattle.obs_journal.specs.declared.gates.Front.TheVariants.{Closed, Damaged, Open}

-- the bytes of a head
unfoldable pub head_spelled : Head → List ℕ
head_spelled head =
    to_be_bytes w32 head.counted ++ (to_be_bytes w32 head.caller ++ (to_be_bytes w64 head.number
    ++ (to_be_bytes w64 (cast_unsigned w64 head.moment) ++ head.verb ∷ [])))

-- the parcel of a head and a body
abbrev pub with_body : Head → List ℕ → RawParcel
with_body head body = record {
  caller = head.caller;
  number = head.number;
  moment = head.moment;
  verb = head.verb;
  body = body;
}

-- a head whose parcel, with its seal and the gates before and after it, takes this many bytes or fewer
pub record HasRoom (format : Format) (counted left : ℕ) : Type 0 where
  pub least : 21 ≤ counted
  pub most : counted ≤ 1048597
  pub inside : counted + 6 + seal_length format ≤ left

-- after the last seal: a closed gate; or an open one that no parcel with its seal and a gate after it follows; or an
-- open one with its parcel, the seal and a gate after it
abbrev pub StandsAtFront : Format → List ℕ → List ℕ → Front → Type 0
StandsAtFront format last bytes Closed = (gate : ℕ) × (rest : List ℕ) × (bytes ≡ gate ∷ rest) × (gate ≢ 1)
StandsAtFront format last bytes Damaged = (rest : List ℕ) × (bytes ≡ 1 ∷ rest) × NoParcelIn format last rest
StandsAtFront format last bytes (Open parcel digest) =
    (gate : ℕ) × (rest : List ℕ)
    × (bytes ≡ 1 ∷ (parcel_bytes parcel ++ (seal format last (parcel_bytes parcel) ++ gate ∷ rest))) × IsParcel parcel

-- behind a head: its parcel's body and the seal; or neither with a gate after them
abbrev pub StandsBehind : Format → List ℕ → Head → List ℕ → Front → Type 0
StandsBehind format last head bytes Closed = ⊥
StandsBehind format last head bytes Damaged = NoParcelIn format last (head_spelled head ++ bytes)
StandsBehind format last head bytes (Open parcel digest) =
    (rest : List ℕ) × (head_spelled head ++ bytes
    ≡ parcel_bytes parcel ++ (seal format last (parcel_bytes parcel) ++ rest))

-- the parcel, if there is one, its seal and the gate after it are among this many bytes
abbrev pub IsInside : Format → Front → ℕ → Type 0
IsInside format Closed left = Unit {0}
IsInside format Damaged left = Unit {0}
IsInside format (Open parcel digest) left = room_in format parcel < left

-- the digest is what is kept of the parcel's seal
abbrev pub IsSealed : Format → List ℕ → Front → Type 0
IsSealed format last Closed = Unit {0}
IsSealed format last Damaged = Unit {0}
IsSealed format last (Open parcel digest) = kept_seal format digest ≡ seal format last (parcel_bytes parcel)
