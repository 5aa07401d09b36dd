-- A parcel, and its bytes in a journal of version 1.
use Rattle.std.specs.Prelude.{ℕ, ℤ, ◌+◌, ◌^◌, ◌<◌, ◌≤◌, List, [], ◌∷◌, ◌++◌, length}
use Rattle.std.specs.Int.{w32, w64, to_be_bytes, cast_unsigned}
use Rattle.std.specs.Int.RustNames.{FitsSigned}

-- who asked, under which number, at which moment (nanoseconds since 1970), for what (the code of a verb), and the body
pub record RawParcel : Type 0 where
  pub caller : ℕ
  pub number : ℕ
  pub moment : ℤ
  pub verb : ℕ
  pub body : List ℕ

-- the fields of several bytes fit theirs, and the body isn't too long
pub record IsParcel (parcel : RawParcel) : Type 0 where
  pub caller : parcel.caller < 2 ^ 32
  pub number : parcel.number < 2 ^ 64
  pub moment : FitsSigned w64 parcel.moment
  pub body : length parcel.body ≤ 1048576

-- what the length of a parcel counts: the bytes of all that stands after it
abbrev pub counted : RawParcel → ℕ
counted parcel = 21 + length parcel.body

-- the fields before the body, big-endian: the length, the caller, the number, the moment in two's complement, the verb
abbrev pub head_bytes : RawParcel → List ℕ
head_bytes parcel =
    to_be_bytes w32 (counted parcel) ++ (to_be_bytes w32 parcel.caller ++ (to_be_bytes w64 parcel.number
    ++ (to_be_bytes w64 (cast_unsigned w64 parcel.moment) ++ parcel.verb ∷ [])))

-- the head, and the body after it
unfoldable pub parcel_bytes : RawParcel → List ℕ
parcel_bytes parcel = head_bytes parcel ++ parcel.body

-- the bytes that a parcel and the gate after it take
abbrev pub room : RawParcel → ℕ
room parcel = 26 + length parcel.body
