-- Numbers that are hashed in the place of keys.
use Rattle.std.specs.Prelude.{ℕ, ◌+◌, ◌*◌, ◌%◌, ◌^◌, List, take, drop}
use Rattle.std.specs.Int.{w64, cast_unsigned}
use Rattle.std.specs.Simd.Lanes.{number_l}
use Rattle.place_keys.specs.declared.place.PlaceKey.{PlaceKey}

-- a number that two others make
unfoldable pub mixed : ℕ → ℕ → ℕ
mixed one other = (one + (other * 0x9e37_79b9_7f4a_7c15) % 2 ^ 64) % 2 ^ 64

-- a number that a text of twelve bytes makes
abbrev pub text_mark : List ℕ → ℕ
text_mark bytes = mixed (number_l 256 (take 8 bytes) % 2 ^ 64) (number_l 256 (drop 8 bytes))

-- a number that a station, a time and a position make
abbrev pub place_mark : PlaceKey → ℕ
place_mark key =
    mixed (cast_unsigned w64 key.time) (mixed key.ra (mixed (cast_unsigned w64 key.dec) (text_mark key.bytes.bytes)))
