-- The founding officer's key as a word.
use Rattle.std.specs.Prelude.{ℕ, Bool, false, ◌&&◌, ◌||◌, nat_le, ◌==◌, if◌then◌else◌, List, [], ◌∷◌, length, Option}
use Rattle.std.specs.Prelude.{Some, None}
use Rattle.std.specs.List.{list_all}

-- the bytes that a founder's key may have after its plus sign: A to Z, a to z, 0 to 9 and the hyphen
abbrev pub is_key_byte : ℕ → Bool
is_key_byte byte =
    (nat_le 48 byte && nat_le byte 57) || (nat_le 65 byte && nat_le byte 90) || (nat_le 97 byte && nat_le byte 122)
    || (byte == 45)

abbrev pub has_key_length : List ℕ → Bool
has_key_length rest = nat_le 8 (length rest) && nat_le (length rest) 32

-- 8 to 32 bytes of a key
abbrev pub is_key_rest : List ℕ → Bool
is_key_rest rest = has_key_length rest && list_all is_key_byte rest

-- the founding officer's key: a plus sign, and 8 to 32 bytes of a key
abbrev pub is_founder_key : List ℕ → Bool
is_founder_key [] = false
is_founder_key (sign ∷ rest) = (sign == 43) && is_key_rest rest

-- a word, where it is a founder's key
abbrev pub founder_key : List ℕ → Option (List ℕ)
founder_key text = if is_founder_key text then Some text else None
