-- A number as a word: digits without a sign and without leading zeros.
use Rattle.std.specs.Prelude.{ℕ, Bool, true, false, ◌&&◌, not, nat_le, ◌==◌, if◌then◌else◌, List, [], ◌∷◌, Option, Some}
use Rattle.std.specs.Prelude.{None}
use Rattle.std.specs.Char.{is_ascii_digit}
use Rattle.std.specs.List.{list_all}
use Rattle.std.specs.Str.Parse.{digits_value}

-- a zero doesn't lead other digits
abbrev pub has_no_leading_zero : List ℕ → Bool
has_no_leading_zero [] = false
has_no_leading_zero (digit ∷ []) = true
has_no_leading_zero (first ∷ second ∷ digits) = not (first == 48)

-- one digit or more and nothing else, none of them a leading zero
abbrev pub is_number : List ℕ → Bool
is_number text = has_no_leading_zero text && list_all is_ascii_digit text

-- a number, where it lies in the range
abbrev pub if_within : ℕ → ℕ → ℕ → Option ℕ
if_within least most number = if nat_le least number && nat_le number most then Some number else None

-- a number, where it fits 64 bits
abbrev pub if_fits : ℕ → Option ℕ
if_fits number = if nat_le number 18446744073709551615 then Some number else None

-- the number from `least` to `most` that a word spells
unfoldable pub number_in : ℕ → ℕ → List ℕ → Option ℕ
number_in least most text = if is_number text then if_within least most (digits_value 10 text) else None
