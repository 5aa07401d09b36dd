-- Digits of a radix, and the texts of numbers with a fixed number of digits.
use Rattle.std.specs.Prelude.{ℕ, zero, suc, ◌+◌, ◌/◌, ◌%◌, ◌^◌, nat_lt, ◌==◌, if◌then◌else◌, List, [], ◌∷◌}
use Rattle.ascii_text.specs.declared.digits.Radix.{Radix}
use Rattle.ascii_text.specs.declared.digits.Radix.TheVariants.{Ten, SixtyTwo}

-- how many digits a radix has
abbrev pub base : Radix → ℕ
base Ten = 10
base SixtyTwo = 62

-- the byte that stands for a digit of base 62: 0 to 9, A to Z, a to z stand for 0 to 61
abbrev pub sixty_two_byte : ℕ → ℕ
sixty_two_byte d = if nat_lt d 10 then 48 + d else (if nat_lt d 36 then 55 + d else 61 + d)

-- the byte that stands for a digit
abbrev pub digit_byte : Radix → ℕ → ℕ
digit_byte Ten d = 48 + d
digit_byte SixtyTwo d = sixty_two_byte d

-- the text of n with a fixed number of digits, the greatest first: as `007`
unfoldable pub digits_text : Radix → ℕ → ℕ → List ℕ
digits_text radix zero n = []
digits_text radix (suc count) n =
    digit_byte radix (n / base radix ^ count) ∷ digits_text radix count (n % base radix ^ count)

-- decimals after a number: nothing where there are none, else a point and the digits
unfoldable pub decimals_text : ℕ → ℕ → List ℕ
decimals_text zero value = []
decimals_text (suc count) value = 46 ∷ digits_text Ten (suc count) value

-- how many bytes decimals take
abbrev pub decimals_width : ℕ → ℕ
decimals_width count = if count == 0 then 0 else count + 1
