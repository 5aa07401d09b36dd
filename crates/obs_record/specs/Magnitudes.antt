-- Magnitudes, in units of 0.000001.
use Rattle.std.specs.Prelude.{◌≡◌, ℕ, ◌+◌, ◌-◌, ◌*◌, ◌%◌, ◌^◌, Option, Some, None}

-- the greatest magnitude, 99.99
abbrev pub greatest_magnitude : ℕ
greatest_magnitude = 99990000

-- the magnitude with this whole number, and this many decimals of this value: each decimal's unit is a tenth of the one
-- before it
abbrev pub magnitude_of : ℕ → ℕ → ℕ → ℕ
magnitude_of whole count value = whole * 1000000 + value * 10 ^ (6 - count)

-- a magnitude has at most this many decimals; where there is none, it has 0
abbrev pub HasDecimals : Option ℕ → ℕ → Type 0
HasDecimals None count = count ≡ 0
HasDecimals (Some mag) count = mag % 10 ^ (6 - count) ≡ 0
