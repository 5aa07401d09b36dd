-- Decimal numbers as they are written: digits, leading zeros among them, then a point and decimals or nothing.
use Rattle.std.specs.Prelude.{◌≡◌, ℕ, ◌^◌, ◌<◌, ◌≤◌, nat_lt, ◌==◌, if◌then◌else◌, List, ◌++◌, length, Option, Some}
use Rattle.std.specs.Prelude.{None}
use Rattle.ascii_text.specs.declared.digits.Radix.TheVariants.{Ten}
use Rattle.ascii_text.specs.Digits.{digits_text, decimals_text}
use Rattle.ascii_text.specs.Reading.{◌>>=◌, digit_run, run_at, decimals_at}

-- how many digits stand before the point, and their value; how many decimals stand after it, and their value
pub record NumberParts : Type 0 where
  pub digits : ℕ
  pub whole : ℕ
  pub count : ℕ
  pub value : ℕ

-- the parts of these digits and decimals
abbrev pub made_number : ℕ × ℕ → ℕ × ℕ → NumberParts
made_number whole decimals = record { digits = whole.0; whole = whole.1; count = decimals.0; value = decimals.1 }

-- the text of parts
unfoldable pub number_spelling : NumberParts → List ℕ
number_spelling p = digits_text Ten p.digits p.whole ++ decimals_text p.count p.value

-- the text is 1 or more digits, at most this many, then a point and decimals or nothing
pub record IsSpelledNumber (most : ℕ) (p : NumberParts) (text : List ℕ) : Type 0 where
  pub some : 1 ≤ p.digits
  pub within : p.digits ≤ most
  pub whole : p.whole < 10 ^ p.digits
  pub value : p.value < 10 ^ p.count
  pub text_is : text ≡ number_spelling p

-- ---- reading

-- all the digits at the front, as the number of them and their value; at least one and at most this many
unfoldable pub whole_at : ℕ → List ℕ → Option ((ℕ × ℕ) × List ℕ)
whole_at most text = if nat_lt most (digit_run text) then None else run_at text

-- the parts that a text spells
unfoldable pub number_parts_at : ℕ → List ℕ → Option NumberParts
number_parts_at most text = do
  whole ← whole_at most text
  decimals ← decimals_at whole.1
  if length decimals.1 == 0 then Some (made_number whole.0 decimals.0) else None

-- the parts, or nothing in their place where there are more decimals than this
abbrev pub within : ℕ → NumberParts → Option NumberParts
within few p = if nat_lt few p.count then None else Some p
