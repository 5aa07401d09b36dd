-- The magnitude in columns 66 to 70, in units of 0.000001.
use Rattle.std.specs.Prelude.{◌≡◌, ℕ, ◌^◌, ◌<◌, ◌≤◌, nat_lt, nat_le, ◌&&◌, ◌==◌, if◌then◌else◌, List, [], ◌∷◌, ◌++◌}
use Rattle.std.specs.Prelude.{Option, Some, None, Result, Ok, Err}
use Rattle.ascii_text.specs.declared.digits.Radix.TheVariants.{Ten}
use Rattle.ascii_text.specs.Digits.{digits_text, decimals_text}
use Rattle.ascii_text.specs.Bytes.{blank}
use Rattle.ascii_text.specs.Blanks.{blanks, are_blanks}
use Rattle.ascii_text.specs.Reading.{◌>>=◌, digits_at, decimals_at}
use Rattle.obs_record.specs.Magnitudes.{magnitude_of}
use Rattle.obs_record.specs.declared.rule.RuleCode.{RuleCode}
use Rattle.obs_record.specs.declared.rule.RuleCode.TheVariants.{S9}
use Rattle.col80_format.specs.declared.magnitude.Written.{Written}

-- a whole number below 100 in two columns: a blank and a digit, or two digits
abbrev pub whole_text : ℕ → List ℕ
whole_text n = if nat_lt n 10 then blank ∷ digits_text Ten 1 n else digits_text Ten 2 n

-- the text is a magnitude with at most two decimals, and blanks after it
pub record SpellsMagnitude (written : Written) (text : List ℕ) : Type 0 where
  pub whole : written.whole < 100
  pub few : written.decimals.count ≤ 2
  pub decimals : written.decimals.value < 10 ^ written.decimals.count
  pub space : ℕ
  pub spelling : text ≡ whole_text written.whole
      ++ (decimals_text written.decimals.count written.decimals.value ++ blanks space)

-- columns 66 to 70: five blanks, or a magnitude with this many decimals
abbrev pub IsMagnitudeText : List ℕ → Option ℕ → ℕ → Type 0
IsMagnitudeText text None count = (text ≡ blanks 5) × (count ≡ 0)
IsMagnitudeText text (Some mag) count =
    (written : Written) × SpellsMagnitude written text
    × (mag ≡ magnitude_of written.whole written.decimals.count written.decimals.value)
    × (count ≡ written.decimals.count)

-- ---- reading it

-- the whole number in two columns, and the text after them
unfoldable pub whole_at : List ℕ → Option (ℕ × List ℕ)
whole_at [] = None
whole_at (first ∷ rest) =
    if first == blank then digits_at Ten 1 rest
    else (if first == 48 then None else digits_at Ten 2 (first ∷ rest))

-- the numbers of a magnitude that is the whole text, but for blanks
unfoldable pub written_in : List ℕ → Option Written
written_in text = do
  whole ← whole_at text
  decimals ← decimals_at whole.1
  if nat_le decimals.0.0 2 && are_blanks decimals.1 then Some
      (record { whole = whole.0; decimals = record { count = decimals.0.0; value = decimals.0.1 } }) else None

abbrev pub magnitude_from : Option Written → Result (Option ℕ × ℕ) RuleCode
magnitude_from (Some written) =
    Ok (Some (magnitude_of written.whole written.decimals.count written.decimals.value), written.decimals.count)
magnitude_from None = Err S9

-- the magnitude in columns 66 to 70, and the number of its decimals
unfoldable pub magnitude_in : List ℕ → Result (Option ℕ × ℕ) RuleCode
magnitude_in text = if are_blanks text then Ok (None, 0) else magnitude_from (written_in text)
