-- The magnitude of a data line, in units of 0.000001.
use Rattle.std.specs.Prelude.{◌≡◌, ℕ, ◌≤◌, nat_le, if◌then◌else◌, List, Option, Some, None, option_map, Result, Ok, Err}
use Rattle.ascii_text.specs.DecimalNumbers.{NumberParts, IsSpelledNumber, number_parts_at, within}
use Rattle.obs_record.specs.Magnitudes.{magnitude_of, greatest_magnitude}
use Rattle.obs_record.specs.declared.rule.RuleCode.{RuleCode}
use Rattle.obs_record.specs.declared.rule.RuleCode.TheVariants.{S9}
use Rattle.ades_psv.specs.Optional.{unless_empty}

-- the text is this magnitude, of at most 99.99, with this many decimals
pub record IsMagnitude (text : List ℕ) (read : ℕ × ℕ) : Type 0 where
  -- 1 or 2 digits, then a point and at most six decimals or nothing
  pub parts : NumberParts
  pub spelled : IsSpelledNumber 2 parts text
  pub few : parts.count ≤ 6
  pub value : read.0 ≡ magnitude_of parts.whole parts.count parts.value
  pub below : read.0 ≤ greatest_magnitude
  pub places : read.1 ≡ parts.count

-- the value of a magnitude, and the number of its decimals, where there is one
abbrev pub value_of : Option (ℕ × ℕ) → Option ℕ
value_of None = None
value_of (Some read) = Some read.0

abbrev pub places_of : Option (ℕ × ℕ) → ℕ
places_of None = 0
places_of (Some read) = read.1

-- ---- reading it

-- the magnitude of these parts
abbrev pub magnitude_from : Option (Option NumberParts) → Result (ℕ × ℕ) RuleCode
magnitude_from None = Err S9
magnitude_from (Some None) = Err S9
magnitude_from (Some (Some p)) =
    if nat_le (magnitude_of p.whole p.count p.value) greatest_magnitude
    then Ok (magnitude_of p.whole p.count p.value, p.count) else Err S9

-- the magnitude in a field
unfoldable pub magnitude_in : List ℕ → Result (Option (ℕ × ℕ)) RuleCode
magnitude_in text = unless_empty text (magnitude_from (option_map (λ p. within 6 p) (number_parts_at 2 text)))
