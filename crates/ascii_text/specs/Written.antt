-- What contracts see of a decimal number that was read, of which this many decimals at most were worked out.
use Rattle.std.specs.Prelude.{ℕ, ◌==◌, if◌then◌else◌, List, length, Option, Some, None, option_map}
use Rattle.ascii_text.specs.declared.numbers.DecimalNumber.{DecimalNumber}
use Rattle.ascii_text.specs.Reading.{◌>>=◌, decimals_within}
use Rattle.ascii_text.specs.DecimalNumbers.{NumberParts, made_number, whole_at}

abbrev pub number_parts : DecimalNumber → NumberParts
number_parts n = record { digits = n.digits; whole = n.whole; count = n.decimals.count; value = n.decimals.value }

-- the parts that a text spells, or nothing in their place where there are more decimals than this
unfoldable pub number_within : ℕ → ℕ → List ℕ → Option (Option NumberParts)
number_within most few text = do
  whole ← whole_at most text
  decimals ← decimals_within few whole.1
  if length decimals.1 == 0 then Some (option_map (made_number whole.0) decimals.0) else None
