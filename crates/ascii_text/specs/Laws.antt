-- What holds of the texts themselves, whoever reads or writes them.
use Rattle.std.specs.Prelude.{◌≡◌, ℕ, ◌+◌, ◌^◌, ◌<◌, ◌≤◌, nat_lt, true, false, if◌then◌else◌, List, [], ◌∷◌, ◌++◌}
use Rattle.std.specs.Prelude.{length, decimal, slice_index, Option, Some, None}
use Rattle.std.specs.Char.{is_ascii_digit}
use Rattle.std.specs.Str.Parse.{AllDigits}
use Rattle.ascii_text.specs.declared.digits.Radix.{Radix}
use Rattle.ascii_text.specs.declared.digits.Radix.TheVariants.{Ten}
use Rattle.ascii_text.specs.Bytes.{blank, point}
use Rattle.ascii_text.specs.Blanks.{blanks, are_blanks, trimmed, trimmed_end, IsTrimmed}
use Rattle.ascii_text.specs.Digits.{base, digits_text, decimals_text, decimals_width}
use Rattle.ascii_text.specs.Judged.{IsReader}
use Rattle.ascii_text.specs.Reading.{digits_at, behind, digit_run, run_at, at_most, decimals_at, decimals_within}
use Rattle.ascii_text.specs.Reading.{number_at}
use Rattle.ascii_text.specs.DecimalNumbers.{IsSpelledNumber, number_parts_at}

-- the digits that were read, all that stand there
pub record TakesRun (text : List ℕ) (x : (ℕ × ℕ) × List ℕ) : Type 0 where
  pub some : 0 < x.0.0
  pub below : x.0.1 < 10 ^ x.0.0
  pub text_is : text ≡ digits_text Ten x.0.0 x.0.1 ++ x.1
  pub ends : digit_run x.1 ≡ 0

-- what a text is that decimals were read from
pub record TakesDecimals (text : List ℕ) (x : (ℕ × ℕ) × List ℕ) : Type 0 where
  pub below : x.0.1 < 10 ^ x.0.0
  pub text_is : text ≡ decimals_text x.0.0 x.0.1 ++ x.1

-- what a text is where decimals were read from it, or passed over
pub record TakesDecimalsWithin (most : ℕ) (text : List ℕ) (x : Option (ℕ × ℕ) × List ℕ) : Type 0 where
  pub count : ℕ
  pub value : ℕ
  pub below : value < 10 ^ count
  pub text_is : text ≡ decimals_text count value ++ x.1
  pub found : x.0 ≡ (if nat_lt most count then None else Some (count, value))

-- what a text is that a number without leading zeros was read from
pub record TakesNumber (most : ℕ) (text : List ℕ) (x : ℕ × List ℕ) : Type 0 where
  pub below : x.0 < 10 ^ most
  pub text_is : text ≡ decimal x.0 ++ x.1
  pub ends : digit_run x.1 ≡ 0

pub record TextLaws : Type 0 where
  -- A number of a fixed width is read as it was written, whatever follows it, and only what is written so is read.
  pub digits_again : (radix : Radix) (count n : ℕ) (rest : List ℕ) → n < base radix ^ count
      → digits_at radix count (digits_text radix count n ++ rest) ≡ Some (n, rest)
  pub digits_takes : (radix : Radix) (count : ℕ) (text : List ℕ) (n : ℕ) (rest : List ℕ) → digits_at radix count text
      ≡ Some (n, rest)
      → (text ≡ digits_text radix count n ++ rest) × (n < base radix ^ count)
  pub length-digits_text : (radix : Radix) (count n : ℕ) → length (digits_text radix count n) ≡ count
  -- one byte
  pub behind-cons : (byte : ℕ) (rest : List ℕ) → behind byte (byte ∷ rest) ≡ Some rest
  pub behind_takes : (byte : ℕ) (text rest : List ℕ) → behind byte text ≡ Some rest → text ≡ byte ∷ rest
  -- how many digits stand at the front
  pub digit_run-nil : digit_run [] ≡ 0
  pub digit_run-other : (byte : ℕ) (rest : List ℕ) → is_ascii_digit byte ≡ false → digit_run (byte ∷ rest) ≡ 0
  pub digit_run-all : (digits rest : List ℕ) → AllDigits 10 digits → digit_run (digits ++ rest)
      ≡ length digits + digit_run rest
  pub digit_run-blanks : (n : ℕ) → digit_run (blanks n) ≡ 0
  pub digit_run-digits_text : (count n : ℕ) (rest : List ℕ) → n < 10 ^ count
      → digit_run (digits_text Ten count n ++ rest) ≡ count + digit_run rest
  -- All the digits at the front are read as they were written.
  pub run_again : (count n : ℕ) (rest : List ℕ) → 0 < count → n < 10 ^ count → digit_run rest ≡ 0
      → run_at (digits_text Ten count n ++ rest) ≡ Some ((count, n), rest)
  pub run_takes : (text : List ℕ) (x : (ℕ × ℕ) × List ℕ) → run_at text ≡ Some x → TakesRun text x
  -- Decimals are read as they were written, where neither a digit nor a point follows, and only what is written so is
  -- read.
  pub decimals_again : (count value : ℕ) (rest : List ℕ) → value < 10 ^ count → digit_run rest ≡ 0
      → (slice_index rest 0 ≡ point → ⊥)
      → decimals_at (decimals_text count value ++ rest) ≡ Some ((count, value), rest)
  pub decimals_takes : (text : List ℕ) (x : (ℕ × ℕ) × List ℕ) → decimals_at text ≡ Some x → TakesDecimals text x
  pub length-decimals_text : (count value : ℕ) → length (decimals_text count value) ≡ decimals_width count
  -- The same of decimals of which at most this many are taken; where they are more, nothing stands in their place.
  pub decimals_within_again : (most count value : ℕ) (rest : List ℕ) → value < 10 ^ count → digit_run rest ≡ 0
      → (slice_index rest 0 ≡ point → ⊥)
      → decimals_within most (decimals_text count value ++ rest) ≡ at_most most ((count, value), rest)
  pub decimals_within_takes : (most : ℕ) (text : List ℕ) (x : Option (ℕ × ℕ) × List ℕ) → decimals_within most text
      ≡ Some x
      → TakesDecimalsWithin most text x
  -- A number without leading zeros is read as it was written, where no digit follows, and only what is written so is
  -- read.
  pub number_again : (most n : ℕ) (rest : List ℕ) → 0 < most → most ≤ 18 → n < 10 ^ most → digit_run rest ≡ 0
      → number_at most (decimal n ++ rest) ≡ Some (n, rest)
  pub number_takes : (most : ℕ) (text : List ℕ) (x : ℕ × List ℕ) → most ≤ 18 → number_at most text ≡ Some x
      → TakesNumber most text x
  -- A decimal number is read as it was written, and only what is written so is read.
  pub reads_number : (most : ℕ) → IsReader (IsSpelledNumber most) (number_parts_at most)
  -- blanks
  pub length-blanks : (n : ℕ) → length (blanks n) ≡ n
  pub are_blanks-blanks : (n : ℕ) → are_blanks (blanks n) ≡ true
  pub are_blanks_takes : (text : List ℕ) → are_blanks text ≡ true → text ≡ blanks (length text)
  pub no_point-blanks : (n : ℕ) → slice_index (blanks n) 0 ≡ point → ⊥
  -- What is trimmed is the one middle between blanks at both ends.
  pub trimmed_is : (text : List ℕ) → IsTrimmed text (trimmed text)
  pub trimmed_only : (text middle : List ℕ) → IsTrimmed text middle → trimmed text ≡ middle
  pub trimmed_end-blanks : (text : List ℕ) (n : ℕ) → trimmed_end (text ++ blanks n) ≡ trimmed_end text
  pub trimmed_end-other : (text : List ℕ) (byte : ℕ) → (byte ≡ blank → ⊥) → trimmed_end (text ++ byte ∷ [])
      ≡ text ++ byte ∷ []
