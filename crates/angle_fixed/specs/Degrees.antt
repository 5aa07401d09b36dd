-- Right ascension and declination in degrees with decimals: what a text spells, what it is worth, and which answer of a
-- reader is right.
use Rattle.std.specs.Prelude.{◌≡◌, ℕ, ◌+◌, ◌-◌, ◌*◌, ◌/◌, ◌%◌, ◌^◌, ◌<◌, ◌≤◌, Bool, true, false, nat_lt, nat_le, ◌==◌}
use Rattle.std.specs.Prelude.{if◌then◌else◌, ◌⊎◌, ℤ, nat_abs, List, [], ◌∷◌, ◌++◌, Option, Some, Result, Ok, Err}
use Rattle.ascii_text.specs.Blanks.{blanks}
use Rattle.ascii_text.specs.Judged.{answer_of}
use Rattle.ascii_text.specs.Reading.{◌>>=◌}
use Rattle.ascii_text.specs.DecimalNumbers.{NumberParts, IsSpelledNumber, number_spelling, number_parts_at}
use Rattle.angle_fixed.specs.declared.fault.AngleFault.{AngleFault}
use Rattle.angle_fixed.specs.declared.fault.AngleFault.TheVariants.{Spelling, Range, Decimals}
use Rattle.angle_fixed.specs.Angles.{circle, degree, quarter, sign_byte, signed}
use Rattle.angle_fixed.specs.Writing.{nearest, is_negative}

-- the text is a decimal number after a sign, where the first of the pair says whether it is a minus; or without a
-- sign, which is no minus
abbrev pub IsSpelledSignedDegrees : ℕ → Bool × NumberParts → List ℕ → Type 0
IsSpelledSignedDegrees most p text =
    ((rest : List ℕ) × (text ≡ sign_byte p.0 ∷ rest) × IsSpelledNumber most p.1 rest)
    ⊎ ((p.0 ≡ false) × IsSpelledNumber most p.1 text)

-- the value of parts, in units of 1/9,000,000,000,000 degree: each decimal's unit is a tenth of the one before it
unfoldable pub degree_units : NumberParts → ℕ
degree_units p = p.whole * degree + p.value * (degree / 10 ^ p.count)

-- ---- reading

-- whether a minus stands at the front, and the text after the sign; the sign may be left out
unfoldable pub past_sign : List ℕ → Bool × List ℕ
past_sign [] = (false, [])
past_sign (byte ∷ text) = if byte == 43 then (false, text)
    else (if byte == 45 then (true, text) else (false, byte ∷ text))

-- the sign and the parts that a text spells
unfoldable pub signed_degrees_at : ℕ → List ℕ → Option (Bool × NumberParts)
signed_degrees_at most text = do
  parts ← number_parts_at most (past_sign text).1
  Some ((past_sign text).0, parts)

-- a right ascension is below 360 degrees
abbrev pub ra_within : NumberParts → Result ℕ AngleFault
ra_within p = if nat_le circle (degree_units p) then Err Range else Ok (degree_units p)

-- a declination is at most 90 degrees either way
abbrev pub dec_within : Bool × NumberParts → Result ℤ AngleFault
dec_within p = if nat_lt quarter (degree_units p.1) then Err Range else Ok (signed p.0 (degree_units p.1))

-- what spells a right ascension: more than twelve decimals are too many, then it is to be in range
unfoldable pub ra_degrees_answer : NumberParts → Result ℕ AngleFault
ra_degrees_answer p = if nat_lt 12 p.count then Err Decimals else ra_within p

-- the same of a declination
unfoldable pub dec_degrees_answer : Bool × NumberParts → Result ℤ AngleFault
dec_degrees_answer p = if nat_lt 12 p.1.count then Err Decimals else dec_within p

-- the right ascension of a text, in units, or the first fault: up to three digits stand before the point
unfoldable pub ra_degrees_of : List ℕ → Result ℕ AngleFault
ra_degrees_of text = answer_of ra_degrees_answer Spelling (number_parts_at 3 text)

-- the declination of a text, in units, or the first fault: a sign or none, and up to two digits before the point
unfoldable pub dec_degrees_of : List ℕ → Result ℤ AngleFault
dec_degrees_of text = answer_of dec_degrees_answer Spelling (signed_degrees_at 2 text)

-- ---- which answer is right

-- A right ascension is what the text spells, where it has at most twelve decimals and is below 360 degrees. Where no
-- parts are spelled, the spelling is wrong; where there are more decimals, they are too many; where it is 360 degrees
-- or more, it is out of range.
abbrev pub ReadsRaDegrees : List ℕ → Result ℕ AngleFault → Type 0
ReadsRaDegrees text (Ok units) =
    (p : NumberParts) × IsSpelledNumber 3 p text × (p.count ≤ 12) × (degree_units p < circle) × (units ≡ degree_units p)
ReadsRaDegrees text (Err Spelling) = (p : NumberParts) → IsSpelledNumber 3 p text → ⊥
ReadsRaDegrees text (Err Decimals) = (p : NumberParts) × IsSpelledNumber 3 p text × (12 < p.count)
ReadsRaDegrees text (Err Range) = (p : NumberParts) × IsSpelledNumber 3 p text × (p.count ≤ 12)
    × (circle ≤ degree_units p)

-- A declination is what the text spells, with its sign, where it has at most twelve decimals and is at most 90 degrees
-- either way. The faults are as above.
abbrev pub ReadsDecDegrees : List ℕ → Result ℤ AngleFault → Type 0
ReadsDecDegrees text (Ok units) =
    (p : Bool × NumberParts) × IsSpelledSignedDegrees 2 p text × (p.1.count ≤ 12) × (degree_units p.1 ≤ quarter)
    × (units ≡ signed p.0 (degree_units p.1))
ReadsDecDegrees text (Err Spelling) = (p : Bool × NumberParts) → IsSpelledSignedDegrees 2 p text → ⊥
ReadsDecDegrees text (Err Decimals) = (p : Bool × NumberParts) × IsSpelledSignedDegrees 2 p text × (12 < p.1.count)
ReadsDecDegrees text (Err Range) = (p : Bool × NumberParts) × IsSpelledSignedDegrees 2 p text × (p.1.count ≤ 12)
    × (quarter < degree_units p.1)

-- ---- writing

-- the unit of the twelfth decimal of a degree; it is odd, so that no value lies midway between two of its multiples
abbrev pub twelfth_decimal : ℕ
twelfth_decimal = 9

-- the parts of this many units of the twelfth decimal, with this many digits before the point
abbrev pub twelve_decimals : ℕ → ℕ → NumberParts
twelve_decimals digits steps = record { digits = digits; whole = steps / 10 ^ 12; count = 12; value = steps % 10 ^ 12 }

-- how many digits a number of degrees has without leading zeros
abbrev pub plain_digits : ℕ → ℕ
plain_digits whole = if nat_lt whole 10 then 1 else (if nat_lt whole 100 then 2 else 3)

-- the units of the twelfth decimal that are nearest to a right ascension, within the circle
abbrev pub ra_steps : ℕ → ℕ
ra_steps units = nearest units twelfth_decimal % (360 * 10 ^ 12)

-- a right ascension rounded to the twelfth decimal; 360 degrees are 0
unfoldable pub rounded_ra_degrees : ℕ → ℕ
rounded_ra_degrees units = (nearest units twelfth_decimal * twelfth_decimal) % circle

-- the written text of a right ascension, sixteen bytes: twelve decimals, no leading zeros, and blanks on the right
unfoldable pub ra_degrees_text : ℕ → List ℕ
ra_degrees_text units =
    let digits = plain_digits (ra_steps units / 10 ^ 12) in
    number_spelling (twelve_decimals digits (ra_steps units)) ++ blanks (3 - digits)

-- a declination rounded to the twelfth decimal
unfoldable pub rounded_dec_degrees : ℤ → ℤ
rounded_dec_degrees units = signed (is_negative units) (nearest (nat_abs units) twelfth_decimal * twelfth_decimal)

-- the written text of a declination, sixteen bytes: a minus exactly before a value below zero, two digits, twelve
-- decimals
unfoldable pub dec_degrees_text : ℤ → List ℕ
dec_degrees_text units =
    sign_byte (is_negative units) ∷ number_spelling (twelve_decimals 2 (nearest (nat_abs units) twelfth_decimal))
