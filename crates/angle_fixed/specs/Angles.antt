-- Angles in units of 1/9,000,000,000,000 degree, and the sexagesimal texts that spell them.
use Rattle.std.specs.Prelude.{◌≡◌, ℕ, ◌+◌, ◌*◌, ◌/◌, ◌^◌, ◌<◌, Bool, true, false, ℤ, pos, neg_ℤ, List, ◌∷◌, ◌++◌}
use Rattle.ascii_text.specs.declared.digits.Radix.TheVariants.{Ten}
use Rattle.ascii_text.specs.Digits.{digits_text, decimals_text}
use Rattle.ascii_text.specs.Blanks.{blanks}

-- an hour of right ascension, 15 degrees
abbrev pub hour : ℕ
hour = 135000000000000

-- the sixtieth part of an hour
abbrev pub minute_of_time : ℕ
minute_of_time = 2250000000000

-- the sixtieth part of a minute of time
abbrev pub second_of_time : ℕ
second_of_time = 37500000000

-- a degree
abbrev pub degree : ℕ
degree = 9000000000000

-- the sixtieth part of a degree
abbrev pub arcminute : ℕ
arcminute = 150000000000

-- the sixtieth part of an arcminute
abbrev pub arcsecond : ℕ
arcsecond = 2500000000

-- 24 hours, 360 degrees
abbrev pub circle : ℕ
circle = 3240000000000000

-- 90 degrees
abbrev pub quarter : ℕ
quarter = 810000000000000

-- the parts of a sexagesimal text: hours or degrees, minutes, seconds, and the decimals of the seconds, as the number
-- of them and their value
pub record Parts : Type 0 where
  pub whole : ℕ
  pub minute : ℕ
  pub second : ℕ
  pub count : ℕ
  pub value : ℕ

-- the text of parts, with this many blanks after
unfoldable pub spelling : Parts → ℕ → List ℕ
spelling p space =
    digits_text Ten 2 p.whole ++ (32 ∷ (digits_text Ten 2 p.minute
    ++ (32 ∷ (digits_text Ten 2 p.second ++ (decimals_text p.count p.value ++ blanks space)))))

-- the text is two digits of hours or degrees, of minutes and of seconds with a blank between them, then the decimals if
-- there are any, then blanks
pub record IsSpelled (p : Parts) (text : List ℕ) : Type 0 where
  pub whole : p.whole < 100
  pub minute : p.minute < 100
  pub second : p.second < 100
  pub value : p.value < 10 ^ p.count
  pub space : ℕ
  pub text_is : text ≡ spelling p space

-- the byte of a sign, `+` or `-`
abbrev pub sign_byte : Bool → ℕ
sign_byte false = 43
sign_byte true = 45

-- the same after a sign; the first of the pair says whether it is a minus
abbrev pub IsSpelledSigned : Bool × Parts → List ℕ → Type 0
IsSpelledSigned p text = (rest : List ℕ) × (text ≡ sign_byte p.0 ∷ rest) × IsSpelled p.1 rest

-- the value of parts is the sum of each times its unit; a decimal's unit is a tenth of the one before it
abbrev pub sum_of_parts : ℕ → ℕ → ℕ → Parts → ℕ
sum_of_parts whole minute second p = p.whole * whole + p.minute * minute + p.second * second
    + p.value * (second / 10 ^ p.count)

-- the units of a right ascension
unfoldable pub time_units : Parts → ℕ
time_units p = sum_of_parts hour minute_of_time second_of_time p

-- the units of an angle
unfoldable pub arc_units : Parts → ℕ
arc_units p = sum_of_parts degree arcminute arcsecond p

-- a number with its sign
abbrev pub signed : Bool → ℕ → ℤ
signed false n = pos n
signed true n = neg_ℤ (pos n)
