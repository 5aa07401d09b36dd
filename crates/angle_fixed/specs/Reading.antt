-- Reading sexagesimal texts, and the faults of what they spell.
use Rattle.std.specs.Prelude.{ℕ, Bool, true, false, nat_lt, ◌||◌, ◌==◌, if◌then◌else◌, ℤ, List, [], ◌∷◌, Option, Some}
use Rattle.std.specs.Prelude.{None, Result, Ok, Err}
use Rattle.ascii_text.specs.declared.digits.Radix.TheVariants.{Ten}
use Rattle.ascii_text.specs.Blanks.{are_blanks}
use Rattle.ascii_text.specs.Reading.{◌>>=◌, digits_at, behind, decimals_at}
use Rattle.angle_fixed.specs.declared.fault.AngleFault.{AngleFault}
use Rattle.angle_fixed.specs.declared.fault.AngleFault.TheVariants.{Range, Decimals}
use Rattle.angle_fixed.specs.Angles.{Parts, time_units, arc_units, quarter, signed}

-- the parts that a text spells
unfoldable pub parts_at : List ℕ → Option Parts
parts_at text = do
  whole ← digits_at Ten 2 text
  minutes ← behind 32 whole.1
  minute ← digits_at Ten 2 minutes
  seconds ← behind 32 minute.1
  second ← digits_at Ten 2 seconds
  decimals ← decimals_at second.1
  if are_blanks decimals.1
      then Some (record {
        whole = whole.0;
        minute = minute.0;
        second = second.0;
        count = decimals.0.0;
        value = decimals.0.1;
      })
      else None

-- whether a sign is a minus, and the text after it
unfoldable pub sign_at : List ℕ → Option (Bool × List ℕ)
sign_at [] = None
sign_at (byte ∷ text) = if byte == 43 then Some (false, text) else (if byte == 45 then Some (true, text) else None)

-- the sign and the parts that a text spells
unfoldable pub signed_parts_at : List ℕ → Option (Bool × Parts)
signed_parts_at text = do
  sign ← sign_at text
  parts ← parts_at sign.1
  Some (sign.0, parts)

-- minutes and seconds are below 60
abbrev pub past_sixty : Parts → Bool
past_sixty p = nat_lt 59 p.minute || nat_lt 59 p.second

-- What spells a right ascension: more than three decimals are too many; then hours go up to 23, minutes and seconds up
-- to
-- 59. It is given with the number of its decimals.
unfoldable pub time_answer : Parts → Result (ℕ × ℕ) AngleFault
time_answer p =
    if nat_lt 3 p.count then Err Decimals
    else (if nat_lt 23 p.whole || past_sixty p then Err Range
    else Ok (time_units p, p.count))

-- What spells a declination: more than two decimals are too many; then minutes and seconds go up to 59, and the value
-- up to 90 degrees either way. It is given with the number of its decimals, and whether a minus stands before it.
unfoldable pub arc_answer : Bool × Parts → Result (ℤ × ℕ × Bool) AngleFault
arc_answer p =
    if nat_lt 2 p.1.count then Err Decimals
    else (if past_sixty p.1 || nat_lt quarter (arc_units p.1) then Err Range
    else Ok (signed p.0 (arc_units p.1), p.1.count, p.0))
