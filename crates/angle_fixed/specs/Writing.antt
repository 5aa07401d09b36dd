-- The written text of an angle: its value rounded to the last decimal, spelled with as many decimals.
use Rattle.std.specs.Prelude.{ℕ, zero, suc, ◌+◌, ◌-◌, ◌*◌, ◌/◌, ◌%◌, ◌^◌, Bool, true, false, ◌==◌, if◌then◌else◌, ℤ}
use Rattle.std.specs.Prelude.{pos, negsuc, nat_abs, List, ◌∷◌}
use Rattle.ascii_text.specs.Digits.{decimals_width}
use Rattle.angle_fixed.specs.Angles.{Parts, spelling, sign_byte, signed, circle, second_of_time, arcsecond}

-- how many steps are nearest to a value; of two that are equally near the greater
abbrev pub nearest : ℕ → ℕ → ℕ
nearest value step = (2 * value + step) / (2 * step)

-- the unit of the last of this many decimals of a second
abbrev pub last_unit : ℕ → ℕ → ℕ
last_unit second count = second / 10 ^ count

-- the parts of this many units of the last decimal, carried into seconds, minutes and hours or degrees
abbrev pub parts_of : ℕ → ℕ → Parts
parts_of count steps = record {
  whole = steps / 10 ^ count / 60 / 60;
  minute = steps / 10 ^ count / 60 % 60;
  second = steps / 10 ^ count % 60;
  count = count;
  value = steps % 10 ^ count;
}

-- a right ascension rounded to its last decimal, half away from zero; 24 hours are 0
unfoldable pub rounded_time : ℕ → ℕ → ℕ
rounded_time units count =
    let rounded = nearest units (last_unit second_of_time count) * last_unit second_of_time count in
    if rounded == circle then 0 else rounded

-- the written text of a right ascension, twelve bytes
unfoldable pub time_text : ℕ → ℕ → List ℕ
time_text units count =
    spelling (parts_of count (nearest units (last_unit second_of_time count) % (86400 * 10 ^ count)))
    (4 - decimals_width count)

-- whether a number is below zero
abbrev pub is_negative : ℤ → Bool
is_negative (pos n) = false
is_negative (negsuc n) = true

-- whether a minus is written: before a value below zero, and before zero where a minus is asked for
abbrev pub has_minus : ℤ → Bool → Bool
has_minus (negsuc n) minus = true
has_minus (pos zero) minus = minus
has_minus (pos (suc n)) minus = false

-- a declination rounded to its last decimal, half away from zero
unfoldable pub rounded_arc : ℤ → ℕ → ℤ
rounded_arc units count = signed (is_negative units) (nearest (nat_abs units)
    (last_unit arcsecond count) * last_unit arcsecond count)

-- the written text of a declination, twelve bytes
unfoldable pub arc_text : ℤ → ℕ → Bool → List ℕ
arc_text units count minus =
    sign_byte (has_minus units minus) ∷ spelling (parts_of count (nearest (nat_abs units) (last_unit arcsecond count)))
    (3 - decimals_width count)
