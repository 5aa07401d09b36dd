-- What is written reads as the rounded value, and what was read is written again.
use Rattle.std.proofs.Common.{◌≡◌, ℕ, zero, suc, ◌+◌, ◌-◌, ◌*◌, ◌/◌, ◌%◌, ◌^◌, ◌<◌, ◌≤◌, Bool, true, false, List, ◌∷◌, length, Ok, ℤ, pos, negsuc, nat_abs, refl, sym, ap, ◌∙◌, arith}
use Rattle.std.proofs.lemmas.List.{length-append}
use Rattle.std.proofs.Math.Nat.{mod-eq_of_lt, mul-le-mul_right}
use Rattle.std.proofs.lemmas.Nat.{mod_below, div_below}
use Rattle.ascii_text.specs.declared.digits.Radix.TheVariants.{Ten}
use Rattle.ascii_text.specs.Digits.{decimals_width}
use Rattle.angle_fixed.specs.Angles.{Parts, IsSpelled, spelling, sign_byte, signed, time_units, arc_units, circle, quarter, second_of_time, arcsecond}
use Rattle.angle_fixed.specs.Answer.{IsOnClock, IsWithinQuarter, ReadsTime, ReadsArc}
use Rattle.angle_fixed.specs.Writing.{nearest, last_unit, parts_of, rounded_time, time_text, is_negative, has_minus, rounded_arc, arc_text}
use Rattle.angle_fixed.proofs.Rounding.{power_of_ten_positive, nearest_time_within, nearest_arc_within, nearest-step, steps_of, steps_of-parts_of, parts_of-steps_of, steps_below, time_units-steps, arc_units-steps, unit_of_time, unit_of_arc, whole_units, day_of_steps}
use Rattle.ascii_text.specs.Laws.{TextLaws}

-- a carried number of seconds below a limit in hours or degrees
carried_below : (count steps limit : ℕ) → steps < limit * 3600 * 10 ^ count → steps / 10 ^ count / 60 / 60 < limit
carried_below count steps limit below =
    omega (arith, div_below steps (10 ^ count) (limit * 3600) (power_of_ten_positive count) below)

spelled_parts : (count steps space : ℕ) (text : List ℕ) → steps < 100 * 3600 * 10 ^ count → text ≡ spelling (parts_of count steps) space → IsSpelled (parts_of count steps) text
spelled_parts count steps space text below is = record {
  whole = carried_below count steps 100 below;
  minute = omega arith;
  second = omega arith;
  value = mod_below steps (10 ^ count) (power_of_ten_positive count);
  space = space;
  text_is = is;
}

-- ---- right ascensions

-- What is written is read as the rounded right ascension.
pub time_text_reads : (units count : ℕ) → count ≤ 3 → units < circle → ReadsTime (time_text units count) (Ok (rounded_time units count, count))
unfolding time_text rounded_time
time_text_reads units count few within =
    let unit = unit_of_time count few in
    let step : ℕ = last_unit second_of_time count in
    let near : ℕ = nearest units step in
    let day : ℕ = 86400 * 10 ^ count in
    let some : 0 < day = omega (arith, power_of_ten_positive count) in
    let below : near % day < day = mod_below near day some in
    let value : time_units (parts_of count (near % day)) ≡ near % day * step = time_units-steps (parts_of count (near % day)) few ∙ ap (λ (k : ℕ). k * step) (steps_of-parts_of count (near % day)) in
    let rounded = day_of_steps near day step circle (nearest_time_within units count few within) some unit.some (whole_units 86400 second_of_time count unit) in
    (parts_of count (near % day), spelled_parts count (near % day) (4 - decimals_width count) _ (omega arith) refl, few, record { hour = omega (arith, carried_below count (near % day) 24 (omega arith)); minute = omega arith; second = omega arith }, ap (λ (k : ℕ). (k, count)) (rounded ∙ sym value))

time_text_of : (p : Parts) → p.count ≤ 3 → IsOnClock p → p.value < 10 ^ p.count → time_text (time_units p) p.count ≡ spelling p (4 - decimals_width p.count)
unfolding time_text
time_text_of p few clock value =
    let day : ℕ = 86400 * 10 ^ p.count in
    let below : steps_of p < day = steps_below p 86400 (omega (arith, clock.hour, clock.minute, clock.second)) value in
    rw (time_units-steps p few, nearest-step (steps_of p) (last_unit second_of_time p.count) (unit_of_time p.count few).some, mod-eq_of_lt below, parts_of-steps_of p clock.minute clock.second value) refl

-- ---- declinations

pub nat_abs-signed : (minus : Bool) (n : ℕ) → nat_abs (signed minus n) ≡ n
nat_abs-signed false n = refl
nat_abs-signed true zero = refl
nat_abs-signed true (suc n) = refl

has_minus-signed : (minus : Bool) (n : ℕ) → has_minus (signed minus n) minus ≡ minus
has_minus-signed false zero = refl
has_minus-signed false (suc n) = refl
has_minus-signed true zero = refl
has_minus-signed true (suc n) = refl

-- the sign that is written is the sign of what is rounded, or stands before zero
written_sign : (units : ℤ) (minus : Bool) (step : ℕ) → 0 < step → signed (is_negative units) (nearest (nat_abs units) step * step) ≡ signed (has_minus units minus) (nearest (nat_abs units) step * step)
written_sign (negsuc n) minus step some = refl
written_sign (pos (suc n)) minus step some = refl
written_sign (pos zero) false step some = refl
written_sign (pos zero) true step some =
    let zero_steps : 0 * step ≡ 0 = omega arith in
    rw (rw zero_steps at (nearest-step 0 step some), zero_steps) refl

-- What is written is read as the rounded declination, with the sign that is written.
pub arc_text_reads : (units : ℤ) (count : ℕ) (minus : Bool) → count ≤ 2 → nat_abs units ≤ quarter → ReadsArc (arc_text units count minus) (Ok (rounded_arc units count, count, has_minus units minus))
unfolding arc_text rounded_arc
arc_text_reads units count minus few within =
    let unit = unit_of_arc count few in
    let step : ℕ = last_unit arcsecond count in
    let near : ℕ = nearest (nat_abs units) step in
    let below : near ≤ 324000 * 10 ^ count = nearest_arc_within (nat_abs units) count few within in
    let value : arc_units (parts_of count near) ≡ near * step = arc_units-steps (parts_of count near) few ∙ ap (λ (k : ℕ). k * step) (steps_of-parts_of count near) in
    let largest : near * step ≤ quarter = omega (arith, mul-le-mul_right step below, whole_units 324000 arcsecond count unit) in
    ((has_minus units minus, parts_of count near), (_, refl, spelled_parts count near (3 - decimals_width count) _ (omega (arith, power_of_ten_positive count)) refl), few, record { minute = omega arith; second = omega arith; units = omega (arith, value, largest) }, ap (λ (z : ℤ). (z, count, has_minus units minus)) (written_sign units minus step unit.some ∙ ap (λ (k : ℕ). signed (has_minus units minus) k) (sym value)))

arc_text_of : (minus : Bool) (p : Parts) → p.count ≤ 2 → IsWithinQuarter p → p.value < 10 ^ p.count → arc_text (signed minus (arc_units p)) p.count minus ≡ sign_byte minus ∷ spelling p (3 - decimals_width p.count)
unfolding arc_text
arc_text_of minus p few range value =
    rw (nat_abs-signed minus (arc_units p), has_minus-signed minus (arc_units p), arc_units-steps p few, nearest-step (steps_of p) (last_unit arcsecond p.count) (unit_of_arc p.count few).some, parts_of-steps_of p range.minute range.second value) refl

module _ (texts : TextLaws) where
  open texts use {length-blanks, length-digits_text, length-decimals_text}

  -- what is spelled has as many blanks after it as twelve bytes leave
  rest_of_twelve : (p : Parts) (space front : ℕ) (text : List ℕ) → text ≡ spelling p space → length text + front ≡ 12 → space ≡ 4 - front - decimals_width p.count
  unfolding spelling
  rest_of_twelve p space front text is wide =
      omega (arith, ap length is, length-append {A = ℕ}, length-digits_text Ten 2 p.whole, length-digits_text Ten 2 p.minute, length-digits_text Ten 2 p.second, length-decimals_text p.count p.value, length-blanks space)

  -- What was read is written again.
  pub time_text_again : (text : List ℕ) (units count : ℕ) → length text ≡ 12 → ReadsTime text (Ok (units, count)) → time_text units count ≡ text
  time_text_again text units count wide right =
      let p : Parts = right.0 in
      let space : right.1.space ≡ 4 - decimals_width p.count = omega (arith, rest_of_twelve p right.1.space 0 text right.1.text_is (omega (arith, wide))) in
      ap (λ (x : ℕ × ℕ). time_text x.0 x.1) right.4 ∙ time_text_of p right.2 right.3 right.1.value ∙ ap (λ (n : ℕ). spelling p n) (sym space) ∙ sym right.1.text_is

  -- What was read is written again, with the minus that stood before zero.
  pub arc_text_again : (text : List ℕ) (units : ℤ) (count : ℕ) (minus : Bool) → length text ≡ 12 → ReadsArc text (Ok (units, count, minus)) → arc_text units count minus ≡ text
  arc_text_again text units count minus wide right =
      let p : Parts = right.0.1 in
      let spelled : IsSpelled p right.1.0 = right.1.2 in
      let space : spelled.space ≡ 3 - decimals_width p.count = omega (arith, rest_of_twelve p spelled.space 1 right.1.0 spelled.text_is (omega (arith, wide, ap length right.1.1))) in
      ap (λ (x : ℤ × ℕ × Bool). arc_text x.0 x.1 x.2) right.4 ∙ arc_text_of right.0.0 p right.2 right.3 spelled.value
      ∙ ap (λ (n : ℕ). sign_byte right.0.0 ∷ spelling p n) (sym space) ∙ ap (λ (t : List ℕ). sign_byte right.0.0 ∷ t) (sym spelled.text_is) ∙ sym right.1.1
