-- What is read from a text is a right ascension below the circle, or a declination of at most 90 degrees either way.
use Rattle.std.proofs.Common.{◌≡◌, ℕ, ◌*◌, ◌^◌, ◌<◌, ◌≤◌, Bool, true, false, ℤ, pos, neg_ℤ, ◌≤ℤ◌, List, Ok, sym, ap, subst, arith}
use Rattle.std.proofs.Math.Nat.{mul-lt-mul_of_pos_right}
use Rattle.std.proofs.lemmas.Int.{ints}
use Rattle.angle_fixed.specs.Angles.{Parts, IsSpelled, second_of_time, circle, quarter, signed, time_units, arc_units}
use Rattle.angle_fixed.specs.Answer.{IsOnClock, ReadsTime, ReadsArc}
use Rattle.angle_fixed.specs.Degrees.{ReadsRaDegrees, ReadsDecDegrees}
use Rattle.angle_fixed.proofs.Rounding.{unit_of_time, whole_units, steps_of, steps_below, time_units-steps}

-- a time of the day with up to three decimals is less than a day
units_below : (p : Parts) (text : List ℕ) → IsSpelled p text → p.count ≤ 3 → IsOnClock p → time_units p < circle
units_below p text spelled few clock =
    let unit = unit_of_time p.count few in
    let steps : steps_of p < 86400 * 10 ^ p.count = steps_below p 86400 (omega (arith, clock.hour, clock.minute, clock.second)) spelled.value in
    omega (arith, time_units-steps p few, mul-lt-mul_of_pos_right steps unit.some, whole_units 86400 second_of_time p.count unit)

-- a number of at most so much, with its sign
signed_within : (minus : Bool) (n : ℕ) (dec : ℤ) → n ≤ quarter → dec ≡ signed minus n → (neg_ℤ (pos quarter) ≤ℤ dec) × (dec ≤ℤ pos quarter)
signed_within false n dec within is = rw is (omega (arith, ints), omega (arith, ints))
signed_within true n dec within is = rw is (omega (arith, ints), omega (arith, ints))

pub time_within : (text : List ℕ) (ra count : ℕ) → ReadsTime text (Ok (ra, count)) → ra < circle
time_within text ra count is =
    subst (λ (n : ℕ). n < circle) (sym (ap (λ (x : ℕ × ℕ). x.0) is.4)) (units_below is.0 text is.1 is.2 is.3)

pub arc_within : (text : List ℕ) (dec : ℤ) (count : ℕ) (minus : Bool) → ReadsArc text (Ok (dec, count, minus))
    → (neg_ℤ (pos quarter) ≤ℤ dec) × (dec ≤ℤ pos quarter)
arc_within text dec count minus is =
    let quartered = is.3 in signed_within is.0.0 (arc_units is.0.1) dec quartered.units (ap (λ (x : ℤ × ℕ × Bool). x.0) is.4)

pub ra_degrees_within : (text : List ℕ) (ra : ℕ) → ReadsRaDegrees text (Ok ra) → ra < circle
ra_degrees_within text ra is = subst (λ (n : ℕ). n < circle) (sym is.4) is.3

pub dec_degrees_within : (text : List ℕ) (dec : ℤ) → ReadsDecDegrees text (Ok dec) → (neg_ℤ (pos quarter) ≤ℤ dec) × (dec ≤ℤ pos quarter)
dec_degrees_within text dec is = signed_within is.0.0 _ dec is.3 is.4
