-- Steps of the last decimal: how many are nearest, and how they are carried into parts.
use Rattle.std.proofs.Common.{◌≡◌, ℕ, zero, suc, ◌+◌, ◌*◌, ◌/◌, ◌%◌, ◌^◌, ◌<◌, ◌≤◌, false, cond, eqb, refl, ap, ◌∙◌, inl, inr, arith}
use Rattle.std.proofs.lemmas.Bool.{eq-eqb, ne_eqb, cases_lt}
use Rattle.std.proofs.lemmas.Nat.{div_below, div-mul-add, mod-mul-add, mul-add-lt, div-add-mod'}
use Rattle.std.proofs.Math.Nat.{one-le-pow, mod-eq_of_lt, mod_self, mul_assoc, mul_comm, mul-lt-mul_of_pos_right}
use Rattle.angle_fixed.specs.Angles.{Parts, time_units, arc_units, second_of_time, arcsecond, circle, quarter}
use Rattle.angle_fixed.specs.Writing.{nearest, last_unit, parts_of}

pub power_of_ten_positive : (count : ℕ) → 0 < 10 ^ count
power_of_ten_positive count = omega (arith, one-le-pow count 10 (omega arith))

-- ---- the unit of the last decimal

-- a second is a whole number of units of this many decimals
pub record IsUnit (second count : ℕ) : Type 0 where
  pub some : 0 < last_unit second count
  pub whole : 10 ^ count * last_unit second count ≡ second

unit_of : (k count : ℕ) → 0 < k → count ≤ 3 → IsUnit (1000 * k) count
unit_of k zero some few = record { some = omega arith; whole = omega arith }
unit_of k (suc zero) some few = record { some = omega arith; whole = omega arith }
unit_of k (suc (suc zero)) some few = record { some = omega arith; whole = omega arith }
unit_of k (suc (suc (suc zero))) some few = record { some = omega arith; whole = omega arith }
unit_of k (suc (suc (suc (suc count)))) some few = absurd (omega arith)

pub unit_of_time : (count : ℕ) → count ≤ 3 → IsUnit second_of_time count
unit_of_time count few = unit_of 37500000 count (omega arith) few

pub unit_of_arc : (count : ℕ) → count ≤ 2 → IsUnit arcsecond count
unit_of_arc count few = unit_of 2500000 count (omega arith) (omega arith)

-- this many seconds in units of their last decimal
pub whole_units : (limit second count : ℕ) → IsUnit second count → limit * 10 ^ count * last_unit second count ≡ limit * second
whole_units limit second count unit = mul_assoc limit (10 ^ count) (last_unit second count) ∙ ap (λ (k : ℕ). limit * k) unit.whole

-- ---- the nearest step

-- a whole number of steps is nearest to itself
pub nearest-step : (n step : ℕ) → 0 < step → nearest (n * step) step ≡ n
nearest-step n step some =
    let twice : 2 * (n * step) + step ≡ n * (2 * step) + step = omega arith in
    ap (λ (k : ℕ). k / (2 * step)) twice ∙ div-mul-add n (2 * step) step (omega arith)

nearest-le : (value step n : ℕ) → 0 < step → value ≤ n * step → nearest value step ≤ n
nearest-le value step n some within =
    omega (arith, div_below (2 * value + step) (2 * step) (n + 1) (omega arith) (omega arith))

pub nearest_arc_within : (units count : ℕ) → count ≤ 2 → units ≤ quarter → nearest units (last_unit arcsecond count) ≤ 324000 * 10 ^ count
nearest_arc_within units count few within =
    let unit = unit_of_arc count few in
    nearest-le units (last_unit arcsecond count) (324000 * 10 ^ count) unit.some (omega (arith, whole_units 324000 arcsecond count unit))

pub nearest_time_within : (units count : ℕ) → count ≤ 3 → units < circle → nearest units (last_unit second_of_time count) ≤ 86400 * 10 ^ count
nearest_time_within units count few within =
    let unit = unit_of_time count few in
    nearest-le units (last_unit second_of_time count) (86400 * 10 ^ count) unit.some (omega (arith, whole_units 86400 second_of_time count unit))

-- ---- steps and parts

-- how many units of the last decimal parts are
abbrev pub steps_of : Parts → ℕ
steps_of p = ((p.whole * 60 + p.minute) * 60 + p.second) * 10 ^ p.count + p.value

pub steps_of-parts_of : (count steps : ℕ) → steps_of (parts_of count steps) ≡ steps
steps_of-parts_of count steps =
    let seconds : ℕ = steps / 10 ^ count in
    let carried : (seconds / 60 / 60 * 60 + seconds / 60 % 60) * 60 + seconds % 60 ≡ seconds = omega arith in
    ap (λ (k : ℕ). k * 10 ^ count + steps % 10 ^ count) carried ∙ div-add-mod' steps (10 ^ count)

pub parts_of-steps_of : (p : Parts) → p.minute ≤ 59 → p.second ≤ 59 → p.value < 10 ^ p.count → parts_of p.count (steps_of p) ≡ p
parts_of-steps_of p minute second value =
    let seconds : ℕ = (p.whole * 60 + p.minute) * 60 + p.second in
    let s : steps_of p / 10 ^ p.count ≡ seconds = div-mul-add seconds (10 ^ p.count) p.value value in
    let v : steps_of p % 10 ^ p.count ≡ p.value = mod-mul-add seconds (10 ^ p.count) p.value value in
    let third : seconds % 60 ≡ p.second = omega arith in
    let second : seconds / 60 % 60 ≡ p.minute = omega arith in
    let first : seconds / 60 / 60 ≡ p.whole = omega arith in
    rw (s, v, third, second, first) refl

-- parts below this many seconds are less than these in units of their last decimal
pub steps_below : (p : Parts) (limit : ℕ) → (p.whole * 60 + p.minute) * 60 + p.second < limit → p.value < 10 ^ p.count → steps_of p < limit * 10 ^ p.count
steps_below p limit seconds value =
    omega (arith, mul-add-lt ((p.whole * 60 + p.minute) * 60 + p.second) (10 ^ p.count) p.value limit seconds value, mul_comm limit (10 ^ p.count))

-- the value of parts, where a second is this many units of their last decimal
units-steps : (p : Parts) (second unit : ℕ) → 10 ^ p.count * unit ≡ second
    → p.whole * (3600 * second) + p.minute * (60 * second) + p.second * second + p.value * unit ≡ steps_of p * unit
units-steps p second unit is = rw (← is) (omega arith)

pub time_units-steps : (p : Parts) → p.count ≤ 3 → time_units p ≡ steps_of p * last_unit second_of_time p.count
unfolding time_units
time_units-steps p few = units-steps p second_of_time (last_unit second_of_time p.count) (unit_of_time p.count few).whole

pub arc_units-steps : (p : Parts) → p.count ≤ 2 → arc_units p ≡ steps_of p * last_unit arcsecond p.count
unfolding arc_units
arc_units-steps p few = units-steps p arcsecond (last_unit arcsecond p.count) (unit_of_arc p.count few).whole

-- ---- the day

-- steps of a whole day are none
pub day_of_steps : (n day step whole : ℕ) → n ≤ day → 0 < day → 0 < step → day * step ≡ whole → cond (eqb (n * step) whole) 0 (n * step) ≡ n % day * step
day_of_steps n day step whole within some_day some is =
    elim (cases_lt n day) [
      | inl less ↦
          let other : eqb (n * step) whole ≡ false = ne_eqb (n * step) whole (λ e. omega (arith, e, is, mul-lt-mul_of_pos_right less some)) in
          rw (other, mod-eq_of_lt less) refl
      | inr all ↦
          let same : n ≡ day = omega arith in
          rw (same, is, mod_self day, eq-eqb whole whole refl) (omega arith)
    ]
