-- Decimals of a day or of a second.
use Rattle.std.proofs.Common.{◌≡◌, ℕ, ◌+◌, ◌-◌, ◌*◌, ◌^◌, ◌<◌, ◌≤◌, inl, inr, sym, ap, ◌∙◌, arith}
use Rattle.std.proofs.Math.Nat.{one-le-pow, mul_assoc, mul_comm, div-eq_of_eq-mul_left, eq_of_mul-eq-mul_right, mul-lt-mul_of_pos_right, eq-zero-or-pos}
use Rattle.std.proofs.lemmas.Nat.{pow-add}
use Rattle.obs_time.specs.Instants.{nanos_of_a_day}
use Rattle.obs_time.specs.DayText.{decimal_unit}

-- a power of ten is not 0
pub ten_pow_positive : (count : ℕ) → 0 < 10 ^ count
ten_pow_positive count = one-le-pow count 10 (omega arith)

-- a day is a whole number of units of up to six decimals
day_in_units : (count : ℕ) → count ≤ 6 → nanos_of_a_day ≡ (86_400_000 * 10 ^ (6 - count)) * 10 ^ count
day_in_units count h =
    let six : 6 - count + count ≡ 6 = omega arith in
    let power : 10 ^ (6 - count) * 10 ^ count ≡ 1_000_000 = sym (pow-add 10 (6 - count) count) ∙ ap (λ (k : ℕ). 10 ^ k) six in
    sym (mul_assoc 86_400_000 (10 ^ (6 - count)) (10 ^ count) ∙ ap (λ (k : ℕ). 86_400_000 * k) power)

pub unit_whole : (count : ℕ) → count ≤ 6 → decimal_unit count * 10 ^ count ≡ nanos_of_a_day
unit_whole count h =
    let whole = day_in_units count h in
    ap (λ (k : ℕ). k * 10 ^ count) (div-eq_of_eq-mul_left (ten_pow_positive count) whole) ∙ sym whole

-- ---- decimals of a whole, a day or a second, that is this many units

-- they are less than the whole
pub decimals_below : (decimals count unit whole : ℕ) → unit * 10 ^ count ≡ whole → 0 < whole → decimals < 10 ^ count → decimals * unit < whole
decimals_below decimals count unit whole units some below =
    elim (eq-zero-or-pos unit) [
      | inl none ↦ rw none (omega arith)
      | inr positive ↦ omega (arith, mul-lt-mul_of_pos_right below positive, mul_comm unit (10 ^ count))
    ]

pub decimals_exact : (decimals count unit whole : ℕ) → unit * 10 ^ count ≡ whole → decimals * unit * 10 ^ count ≡ decimals * whole
decimals_exact decimals count unit whole units = mul_assoc decimals unit (10 ^ count) ∙ ap (λ (k : ℕ). decimals * k) units

-- the nanoseconds of decimals are those that multiplied give the decimals of wholes
pub decimals_are : (decimals count unit whole ns : ℕ) → unit * 10 ^ count ≡ whole → ns * 10 ^ count ≡ decimals * whole → ns ≡ decimals * unit
decimals_are decimals count unit whole ns units part =
    eq_of_mul-eq-mul_right (10 ^ count) (ten_pow_positive count) ns (decimals * unit) (part ∙ sym (decimals_exact decimals count unit whole units))

-- a unit is not 0
pub unit_positive : (count : ℕ) → count ≤ 6 → 0 < decimal_unit count
unit_positive count h =
    let whole = unit_whole count h in
    elim (eq-zero-or-pos (decimal_unit count)) [
      | inl none ↦ absurd (omega (arith, ap (λ (k : ℕ). k * 10 ^ count) none))
      | inr some ↦ some
    ]
