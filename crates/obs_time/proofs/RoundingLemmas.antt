-- Rounding to the nearest multiple.
use Rattle.std.proofs.Common.{◌≡◌, ℕ, zero, suc, ◌+◌, ◌-◌, ◌*◌, ◌/◌, ◌^◌, ◌<◌, ◌≤◌, inl, inr, refl, sym, ap, ◌∙◌, arith, ℤ, pos, negsuc, neg_ℤ, ◌-ℤ◌, ◌*ℤ◌, unsigned_abs, mul-le-mul_right, suc-mul, mul_assoc, mul_comm, add-mul, zero-mul}
use Rattle.std.proofs.Math.Nat.{mul-sub, mul-div_cancel_left}
use Rattle.std.proofs.lemmas.Bool.{cases_order}
use Rattle.std.proofs.lemmas.Nat.{div_below}
use Rattle.jiff_core.proofs.SignedLemmas.{signed_arith, one_part}
use Rattle.obs_time.specs.Instants.{nanos_of_a_day}
use Rattle.obs_time.specs.Dates.{moment}
use Rattle.obs_time.specs.DayText.{decimal_unit}
use Rattle.obs_time.proofs.DayLemmas.{unit_whole, unit_positive}
use Rattle.obs_time.specs.Rounding.{distance, nearest_multiple, rounded, IsNearest}

-- how far two numbers lie from each other
abbrev gap : ℕ → ℕ → ℕ
gap m n = (m - n) + (n - m)

-- a multiple lies at another one, or a unit away from it
apart : (j k unit : ℕ) → j < k → j * unit + unit ≤ k * unit
apart j k unit h = omega (arith, mul-le-mul_right {m = suc j} {n = k} unit h, suc-mul j unit)

-- the nearest multiple is no farther than another one, and the greater of two equally near ones
near : (n unit k : ℕ) → 0 < unit → (gap n (nearest_multiple n unit) ≤ gap n (k * unit)) × (gap n (k * unit) ≡ gap n (nearest_multiple n unit) → k * unit ≤ nearest_multiple n unit)
near n unit k positive =
    let q = (n + unit / 2) / unit in
    elim (cases_order k q) [
      | inl same ↦ (rw same (omega arith), λ tie. rw same (omega arith))
      | inr (inl below) ↦ (omega (arith, apart k q unit below), λ tie. omega (arith, apart k q unit below))
      | inr (inr above) ↦ (omega (arith, apart q k unit above), λ tie. absurd (omega (arith, apart q k unit above)))
    ]

near_other : (n unit : ℕ) → 0 < unit → gap n (nearest_multiple n unit) ≤ n
near_other n unit positive = omega (arith, (near n unit 0 positive).0)

-- distances of signed numbers, by their sizes
distance_pos : (m n : ℕ) → distance (pos m) (pos n) ≡ gap m n
distance_pos m n = omega (arith, signed_arith, one_part (pos m -ℤ pos n))

distance_neg : (m n : ℕ) → distance (neg_ℤ (pos m)) (neg_ℤ (pos n)) ≡ gap m n
distance_neg m n = omega (arith, signed_arith, one_part (neg_ℤ (pos m) -ℤ neg_ℤ (pos n)))

distance_up : (m n : ℕ) → distance (neg_ℤ (pos m)) (pos n) ≡ m + n
distance_up m n = omega (arith, signed_arith, one_part (neg_ℤ (pos m) -ℤ pos n))

distance_down : (m n : ℕ) → distance (pos m) (neg_ℤ (pos n)) ≡ m + n
distance_down m n = omega (arith, signed_arith, one_part (pos m -ℤ neg_ℤ (pos n)))

size_neg : (n : ℕ) → unsigned_abs (neg_ℤ (pos n)) ≡ n
size_neg n = omega (arith, signed_arith)

-- what is nearest to a value that is not negative, and to one that is not positive
nearest_pos : (n unit : ℕ) → 0 < unit → IsNearest (pos n) unit (pos (nearest_multiple n unit))
nearest_pos n unit positive =
    let p = nearest_multiple n unit in
    record {
      times = pos ((n + unit / 2) / unit);
      multiple = refl;
      nearest = λ k. elim k as (λ k. distance (pos n) (pos p) ≤ distance (pos n) (k *ℤ pos unit)) [
        | pos j ↦ omega (arith, distance_pos n p, distance_pos n (j * unit), (near n unit j positive).0)
        | negsuc j ↦ omega (arith, distance_pos n p, distance_down n (suc j * unit), near_other n unit positive)
      ];
      farther = λ k. elim k as (λ k. distance (pos n) (k *ℤ pos unit) ≡ distance (pos n) (pos p) → unsigned_abs (k *ℤ pos unit) ≤ p) [
        | pos j ↦ λ tie. (near n unit j positive).1 (sym (distance_pos n (j * unit)) ∙ tie ∙ distance_pos n p)
        | negsuc j ↦ λ tie. omega (arith, distance_pos n p, distance_down n (suc j * unit), near_other n unit positive, size_neg (suc j * unit))
      ];
    }

neg_multiple : (times unit : ℕ) → neg_ℤ (pos (times * unit)) ≡ neg_ℤ (pos times) *ℤ pos unit
neg_multiple zero unit = rw zero-mul refl
neg_multiple (suc times) unit = refl

nearest_neg : (n unit : ℕ) → 0 < unit → IsNearest (neg_ℤ (pos n)) unit (neg_ℤ (pos (nearest_multiple n unit)))
nearest_neg n unit positive =
    let p = nearest_multiple n unit in
    record {
      times = neg_ℤ (pos ((n + unit / 2) / unit));
      multiple = neg_multiple ((n + unit / 2) / unit) unit;
      nearest = λ k. elim k as (λ k. distance (neg_ℤ (pos n)) (neg_ℤ (pos p)) ≤ distance (neg_ℤ (pos n)) (k *ℤ pos unit)) [
        | pos j ↦ omega (arith, distance_neg n p, distance_up n (j * unit), near_other n unit positive)
        | negsuc j ↦ omega (arith, distance_neg n p, distance_neg n (suc j * unit), (near n unit (suc j) positive).0)
      ];
      farther = λ k. elim k as (λ k. distance (neg_ℤ (pos n)) (k *ℤ pos unit) ≡ distance (neg_ℤ (pos n)) (neg_ℤ (pos p)) → unsigned_abs (k *ℤ pos unit) ≤ unsigned_abs (neg_ℤ (pos p))) [
        | pos j ↦ λ tie. omega (arith, distance_neg n p, distance_up n (j * unit), near_other n unit positive, size_neg p)
        | negsuc j ↦ λ tie. omega (arith, size_neg p, size_neg (suc j * unit), (near n unit (suc j) positive).1 (sym (distance_neg n (suc j * unit)) ∙ tie ∙ distance_neg n p))
      ];
    }

-- the rounded value is the nearest multiple
pub rounded_nearest : (x : ℤ) (unit : ℕ) → 0 < unit → IsNearest x unit (rounded x unit)
rounded_nearest (pos n) unit positive = nearest_pos n unit positive
rounded_nearest (negsuc n) unit positive = nearest_neg (suc n) unit positive

-- a number that is at most a multiple is not rounded past it
nearest_within : (n times unit : ℕ) → 0 < unit → n ≤ times * unit → nearest_multiple n unit ≤ times * unit
nearest_within n times unit positive within =
    let below : n + unit / 2 < suc times * unit = omega (arith, suc-mul times unit) in
    let less = div_below (n + unit / 2) unit (suc times) positive below in
    mul-le-mul_right {m = (n + unit / 2) / unit} {n = times} unit (omega arith)

-- a whole number of days is a multiple of each unit that a day is a multiple of
pub days_in_units : (days parts unit day : ℕ) → parts * unit ≡ day → days * day ≡ days * parts * unit
days_in_units days parts unit day whole = ap (λ (k : ℕ). days * k) (sym whole) ∙ sym (mul_assoc days parts unit)

-- decimals of a day don't round past a day's end
pub rounded_within : (n days count unit : ℕ) → count ≤ 6 → unit ≡ decimal_unit count → n ≤ days * nanos_of_a_day → nearest_multiple n unit ≤ days * nanos_of_a_day
rounded_within n days count unit few unit_is within =
    let parts : 10 ^ count * decimal_unit count ≡ nanos_of_a_day = mul_comm (10 ^ count) (decimal_unit count) ∙ unit_whole count few in
    let e = days_in_units days (10 ^ count) (decimal_unit count) nanos_of_a_day parts in
    rw (unit_is, e) (nearest_within n (days * 10 ^ count) (decimal_unit count) (unit_positive count few) (omega (arith, e)))

-- what lies between two multiples is one
pub between_multiples : (a b n unit : ℕ) → 0 < unit → a * unit + n ≡ b * unit → n / unit * unit ≡ n
between_multiples a b n unit positive e =
    let times : n ≡ unit * (b - a) = omega (arith, mul-sub unit b a) in
    rw times (ap (λ (k : ℕ). k * unit) (mul-div_cancel_left (b - a) positive) ∙ mul_comm (b - a) unit)

-- the time of day of a rounded moment is a whole number of units
pub rounded_part : (x day : ℤ) (unit parts n : ℕ) → 0 < unit → parts * unit ≡ nanos_of_a_day → rounded x unit ≡ moment day n → n / unit * unit ≡ n
rounded_part (pos x) (pos d) unit parts n positive whole e =
    between_multiples (d * parts) ((x + unit / 2) / unit) n unit positive (omega (arith, signed_arith, days_in_units d parts unit nanos_of_a_day whole))
rounded_part (pos x) (negsuc d) unit parts n positive whole e =
    between_multiples 0 ((x + unit / 2) / unit + suc d * parts) n unit positive (omega (arith, signed_arith, days_in_units (suc d) parts unit nanos_of_a_day whole, add-mul ((x + unit / 2) / unit) (suc d * parts) unit))
rounded_part (negsuc x) (pos d) unit parts n positive whole e =
    between_multiples (d * parts + (suc x + unit / 2) / unit) 0 n unit positive (omega (arith, signed_arith, days_in_units d parts unit nanos_of_a_day whole, add-mul (d * parts) ((suc x + unit / 2) / unit) unit))
rounded_part (negsuc x) (negsuc d) unit parts n positive whole e =
    between_multiples ((suc x + unit / 2) / unit) (suc d * parts) n unit positive (omega (arith, signed_arith, days_in_units (suc d) parts unit nanos_of_a_day whole))
