-- The decimals of magnitudes.
use Rattle.std.proofs.Common.{◌≡◌, ℕ, zero, suc, ◌-◌, ◌*◌, ◌%◌, ◌^◌, ◌<◌, ◌≤◌, arith}
use Rattle.obs_record.specs.Magnitudes.{magnitude_of}

-- at most six decimals are below one
pub below_one : (count value : ℕ) → count ≤ 6 → value < 10 ^ count → value * 10 ^ (6 - count) < 1000000
below_one zero value few below = omega (arith, below)
below_one (suc zero) value few below = omega (arith, below)
below_one (suc (suc zero)) value few below = omega (arith, below)
below_one (suc (suc (suc zero))) value few below = omega (arith, below)
below_one (suc (suc (suc (suc zero)))) value few below = omega (arith, below)
below_one (suc (suc (suc (suc (suc zero))))) value few below = omega (arith, below)
below_one (suc (suc (suc (suc (suc (suc zero)))))) value few below = omega (arith, below)
below_one (suc (suc (suc (suc (suc (suc (suc count))))))) value few below = absurd (omega arith)

pub decimals_below : (count value : ℕ) → count ≤ 6 → value < 10 ^ count → magnitude_of 0 count value < 1000000
decimals_below count value few below = omega (arith, below_one count value few below)

pub made_of_decimals : (whole count value : ℕ) → count ≤ 6 → magnitude_of whole count value % 10 ^ (6 - count) ≡ 0
made_of_decimals whole zero value few = omega arith
made_of_decimals whole (suc zero) value few = omega arith
made_of_decimals whole (suc (suc zero)) value few = omega arith
made_of_decimals whole (suc (suc (suc zero))) value few = omega arith
made_of_decimals whole (suc (suc (suc (suc zero)))) value few = omega arith
made_of_decimals whole (suc (suc (suc (suc (suc zero))))) value few = omega arith
made_of_decimals whole (suc (suc (suc (suc (suc (suc zero)))))) value few = omega arith
made_of_decimals whole (suc (suc (suc (suc (suc (suc (suc count))))))) value few = absurd (omega arith)
