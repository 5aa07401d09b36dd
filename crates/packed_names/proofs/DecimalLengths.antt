-- How many digits the numbers of printed names have.
use Rattle.std.proofs.Common.{ℕ, ◌<◌, ◌≤◌, length, arith}
use Rattle.std.specs.Fmt.{decimal}
use Rattle.std.proofs.lemmas.Fmt.{length-decimal-le}

-- a number
pub length_decimal_eight : (n : ℕ) → n < 100000000 → length (decimal n) ≤ 8
length_decimal_eight n below = length-decimal-le 8 n (omega arith) below (omega arith)

-- a cycle
pub length_decimal_six : (n : ℕ) → n < 1000000 → length (decimal n) ≤ 6
length_decimal_six n below = length-decimal-le 6 n (omega arith) below (omega arith)

-- a survey's number
pub length_decimal_four : (n : ℕ) → n < 10000 → length (decimal n) ≤ 4
length_decimal_four n below = length-decimal-le 4 n (omega arith) below (omega arith)
