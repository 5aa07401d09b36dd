-- How long written numbers are.
use Rattle.std.proofs.Common.{decimal, length, ℕ, ◌^◌, ◌<◌, ◌≤◌, arith}
use Rattle.std.proofs.lemmas.Fmt.{length-decimal-le}

pub length_decimal_u64 : (n : ℕ) → n < 2 ^ 64 → length (decimal n) ≤ 20
length_decimal_u64 n fits = length-decimal-le 20 n (omega arith) (omega arith) fits
