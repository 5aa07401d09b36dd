-- How many characters the parts of names have.
use Rattle.std.proofs.Common.{◌≡◌, ℕ, ◌<◌, ◌≤◌, length, arith, refl}
use Rattle.std.specs.Fmt.{decimal}
use Rattle.std.proofs.lemmas.Fmt.{length-decimal-le}
use Rattle.ascii_text.specs.Digits.{digits_text}
use Rattle.packed_names.specs.declared.half_month.HalfMonth.{HalfMonth}
use Rattle.packed_names.specs.Printed.{half_text}

-- the number of a comet
pub length_number : (n : ℕ) → n < 100 → length (decimal n) ≤ 2
length_number n below = length-decimal-le 2 n (omega arith) below (omega arith)

-- a half-month
pub length_half : (half : HalfMonth) → length (half_text half) ≡ 6
unfolding half_text digits_text
length_half half = refl
