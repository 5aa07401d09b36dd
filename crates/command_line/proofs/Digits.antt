-- Digits, one after the other, and the ranges of their numbers.
use Rattle.std.proofs.Common.{◌≡◌, ℕ, ◌+◌, ◌*◌, ◌<◌, ◌≤◌, None, List, [], ◌∷◌, length, slice_index, sym, arith}
use Rattle.std.specs.Char.{digit_value}
use Rattle.std.specs.Str.Parse.{digits_value_after}
use Rattle.std.proofs.lemmas.Bool.Decides.{nat_tests}
use Rattle.command_line.specs.Numbers.{if_fits}

-- further digits make no number smaller
pub no_smaller : (number : ℕ) (digits : List ℕ) → number ≤ digits_value_after 10 number digits
no_smaller number [] = omega arith
no_smaller number (digit ∷ digits) =
    let more : number * 10 + digit_value digit ≤ digits_value_after 10 (number * 10 + digit_value digit) digits = no_smaller (number * 10 + digit_value digit) digits in
    omega arith

pub too_large : (number : ℕ) → 18446744073709551615 < number → if_fits number ≡ None
too_large number large = grind (arith, nat_tests)

pub unfitting : (number : ℕ) → if_fits number ≡ None → 18446744073709551615 < number
unfitting number is = grind (arith, nat_tests)

-- where a number with its next digit is too large, it is with all of its digits
pub stays_too_large : (number : ℕ) (digits : List ℕ) → 1 ≤ length digits → None ≡ if_fits (number * 10 + digit_value (slice_index digits 0))
    → None ≡ if_fits (digits_value_after 10 number digits)
stays_too_large number [] some is = absurd (omega arith)
stays_too_large number (digit ∷ digits) some is =
    let large : 18446744073709551615 < number * 10 + digit_value digit = unfitting (number * 10 + digit_value digit) (sym is) in
    let more : number * 10 + digit_value digit ≤ digits_value_after 10 (number * 10 + digit_value digit) digits = no_smaller (number * 10 + digit_value digit) digits in
    sym (too_large (digits_value_after 10 (number * 10 + digit_value digit) digits) (omega arith))
