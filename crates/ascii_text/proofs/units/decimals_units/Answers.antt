use Rattle.std.proofs.Common.{◌≡◌, ℕ, zero, suc, ◌*◌, ◌^◌, ◌<◌, arith}
use Rattle.std.proofs.Math.Nat.{mul-lt-mul_of_pos_right}
use Rattle.ascii_text.proofs.DigitTexts.{power_positive}
use Rattle.ascii_text.specs.declared.digits.Radix.TheVariants.{Ten}
use Rattle.ascii_text.proofs.units.decimals_units.Goals as goal

-- what is a whole number of times in a product that isn't 0 isn't 0
some_of : (unit power whole : ℕ) → unit * power ≡ whole → 0 < whole → 0 < unit
some_of zero power whole is more = absurd (omega (arith, is))
some_of (suc unit) power whole is more = omega arith

pub returns-clause-below : goal.returns-clause-below
returns-clause-below c =
    let power = power_positive Ten c.args.most in
    let whole : 0 < c.args.last * 10 ^ c.args.most = omega (arith, mul-lt-mul_of_pos_right c.requires.some power) in
    let some = some_of c.place_units.result (10 ^ c.args.decimals.count) (c.args.last * 10 ^ c.args.most) c.place_units.ensures.whole whole in
    omega (arith, mul-lt-mul_of_pos_right c.requires.digits some, c.place_units.ensures.whole)
