use Rattle.std.proofs.Common.{◌≡◌, ℕ, ◌*◌, ◌+◌, ◌-◌, ◌/◌, ◌^◌, ◌≤◌, refl, sym, ap, ◌∙◌, arith}
use Rattle.std.proofs.Math.Nat.{mul_assoc, mul-div_cancel, mul-le-mul_left}
use Rattle.std.proofs.lemmas.Nat.{pow-add}
use Rattle.ascii_text.proofs.DigitTexts.{power_within, power_positive}
use Rattle.ascii_text.specs.declared.digits.Radix.TheVariants.{Ten}
use Rattle.ascii_text.proofs.units.place_units.Goals as goal

-- this many units of a place as it counts are those of the point
whole : (place most last : ℕ) → place ≤ most → (last * 10 ^ (most - place)) * 10 ^ place ≡ last * 10 ^ most
whole place most last few =
    let all : (most - place) + place ≡ most = omega arith in
    mul_assoc last (10 ^ (most - place)) (10 ^ place) ∙ ap (λ (n : ℕ). last * n) (sym (pow-add 10 (most - place) place) ∙ ap (λ (n : ℕ). 10 ^ n) all)

pub overflow_mul-result : goal.overflow_mul-result
overflow_mul-result c =
    let fewer = power_within Ten (c.args.most - c.args.place) c.args.most (omega arith) in
    rw c.power_of_ten.ensures (omega (arith, mul-le-mul_left c.args.last fewer, c.requires.fits))

pub returns-clause-whole : goal.returns-clause-whole
returns-clause-whole c = rw c.power_of_ten.ensures (whole c.args.place c.args.most c.args.last c.requires.place)

pub returns-clause-value : goal.returns-clause-value
returns-clause-value c =
    let unit = ap (λ (n : ℕ). n / 10 ^ c.args.place) (whole c.args.place c.args.most c.args.last c.requires.place) in
    rw (c.power_of_ten.ensures, ← unit, mul-div_cancel (c.args.last * 10 ^ (c.args.most - c.args.place)) (power_positive Ten c.args.place)) refl
