use Rattle.std.proofs.Common.{◌≡◌, ℕ, suc, ◌+◌, ◌-◌, None, refl, ap, arith, ◌∙◌}
use Rattle.std.proofs.Math.Nat.{pow-zero}
use Rattle.ascii_text.specs.Reading.{more_digits, digits_at}
use Rattle.ascii_text.proofs.DigitTexts.{more_digits-first, digits_below}
use Rattle.ascii_text.proofs.reading.digits_at.Goals as goal

pub loop-init : goal.loop-init
unfolding digits_at
loop-init c =
    let exact = λ (more whole : ℕ) (e : 0 + more ≡ whole). ap (λ (count : ℕ). more_digits c.args.radix 0 count c.args.text.now) (let same : more ≡ whole = omega (arith, e) in same) in
    record { exact = exact; below = rw pow-zero (omega arith); left = omega arith }

pub returns-in_err-digit-clause-exact : goal.returns-in_err-digit-clause-exact
unfolding more_digits
returns-in_err-digit-clause-exact c =
    let left = c.args.count - (c.loop.counter + 1) in
    let none : None ≡ more_digits c.args.radix c.loop.value (suc left) c.loop.rest.now = rw (← c.in_err-digit.ensures.exact) refl in
    rw c.from_residual.ensures (none ∙ c.loop.invariant.exact (suc left) c.args.count (omega (arith, c.loop-test.true)))

pub loop-preserved : goal.loop-preserved
loop-preserved c =
    rw c.base_of.ensures (record {
      exact = λ more whole e. more_digits-first c.args.radix c.loop.value c.in_ok-digit.digit more c.loop.rest.now c.in_ok-digit.after.now c.in_ok-digit.ensures.exact ∙ c.loop.invariant.exact (suc more) whole (omega (arith, e));
      below = digits_below c.args.radix c.loop.value c.loop.counter c.in_ok-digit.digit c.loop.invariant.below c.in_ok-digit.ensures.below;
      left = omega (arith, c.in_ok-digit.ensures.rest);
    })

pub returns-clause-exact : goal.returns-clause-exact
unfolding more_digits
returns-clause-exact c = c.loop.invariant.exact 0 c.args.count (omega arith)
