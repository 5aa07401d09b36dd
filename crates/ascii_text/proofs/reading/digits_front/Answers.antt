use Rattle.std.proofs.Common.{◌≡◌, ℕ, suc, ◌+◌, refl, sym, ap, ◌∙◌, arith, drop}
use Rattle.std.proofs.lemmas.List.{drop-drop}
use Rattle.ascii_text.specs.declared.digits.Radix.TheVariants.{Ten}
use Rattle.ascii_text.specs.Reading.{more_digits, digits_at, digit_run}
use Rattle.ascii_text.proofs.DigitTexts.{more_digits-first, digits_below, digits_fit, digit_at_takes}
use Rattle.ascii_text.proofs.NumberTexts.{digit_run-cons, no_more}
use Rattle.ascii_text.proofs.reading.digits_front.Goals as goal

pub digits-init : goal.digits-init
unfolding digits_at
digits-init c =
    let value = λ (more whole : ℕ) (e : 0 + more ≡ whole). ap (λ (count : ℕ). more_digits Ten 0 count c.args.text.now) (let same : more ≡ whole = omega (arith, e) in same) in
    record { value = value; below = omega arith; run = omega arith; rest = refl; left = omega arith }

pub returns-in_default-clause-value : goal.returns-in_default-clause-value
unfolding more_digits
returns-in_default-clause-value c = c.digits.invariant.value 0 c.digits.count (omega arith)

pub returns-in_default-clause-all : goal.returns-in_default-clause-all
returns-in_default-clause-all c = λ _. no_more c.digits.rest.now c.in_default.ensures.exact

pub overflow_mul-value : goal.overflow_mul-value
overflow_mul-value c = omega (arith, digits_fit Ten c.digits.value c.digits.count 18 c.in-Some.digit (omega (arith, c.digits-test.true)) (omega arith) c.digits.invariant.below c.in-Some.ensures.below)

pub overflow_add-value : goal.overflow_add-value
overflow_add-value c = omega (arith, digits_fit Ten c.digits.value c.digits.count 18 c.in-Some.digit (omega (arith, c.digits-test.true)) (omega arith) c.digits.invariant.below c.in-Some.ensures.below)

pub digits-preserved : goal.digits-preserved
digits-preserved c =
    let taken = digit_at_takes Ten c.digits.rest.now (c.in-Some.digit, c.in-Some.after.now) (sym c.in-Some.ensures.exact) in
    let run = ap digit_run taken.0 ∙ digit_run-cons (48 + c.in-Some.digit) c.in-Some.after.now (omega arith, omega (arith, taken.1)) in
    record {
      value = λ more whole e. more_digits-first Ten c.digits.value c.in-Some.digit more c.digits.rest.now c.in-Some.after.now c.in-Some.ensures.exact ∙ c.digits.invariant.value (suc more) whole (omega (arith, e));
      below = digits_below Ten c.digits.value c.digits.count c.in-Some.digit c.digits.invariant.below c.in-Some.ensures.below;
      run = omega (arith, c.digits.invariant.run, run);
      rest = sym (ap (drop 1) taken.0) ∙ ap (drop 1) c.digits.invariant.rest ∙ drop-drop 1 c.digits.count c.args.text.now;
      left = omega (arith, c.digits.invariant.left, c.in-Some.ensures.rest);
    }

pub returns-clause-value : goal.returns-clause-value
unfolding more_digits
returns-clause-value c = c.digits.invariant.value 0 c.args.most (omega arith)
