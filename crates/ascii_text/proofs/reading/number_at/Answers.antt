use Rattle.std.proofs.Common.{◌≤◌, ◌^◌, arith}
use Rattle.std.proofs.lemmas.Option.{IfSome_then}
use Rattle.ascii_text.specs.declared.digits.Radix.TheVariants.{Ten}
use Rattle.ascii_text.proofs.DigitTexts.{power_within}
use Rattle.ascii_text.proofs.reading.number_at.Goals as goal

pub returns-clause-below : goal.returns-clause-below
returns-clause-below c =
    let within : 10 ^ c.digit_run-count.result ≤ 10 ^ c.args.most = power_within Ten c.digit_run-count.result c.args.most (omega arith) in
    IfSome_then c.digits_at.result c.digits_at.ensures.below (λ x below. omega (arith, below))
