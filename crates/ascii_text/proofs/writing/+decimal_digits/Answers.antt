use Rattle.std.proofs.Common.{length, ap, sym, arith, rules}
use Rattle.std.proofs.lemmas.Fmt.{decimal_digit, decimal_step, length-decimal-le}
use Rattle.std.proofs.lemmas.List.{length_push}
use Rattle.ascii_text.proofs.writing.+decimal_digits.Goals as goal

pub returns-then-n-lt10 : goal.returns-then-n-lt10
returns-then-n-lt10 t c = rw (c.push.ensures.items, c.new-digits.ensures) (sym (decimal_digit c.args.n c.if-n-lt10.true))

pub push-requires-2 : goal.push-requires-2
push-requires-2 t c =
    let all = simp length_push at (ap length (decimal_step c.args.n c.if-n-lt10.false c.ranges.n.fits)) in
    (search rules, omega (arith, all, ap length c.decimal_digits-digits.ensures, length-decimal-le 20 c.args.n (omega arith) (omega arith) c.ranges.n.fits))

pub returns : goal.returns
returns t c = rw (c.push-2.ensures.items, c.decimal_digits-digits.ensures) (sym (decimal_step c.args.n c.if-n-lt10.false c.ranges.n.fits))
