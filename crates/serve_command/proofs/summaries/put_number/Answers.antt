use Rattle.std.proofs.Common.{◌≤◌, length, decimal, arith, lit<}
use Rattle.std.proofs.lemmas.Fmt.{length-decimal-le}
use Rattle.serve_command.proofs.summaries.put_number.Goals as goal

pub put_decimal-requires : goal.put_decimal-requires
put_decimal-requires c =
    let long : length (decimal c.args.n) ≤ 20 = length-decimal-le 20 c.args.n (lit< tt) (omega arith) (omega arith) in
    omega (arith, long)

pub returns-clause-len : goal.returns-clause-len
returns-clause-len c =
    let long : length (decimal c.args.n) ≤ 20 = length-decimal-le 20 c.args.n (lit< tt) (omega arith) (omega arith) in
    omega (arith, long)
