use Rattle.std.proofs.Common.{arith}
use Rattle.ascii_text.proofs.NumberTexts.{past_all}
use Rattle.ascii_text.proofs.reading.run_within.Goals as goal

pub returns-then-more-gt0-clause-exact : goal.returns-then-more-gt0-clause-exact
returns-then-more-gt0-clause-exact c =
    let d = c.digits_front.ensures in
    let more = c.digit_run-more.ensures.exact in
    past_all c.args.most c.digits_front.result.0.count c.digit_run-more.result c.args.text.now c.digits_front.result.1.now c.split_at.result.1.now d.most d.all d.run d.rest more c.split_at.ensures.back (omega arith)
