use Rattle.std.proofs.lemmas.Result.{err_from_is_err_and}
use Rattle.ades_psv.proofs.Readers.{whole_answer}
use Rattle.ades_psv.proofs.reader.read_psv.Goals as goal

pub returns-in_err-feed-clause-exact : goal.returns-in_err-feed-clause-exact
returns-in_err-feed-clause-exact c =
    let p = err_from_is_err_and c.from_residual-in_err-feed.result c.from_residual-in_err-feed.ensures.1 in
    rw (p.1, p.2) (whole_answer c.lines.ensures c.args.body.now c.in_ok-reader.reader c.feed.new.self c.in_err-feed.field-0.0 c.in_ok-reader.ensures c.in_err-feed.ensures.exact)
