use Rattle.std.proofs.lemmas.Result.{err_from_is_err_and}
use Rattle.frame_grammar.proofs.Heads.{IsCaller, key_fails, request_fails, verb_fails, length_fails}
use Rattle.frame_grammar.proofs.head.head_at.Goals as goal

pub returns-in_err-key-clause-reads : goal.returns-in_err-key-clause-reads
returns-in_err-key-clause-reads c =
    let p = err_from_is_err_and c.from_residual.result c.from_residual.ensures.1 in
    rw (p.1, p.2) (key_fails c.args.bytes.now c.in_err-key.field-0.0 c.in_err-key.ensures)

pub returns-in_err-number-clause-reads : goal.returns-in_err-number-clause-reads
returns-in_err-number-clause-reads c =
    let p = err_from_is_err_and c.from_residual-in_err-number.result c.from_residual-in_err-number.ensures.1 in
    rw (p.1, p.2) (request_fails c.args.bytes.now c.in_ok-key.key.now c.in_ok-key.rest.now c.in_err-number.field-0.0 c.in_ok-key.ensures.0 c.in_ok-key.ensures.1 c.in_err-number.ensures)

pub returns-in_err-verb-clause-reads : goal.returns-in_err-verb-clause-reads
returns-in_err-verb-clause-reads c =
    let p = err_from_is_err_and c.from_residual-in_err-verb.result c.from_residual-in_err-verb.ensures.1 in
    let caller : IsCaller c.args.bytes.now c.in_ok-key.key.now c.in_ok-number.number c.in_ok-number.rest.now = record {
      middle = c.in_ok-key.rest.now;
      key_good = c.in_ok-key.ensures.0;
      number_good = c.in_ok-number.ensures.0;
      first = c.in_ok-key.ensures.1;
      second = c.in_ok-number.ensures.1;
    } in
    rw (p.1, p.2) (verb_fails c.args.bytes.now c.in_ok-key.key.now c.in_ok-number.number c.in_ok-number.rest.now c.in_err-verb.field-0.0 caller c.in_err-verb.ensures)

pub returns-in_err-length-clause-reads : goal.returns-in_err-length-clause-reads
returns-in_err-length-clause-reads c =
    let p = err_from_is_err_and c.from_residual-in_err-length.result c.from_residual-in_err-length.ensures.1 in
    let caller : IsCaller c.args.bytes.now c.in_ok-key.key.now c.in_ok-number.number c.in_ok-number.rest.now = record {
      middle = c.in_ok-key.rest.now;
      key_good = c.in_ok-key.ensures.0;
      number_good = c.in_ok-number.ensures.0;
      first = c.in_ok-key.ensures.1;
      second = c.in_ok-number.ensures.1;
    } in
    rw (p.1, p.2)
    (length_fails c.args.bytes.now c.in_ok-key.key.now c.in_ok-number.number c.in_ok-number.rest.now c.in_ok-verb.verb.now c.in_ok-verb.rest.now c.in_err-length.field-0.0 caller
    c.in_ok-verb.ensures.0 c.in_ok-verb.ensures.1 c.in_err-length.ensures)
