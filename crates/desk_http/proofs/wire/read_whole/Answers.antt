use Rattle.std.proofs.lemmas.Result.{err_from_is_err_and}
use Rattle.desk_http.proofs.Wholes.{whole_read, whole_cut}
use Rattle.desk_http.proofs.wire.read_whole.Goals as goal

pub returns-in_err-body-clause-came : goal.returns-in_err-body-clause-came
returns-in_err-body-clause-came g c =
    let p = err_from_is_err_and c.from_residual-in_err-body.result c.from_residual-in_err-body.ensures.1 in
    rw (p.1, p.2) (whole_cut _ _ _ _ _ _ _ _ c.in_ok-parts.parts _ c.in_ok-parts.ensures.came c.in_err-body.ensures.came)

pub returns-clause-came : goal.returns-clause-came
returns-clause-came g c = whole_read _ _ _ _ _ _ _ _ c.in_ok-parts.parts c.in_ok-body.body c.in_ok-parts.ensures.came c.in_ok-body.ensures.came
