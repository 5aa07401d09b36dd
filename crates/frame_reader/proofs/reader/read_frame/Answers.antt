use Rattle.std.proofs.lemmas.Result.{err_from_is_err_and}
use Rattle.frame_reader.proofs.Frames.{frame_read, frame_cut}
use Rattle.frame_reader.proofs.reader.read_frame.Goals as goal

pub returns-in_err-body-clause-came : goal.returns-in_err-body-clause-came
returns-in_err-body-clause-came g c =
    let p = err_from_is_err_and c.from_residual-in_err-body.result c.from_residual-in_err-body.ensures.1 in
    rw (p.1, p.2) (frame_cut _ _ c.goes_on.ensures.heads c.no_frame_yet.ensures.body c.never_a_frame.ensures.heads c.heads_have_bytes.ensures _ _ _ _ _ _ c.in_ok-head.head _ c.in_ok-head.ensures.came c.in_err-body.ensures.came)

pub returns-clause-came : goal.returns-clause-came
returns-clause-came g c =
    frame_read _ _ c.goes_on.ensures.heads c.no_frame_yet.ensures.body c.never_a_frame.ensures.heads c.head_and_body.ensures.good c.head_and_body.ensures.joined _ _ _ _ _ _ c.in_ok-head.head c.in_ok-body.body c.in_ok-head.ensures.came c.in_ok-body.ensures.came
