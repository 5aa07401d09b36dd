use Rattle.std.proofs.Common.{refl}
use Rattle.std.proofs.KnownBytes.{Keeps-refl}
use Rattle.frame_service.proofs.Progress.{step_answered, step_cut, step_no_more}
use Rattle.frame_service.proofs.serving.serve_next.Goals as goal

pub returns-in-Ok-answer_frame-clause-step : goal.returns-in-Ok-answer_frame-clause-step
returns-in-Ok-answer_frame-clause-step g c =
    step_answered _ _ g.A.Attendant.answers _ _ _ c.in-Ok.read c.in-Ok-answer_frame.size c.in-Ok.ensures.came c.in-Ok-answer_frame.ensures.answers c.in-Ok-answer_frame.ensures.size

pub returns-in-Err-clause-step : goal.returns-in-Err-clause-step
returns-in-Err-clause-step g c =
    step_cut _ _ g.A.Attendant.answers _ _ _ c.in-Ok.read _ c.in-Ok.ensures.came c.in-Err.ensures.answers

pub returns-in-Err-Bad-clause-step : goal.returns-in-Err-Bad-clause-step
returns-in-Err-Bad-clause-step g c =
    step_no_more _ _ g.A.Attendant.answers _ _ _ (record { at = refl; sink = Keeps-refl _ }) c.never_a_frame.ensures.some (rw c.in-Err-Bad.field-0-is at c.in-Err-Bad.ensures.came)
