use Rattle.std.proofs.Common.{refl, subst, ◌∙◌, arith}
use Rattle.frame_grammar.specs.Frames.{NoFrame}
use Rattle.frame_reader.specs.Reading.{IsAwaited}
use Rattle.frame_reader.specs.Frames.{IsHeadRead}
use Rattle.read_ahead.specs.Growing.{grows_none, grows_more, of_all, ended, failed}
use Rattle.frame_reader.proofs.Pieces.{head_used}
use Rattle.frame_reader.proofs.reader.read_head.Goals as goal

pub returns-in-Whole-clause-came : goal.returns-in-Whole-clause-came
returns-in-Whole-clause-came g c =
    of_all _ _ IsAwaited (λ front. IsHeadRead front c.in-Whole.head c.skip.new.self) _ _ _ _ c.loop-head.invariant.came
    (head_used _ _ _ c.in-Whole.head c.bytes.ensures c.skip.ensures c.in-Whole.ensures.0)

pub returns-in-Ok-eq0-clause-came : goal.returns-in-Ok-eq0-clause-came
returns-in-Ok-eq0-clause-came g c =
    ended _ _ IsAwaited NoFrame (λ bytes is. is.0) _ _ _ _ _ _ _ c.loop-head.invariant.came c.in-Ok-eq0.ensures.came c.bytes.ensures c.in-Part.ensures.0 _ (rw c.in-Ok-eq0.field-0-test at c.in-Ok-eq0.ensures.amount)
    (c.in-Ok-eq0.ensures.end cc) c.halt_at_end.ensures.why

pub loop-head-init : goal.loop-head-init
loop-head-init g c = record { came = grows_none _ _ IsAwaited _ _; faultless = refl; stays = refl; work = omega arith }

pub loop-head-preserved : goal.loop-head-preserved
loop-head-preserved g c = record {
  came = grows_more _ _ IsAwaited _ _ _ _ _ _ c.loop-head.invariant.came (subst IsAwaited c.bytes.ensures c.in-Part.ensures.0) c.in-Ok.ensures.came;
  faultless = c.in-Ok.ensures.faultless ∙ c.loop-head.invariant.faultless;
  stays = c.in-Ok.ensures.stays ∙ c.loop-head.invariant.stays;
  work = omega (arith, c.loop-head.invariant.work, c.in-Ok.ensures.work);
}

pub returns-in-Err-clause-came : goal.returns-in-Err-clause-came
returns-in-Err-clause-came g c = failed _ _ IsAwaited NoFrame (λ bytes is. is.0) _ _ _ _ _ _ _ c.loop-head.invariant.came c.in-Err.ensures.came c.bytes.ensures c.in-Part.ensures.0 c.in-Err.ensures.failed
