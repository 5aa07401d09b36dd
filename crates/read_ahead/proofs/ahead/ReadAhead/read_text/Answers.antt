use Rattle.std.proofs.Common.{refl, ◌∙◌, ap, length, length-drop, arith}
use Rattle.std.proofs.lemmas.Grind.{common_steps}
use Rattle.std.proofs.lemmas.Result.{err_from_is_err_and}
use Rattle.read_ahead.proofs.Texts.{text_cut, nothing_taken, taken_grows, taken_more}
use Rattle.read_ahead.proofs.ahead.ReadAhead.read_text.Goals as goal

pub loop-missing-init : goal.loop-missing-init
loop-missing-init g c = record {
  taken = nothing_taken _ _ _ _ _ _ (grind (arith, common_steps));
  faultless = refl;
  stays = refl;
  work = omega arith;
}

pub loop-missing-preserved : goal.loop-missing-preserved
loop-missing-preserved g c = record {
  taken = taken_more _ _ _ _ _ _ _ _ _ _ _ _ _ _ (taken_grows _ _ _ _ _ _ _ _ _ _ _ (omega arith) c.loop-missing.invariant.taken c.in_ok-fill.ensures.came)
      c.bytes-pending.ensures (omega arith) (omega arith) c.split_at.ensures.front c.skip.ensures c.extended-kept.ensures;
  faultless = c.in_ok-fill.ensures.faults ∙ c.loop-missing.invariant.faultless;
  stays = c.in_ok-fill.ensures.stays ∙ c.loop-missing.invariant.stays;
  work = omega (arith, ap length c.skip.ensures, length-drop c.min-count.result c.fill.new.self);
}

pub returns-in_err-fill-clause-came : goal.returns-in_err-fill-clause-came
returns-in_err-fill-clause-came g c =
    let p = err_from_is_err_and c.from_residual.result c.from_residual.ensures.1 in
    rw (p.1, p.2) (text_cut _ _ _ _ _ _ _ _ _ _ _ (omega arith) c.loop-missing.invariant.taken c.in_err-fill.ensures.came c.in_err-fill.ensures.none _ c.in_err-fill.ensures.cut)
