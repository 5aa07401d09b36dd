use Rattle.std.proofs.Common.{ap, sym, subst, ◌∙◌, arith}
use Rattle.std.specs.Prelude.{reverse}
use Rattle.std.proofs.lemmas.List.{take_all}
use Rattle.batch_rules.specs.Earlier.{HasTimes, pointed_sightings}
use Rattle.batch_rules.proofs.Pointed.{pointed_more}
use Rattle.batch_rules.proofs.earlier.times_of.Goals as goal

pub loop-s-preserved : goal.loop-s-preserved
loop-s-preserved c =
    subst (HasTimes _) (sym (pointed_more c.deref-s-items.result.now c.loop-s.s-index c.s-item.result (omega arith) c.s-item.is)) (c.in_ok-insert.ensures _ c.loop-s.invariant)

pub returns : goal.returns
returns c =
    subst (HasTimes _) (ap (λ xs. reverse (pointed_sightings xs)) (take_all c.loop-s.s-index c.deref-s-items.result.now c.loop-s-test.false ∙ c.deref-s-items.ensures.value)) c.loop-s.invariant
