use Rattle.object_rules.proofs.NumberLemmas.{next_goes_on}
use Rattle.object_rules.proofs.noting.give.Goals as goal

pub take-requires-clause-number : goal.take-requires-clause-number
take-requires-clause-number c = (next_goes_on c.args.pairs.now c.loop-pair.register.numbered c.loop-pair.pair-index _ c.loop-pair-test.true c.loop-pair.invariant.unbroken).0

pub take-requires-clause-next : goal.take-requires-clause-next
take-requires-clause-next c = (next_goes_on c.args.pairs.now c.loop-pair.register.numbered c.loop-pair.pair-index _ c.loop-pair-test.true c.loop-pair.invariant.unbroken).1

pub take-requires-clause-unnumbered : goal.take-requires-clause-unnumbered
take-requires-clause-unnumbered c = (next_goes_on c.args.pairs.now c.loop-pair.register.numbered c.loop-pair.pair-index _ c.loop-pair-test.true c.loop-pair.invariant.unbroken).2
