use Rattle.std.proofs.Common.{ap, arith, List, rules}
use Rattle.act_model.specs.declared.taken.Taken.{Taken}
use Rattle.act_model.specs.Taken.{accepted_in}
use Rattle.act_model.proofs.TakenWith.{none_left}
use Rattle.act_model.proofs.taken.count.Goals as goal

pub returns : goal.returns
returns c =
    let none = none_left c.loop-place.place c.args.lines.now c.args.found.now (search (arith, rules)) in
    omega (arith, c.loop-place.invariant.0, ap (λ (left : List Taken). accepted_in left) none)
