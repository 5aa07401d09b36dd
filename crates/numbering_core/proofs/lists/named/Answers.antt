use Rattle.std.proofs.Common.{◌<◌, length, sym, arith}
use Rattle.std.proofs.lemmas.Grind.{common_steps}
use Rattle.numbering_core.proofs.PlaceLemmas.{none_below, none_above, named_there}
use Rattle.numbering_core.proofs.lists.named.Goals as goal

pub returns-then-n-numbered : goal.returns-then-n-numbered
returns-then-n-numbered c =
    let some : 0 < length c.args.numbered.now = grind (arith, common_steps) in
    sym (none_below c.args.numbered.now c.requires some c.args.n.0 _ c.if-n-numbered.true)

pub returns-then-place-numbered : goal.returns-then-place-numbered
returns-then-place-numbered c =
    let some : 0 < length c.args.numbered.now = grind (arith, common_steps) in
    sym (none_above c.args.numbered.now c.requires some c.args.n.0 _ c.if-n-numbered.false c.if-place-numbered.true)

pub returns : goal.returns
returns c =
    let some : 0 < length c.args.numbered.now = grind (arith, common_steps) in
    sym (named_there c.args.numbered.now c.requires some c.args.n.0 _ c.if-n-numbered.false c.if-place-numbered.false)
