use Rattle.std.proofs.Common.{rules, ◌≡◌, [], ◌∷◌, ◌++◌, sym, ◌∙◌}
use Rattle.act_bodies.proofs.WholesLaws.{joined_nothing, joined-read, joined-met, joined-end}
use Rattle.act_bodies.proofs.wholes.wholes_of.Goals as goal

pub loop-item-init : goal.loop-item-init
loop-item-init c = rw c.new-wholes.ensures (joined_nothing _)

pub returns-in_default-clause-unread : goal.returns-in_default-clause-unread
returns-in_default-clause-unread c = λ _. joined-met c.args.items.now c.loop-item.item-index c.item-item.result c.loop-item.wholes c.loop-item-test.true c.item-item.is (sym c.as_u64.ensures ∙ c.in_default.is) c.loop-item.invariant

pub loop-item-preserved : goal.loop-item-preserved
loop-item-preserved c =
    let pushed : c.push.new.self ≡ c.loop-item.wholes ++ c.in-Some.whole ∷ [] = search rules in
    joined-read c.args.items.now c.loop-item.item-index c.item-item.result c.loop-item.wholes c.push.new.self c.in-Some.whole c.loop-item-test.true c.item-item.is (sym c.as_u64.ensures ∙ c.in-Some.is) c.loop-item.invariant pushed

pub returns-clause-read : goal.returns-clause-read
returns-clause-read c = joined-end c.args.items.now c.loop-item.item-index c.loop-item.wholes c.loop-item-test.false c.loop-item.invariant
