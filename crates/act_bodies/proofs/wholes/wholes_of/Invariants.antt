use Rattle.std.proofs.Common.{◌≡◌, drop}
use Rattle.serde_json.specs.View.{items_view}
use Rattle.act_bodies.specs.Members.{wholes_of}
use Rattle.act_bodies.proofs.WholesLaws.{joined}
use Rattle.act_bodies.proofs.wholes.wholes_of.Given as goal

-- what was read stands before what is read of the rest
abbrev pub invariant-loop-item : goal.invariant-loop-item
invariant-loop-item l = wholes_of (items_view l.items) ≡ joined l.wholes (wholes_of (items_view (drop l.item-index l.items)))
