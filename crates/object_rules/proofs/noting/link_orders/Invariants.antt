use Rattle.std.proofs.Common.{◌≡◌, ◌+◌, ◌≤◌, List, drop, length}
use Rattle.identify_core.specs.Acts.{LinkAct}
use Rattle.identify_core.specs.Principals.{StandFor}
use Rattle.act_model.specs.Designations.{with_orders, with_all_given}
use Rattle.object_rules.specs.Noting.{AreWithin, AreUnlinked}
use Rattle.object_rules.proofs.noting.link_orders.Given as goal

-- what is left goes on from acts that the links stand for, and is new to them
abbrev pub invariant-loop-order : goal.invariant-loop-order
invariant-loop-order l =
    record {
      stands : (acts : List LinkAct) → StandFor l.fn.links.links acts →
          (now : List LinkAct) × StandFor l.links.links now
          × (with_all_given (with_orders l.half (drop l.order-index l.orders)) now ≡ with_all_given (with_orders l.half l.orders) acts);
      within : AreWithin l.given (drop l.order-index l.orders);
      new : AreUnlinked l.links.links (with_orders l.half (drop l.order-index l.orders));
      room : length (drop l.order-index l.orders) ≤ l.links.spare;
      used : l.fn.links.spare + length (drop l.order-index l.orders) ≤ l.links.spare + length l.orders;
      no_more : l.links.spare ≤ l.fn.links.spare;
    }
