use Rattle.std.proofs.Common.{◌+◌, List, ◌∷◌, length, drop, get_or, ap, sym, subst, ◌∙◌, arith}
use Rattle.std.proofs.lemmas.List.{drop_more}
use Rattle.packed_names.specs.declared.provisional.Provisional.{Provisional as ProvisionalName}
use Rattle.packed_names.specs.declared.name.Designation.TheVariants.{Provisional}
use Rattle.identify_core.specs.Acts.{LinkAct}
use Rattle.identify_core.specs.Acts.LinkAct.{Given}
use Rattle.identify_core.specs.Principals.{StandFor}
use Rattle.act_model.specs.Designations.{with_order, with_orders, with_all_given}
use Rattle.object_rules.specs.Noting.{AreWithin, AreUnlinked}
use Rattle.object_rules.proofs.LinkLemmas.{others_are_new}
use Rattle.object_rules.proofs.noting.link_orders.Goals as goal

pub loop-order-preserved : goal.loop-order-preserved
loop-order-preserved c =
    let before = c.loop-order.invariant in
    let half = c.args.half in
    let i = c.loop-order.order-index in
    let orders = c.args.orders.now in
    let order = get_or orders i 0 in
    let more = drop (i + 1) orders in
    let first = drop_more orders i 0 c.loop-order-test.true in
    let one_less = ap length first in
    let added : (acts : List LinkAct) → StandFor c.loop-order.links.links acts → StandFor c.add.new.self.links (Given (Provisional (with_order half order)) ∷ acts) =
    λ acts stand. subst (λ (d : ProvisionalName). StandFor c.add.new.self.links (Given (Provisional d) ∷ acts)) c.with_order.ensures (c.add.ensures.acts acts stand) in
    let used = c.add.ensures.spare.0 in
    let no_more = c.add.ensures.spare.1 in
    let room_before = before.room in
    let used_before = before.used in
    let no_more_before = before.no_more in
    record {
      stands = λ acts stand.
          let was = before.stands acts stand in
          (Given (Provisional (with_order half order)) ∷ was.0, added was.0 was.1, ap (λ (x : List _). with_all_given (with_orders half x) was.0) (sym first) ∙ was.2);
      within = (subst (AreWithin c.args.given) first before.within).1;
      new = others_are_new half order more c.loop-order.links.links c.add.new.self.links (subst (λ (x : List _). AreUnlinked c.loop-order.links.links (with_orders half x)) first before.new) added;
      room = omega arith;
      used = omega arith;
      no_more = omega arith;
    }
