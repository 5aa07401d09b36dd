use Rattle.std.proofs.Common.{◌≡◌, List, take, subst}
use Rattle.std.specs.Prelude.{IfOk}
use Rattle.packed_names.specs.declared.name.Designation.{Designation}
use Rattle.numbering_core.specs.declared.numbering.Numbering.{Numbering}
use Rattle.numbering_core.specs.Open.{AreOpen}
use Rattle.numbering_core.specs.Verdicts.{verdict_in_force}
use Rattle.act_model.specs.Designations.{links_of}
use Rattle.act_model.specs.Verdicts.{verdicts_of}
use Rattle.object_rules.proofs.EligibleLemmas.{cmp, eligible_open}
use Rattle.object_rules.proofs.numbering.eligible.Goals as goal

pub returns : goal.returns
returns g c =
    let past = g.L.Ledger.deeds c.args.office.now in
    let items = c.open.result.now.items in
    let are = subst (λ (ns : List Numbering). AreOpen cmp (verdict_in_force (verdicts_of past)) ns items) c.register.ensures.numbered (c.open.ensures.acts (verdicts_of past) c.register.ensures.verdicts) in
    subst (λ (ds : List Designation). IfOk c.first_eligible.result (λ found. found ≡ take c.args.most ds))
    (eligible_open c.orders.ensures c.same_items.ensures past (c.given_in_order.ensures.order (links_of past)) (c.given_in_order.ensures.given (links_of past)) items c.open.ensures.order are)
    c.first_eligible.ensures
