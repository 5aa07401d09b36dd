use Rattle.std.proofs.Common.{map, ◌∙◌}
use Rattle.identify_core.specs.declared.link.Link.{Link}
use Rattle.act_model.specs.Designations.{links_of}
use Rattle.act_model.specs.Holdings.{holdings}
use Rattle.object_rules.proofs.LiveLemmas.{observed_in}
use Rattle.object_rules.proofs.observed.is_observed.Goals as goal

pub returns : goal.returns
returns g c =
    let past = g.L.Ledger.deeds c.args.office.now in
    c.is_member_live.ensures
    ∙ observed_in c.orders.ensures (holdings past) (links_of past) c.args.p (c.given_in_order.ensures.given (links_of past)) c.file.result.now.observations c.file.result.now.tracklets
    (map (λ (l : Link). l.member) c.members.result.now) c.file.ensures.observations c.file.ensures.tracklets (c.members.ensures.acts (links_of past) c.links.ensures)
