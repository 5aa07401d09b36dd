use Rattle.std.proofs.Common.{◌≡◌, List, ap, sym, subst, ◌∙◌}
use Rattle.packed_names.specs.declared.name.Designation.{Designation}
use Rattle.identify_core.specs.declared.link.Link.{Link}
use Rattle.identify_core.specs.Acts.{LinkAct, is_principal_of, principal, given_in_order, principals}
use Rattle.identify_core.specs.Principals.{LinksValue, own_members, IsAscending, StandFor}
use Rattle.ordered_list.specs.Orders.{IsStrictlySorted}
use Rattle.identify_core.specs.Keeping.{link_cmp, EachOnce}
use Rattle.identify_core.proofs.OrderedLemmas.{in_order_once, ascending_given, ascending_filter, in_principals, from_principals}
use Rattle.identify_core.proofs.OwnLemmas.{own_among, own_from, own_ascending}
use Rattle.identify_core.proofs.links.Links.as_slice.Goals as goal

-- the links that are their own principals are the principals of the acts
principals_are : (links : List Link) (acts : List LinkAct) → IsStrictlySorted link_cmp links → EachOnce links → StandFor links acts → own_members links ≡ principals acts
principals_are links acts sorted once stand =
    let is_principal = λ (d : Designation). is_principal_of d (principal acts d) in
    in_order_once (own_members links) (principals acts)
    (own_ascending links sorted)
    (ascending_filter is_principal (given_in_order acts) (ascending_given acts))
    (λ d among. in_principals acts d (sym (stand d) ∙ own_from d links (once d) among))
    (λ d among. own_among d links (stand d ∙ from_principals acts d among))

pub returns-clause-order : goal.returns-clause-order
returns-clause-order c =
    let links = c.self.inside.links.items in
    subst (λ (ls : List Link). IsAscending (own_members ls)) (sym c.as_slice.ensures.value) (own_ascending links c.self.invariant.kept.sorted)

pub returns-clause-principals : goal.returns-clause-principals
returns-clause-principals c = λ acts stand.
    let links = c.self.inside.links.items in
    let standing : StandFor links acts = subst (λ (v : LinksValue). StandFor v.links acts) (sym c.self.view_is) stand in
    ap own_members c.as_slice.ensures.value ∙ principals_are links acts c.self.invariant.kept.sorted c.self.invariant.kept.once standing
