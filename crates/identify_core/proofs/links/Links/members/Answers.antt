use Rattle.std.proofs.Common.{◌≡◌, ◌↔◌, List, [], ◌∷◌, map, All, Some, refl, ap, sym, subst, ◌∙◌, arith}
use Rattle.std.specs.List.{Contains, filter}
use Rattle.packed_names.specs.declared.name.Designation.{Designation}
use Rattle.identify_core.specs.declared.link.Link.{Link}
use Rattle.identify_core.specs.Principals.{LinksValue, principal_of, IsAscending}
use Rattle.ordered_list.specs.Orders.{IsStrictlySorted}
use Rattle.identify_core.specs.Keeping.{run_of, has_principal, link_cmp}
use Rattle.identify_core.specs.Acts.{members}
use Rattle.identify_core.proofs.ActLemmas.{AreOwn}
use Rattle.identify_core.proofs.OrderedLemmas.{in_order_once, ascending_members, in_members, from_members}
use Rattle.identify_core.proofs.RunLemmas.{run_is, all_of, among, principal_from, ascending}
use Rattle.identify_core.proofs.links.Links.members.Goals as goal

-- the run that was found has all links of the principal
run_found : (p : Designation) (links slice run : List Link) → IsStrictlySorted link_cmp links → run ≡ run_of p slice → slice ≡ links → filter (has_principal p) links ≡ run
run_found p links slice run sorted run_is_run slice_is = sym (run_is_run ∙ ap (run_of p) slice_is ∙ run_is p links sorted)

pub returns-clause-principal : goal.returns-clause-principal
returns-clause-principal c =
    let links = c.self.inside.links.items in
    let run = run_found c.args.p links c.as_slice.result.now c.run_of.result.now c.self.invariant.kept.sorted c.run_of.ensures c.as_slice.ensures.value in
    subst (All (λ (l : Link). l.principal ≡ c.args.p)) run (all_of c.args.p links)

pub returns-clause-members : goal.returns-clause-members
returns-clause-members c = λ d.
    let links = c.self.inside.links.items in
    let run = run_found c.args.p links c.as_slice.result.now c.run_of.result.now c.self.invariant.kept.sorted c.run_of.ensures c.as_slice.ensures.value in
    let P : List Link → List Link → Type 0 = λ ls v. Contains (map (λ (l : Link). l.member) ls) d ↔ (principal_of v d ≡ Some c.args.p) in
    let all : P (filter (has_principal c.args.p) links) links = (principal_from d c.args.p links (c.self.invariant.kept.once d), among d c.args.p links) in
    subst (λ (v : LinksValue). P c.run_of.result.now v.links) c.self.view_is (subst (λ (ls : List Link). P ls links) run all)

pub returns-clause-order : goal.returns-clause-order
returns-clause-order c =
    let links = c.self.inside.links.items in
    let run = run_found c.args.p links c.as_slice.result.now c.run_of.result.now c.self.invariant.kept.sorted c.run_of.ensures c.as_slice.ensures.value in
    subst (λ (ls : List Link). IsAscending (map (λ (l : Link). l.member) ls)) run (ascending c.args.p links c.self.invariant.kept.sorted)

-- a list of which nothing is a member is empty
empty_if : (links : List Link) → ((d : Designation) → Contains (map (λ (l : Link). l.member) links) d → ⊥) → links ≡ []
empty_if [] none = refl
empty_if (link ∷ links) none = absurd (none link.member (0, omega arith, refl))

pub returns-clause-none : goal.returns-clause-none
returns-clause-none c = λ secondary.
    let own : AreOwn c.args.self.now.links = subst (λ (v : LinksValue). AreOwn v.links) c.self.view_is c.self.invariant.own in
    empty_if c.run_of.result.now (λ d among. secondary (own d c.args.p ((returns-clause-members c d).0 among)))

pub returns-clause-acts : goal.returns-clause-acts
returns-clause-acts c = λ acts stand.
    in_order_once (map (λ (l : Link). l.member) c.run_of.result.now) (members acts c.args.p) (returns-clause-order c) (ascending_members acts c.args.p)
    (λ d among. in_members acts c.args.p d (sym (stand d) ∙ (returns-clause-members c d).0 among))
    (λ d among. (returns-clause-members c d).1 (stand d ∙ from_members acts c.args.p d among))
