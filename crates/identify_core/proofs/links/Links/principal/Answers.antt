use Rattle.std.proofs.Common.{◌≡◌, List, Option, Some, None, IfSome, sym, subst, ◌∙◌}
use Rattle.packed_names.specs.declared.name.Designation.{Designation}
use Rattle.identify_core.specs.declared.link.Link.{Link}
use Rattle.identify_core.specs.Principals.{LinksValue, principal_of, IsPrincipal}
use Rattle.identify_core.proofs.ActLemmas.{AreOwn}
use Rattle.identify_core.proofs.links.Links.principal.Goals as goal

own_if : (links : List Link) (d : Designation) (answer : Option Designation) → answer ≡ principal_of links d → AreOwn links → IfSome answer (IsPrincipal links)
own_if links d None is own = tt
own_if links d (Some p) is own = own d p (sym is)

pub returns-clause-own : goal.returns-clause-own
returns-clause-own c =
    let links = c.self.inside.links.items in
    let answer : c.principal_of.result ≡ principal_of links c.args.d = c.principal_of.ensures ∙ c.self.invariant.kept.indexed c.args.d in
    subst (λ (v : LinksValue). IfSome c.principal_of.result (IsPrincipal v.links)) c.self.view_is (own_if links c.args.d c.principal_of.result answer c.self.invariant.own)
