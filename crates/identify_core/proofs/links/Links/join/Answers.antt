use Rattle.std.proofs.Common.{ap, ◌∙◌}
use Rattle.identify_core.specs.Acts.{principal_after}
use Rattle.identify_core.specs.Acts.LinkAct.{Joined}
use Rattle.identify_core.specs.Principals.{LinksValue, principal_of, IsPrincipal}
use Rattle.identify_core.proofs.ActLemmas.{own_joined}
use Rattle.identify_core.proofs.links.Links.join.Goals as goal

pub invariant_of-self : goal.invariant_of-self
invariant_of-self c =
    let principal : IsPrincipal c.self.inside.links.items c.args.p = ap (λ (v : LinksValue). principal_of v.links c.args.p) c.self.view_is ∙ c.requires.principal in
    record {
      kept = c.give_all.ensures.kept;
      own = own_joined c.args.p c.args.s (principal_of c.self.inside.links.items) _ principal c.requires.two c.give_all.ensures.principals c.self.invariant.own;
    }

pub returns-clause-principals : goal.returns-clause-principals
returns-clause-principals c = λ e.
    c.give_all.ensures.principals e ∙ ap (λ (v : LinksValue). principal_after (Joined c.args.p c.args.s) e (principal_of v.links e)) c.self.view_is

pub returns-clause-acts : goal.returns-clause-acts
returns-clause-acts c = λ acts stand e. returns-clause-principals c e ∙ ap (principal_after (Joined c.args.p c.args.s) e) (stand e)
