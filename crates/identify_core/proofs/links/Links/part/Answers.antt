use Rattle.std.proofs.Common.{◌≡◌, Some, ap, sym, ◌∙◌}
use Rattle.identify_core.specs.Acts.{principal_after}
use Rattle.identify_core.specs.Acts.LinkAct.{Parted}
use Rattle.identify_core.specs.Principals.{LinksValue, principal_of, IsPrincipal}
use Rattle.identify_core.proofs.ActLemmas.{own_parted}
use Rattle.identify_core.proofs.ChangeLemmas.{given_alone}
use Rattle.identify_core.proofs.links.Links.part.Goals as goal

pub invariant_of-self : goal.invariant_of-self
invariant_of-self c =
    let old = c.self.inside.links.items in
    let new = c.give.new.links.items in
    let had : principal_of old c.args.s ≡ Some c.in-Some.principal = sym (c.self.invariant.kept.indexed c.args.s) ∙ sym c.principal_of.ensures ∙ c.in-Some.is in
    let secondary : ¬ IsPrincipal old c.args.s = λ own. c.requires.secondary (ap (λ (v : LinksValue). principal_of v.links c.args.s) (sym c.self.view_is) ∙ own) in
    record {
      kept = c.give.ensures.kept;
      own = own_parted c.args.s (principal_of old) (principal_of new) secondary (given_alone c.args.s c.in-Some.principal old new had c.give.ensures.principals) c.self.invariant.own;
    }

pub returns-in-Some-clause-principals : goal.returns-in-Some-clause-principals
returns-in-Some-clause-principals c = λ e.
    let old = c.self.inside.links.items in
    let had : principal_of old c.args.s ≡ Some c.in-Some.principal = sym (c.self.invariant.kept.indexed c.args.s) ∙ sym c.principal_of.ensures ∙ c.in-Some.is in
    given_alone c.args.s c.in-Some.principal old c.give.new.links.items had c.give.ensures.principals e
    ∙ ap (λ (v : LinksValue). principal_after (Parted c.args.s) e (principal_of v.links e)) c.self.view_is

pub returns-in-Some-clause-acts : goal.returns-in-Some-clause-acts
returns-in-Some-clause-acts c = λ acts stand e. returns-in-Some-clause-principals c e ∙ ap (principal_after (Parted c.args.s) e) (stand e)
