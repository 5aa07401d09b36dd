use Rattle.std.proofs.Common.{◌≡◌, None, ap, ◌∙◌}
use Rattle.identify_core.specs.Acts.{principal_after}
use Rattle.identify_core.specs.Acts.LinkAct.{Given}
use Rattle.identify_core.specs.Principals.{LinksValue, principal_of}
use Rattle.identify_core.specs.Keeping.{IsGiven}
use Rattle.identify_core.proofs.ActLemmas.{own_given}
use Rattle.identify_core.proofs.ChangeLemmas.{given_new, once_new}
use Rattle.identify_core.proofs.IndexLemmas.{indexed_given}
use Rattle.identify_core.proofs.links.Links.add.Goals as goal

pub invariant_of-self : goal.invariant_of-self
invariant_of-self c =
    let old = c.self.inside.links.items in
    let new = c.put.new.links.items in
    let absent : principal_of old c.args.d ≡ None = ap (λ (v : LinksValue). principal_of v.links c.args.d) c.self.view_is ∙ c.requires.absent in
    let given : IsGiven c.args.d c.args.d old new = given_new c.args.d old new c.self.invariant.kept.once absent c.put.ensures.more in
    record {
      kept = record {
        sorted = c.put.ensures.sorted;
        once = once_new c.args.d old new c.self.invariant.kept.once absent c.put.ensures.more;
        indexed = indexed_given c.self.inside.entries.items c.insert.new.self.items _ old new c.insert.ensures.finds c.self.invariant.kept.indexed given;
      };
      own = own_given c.args.d (principal_of old) (principal_of new) given c.self.invariant.own;
    }

pub returns-clause-principals : goal.returns-clause-principals
returns-clause-principals c = λ e.
    let old = c.self.inside.links.items in
    let absent : principal_of old c.args.d ≡ None = ap (λ (v : LinksValue). principal_of v.links c.args.d) c.self.view_is ∙ c.requires.absent in
    given_new c.args.d old c.put.new.links.items c.self.invariant.kept.once absent c.put.ensures.more e
    ∙ ap (λ (v : LinksValue). principal_after (Given c.args.d) e (principal_of v.links e)) c.self.view_is

pub returns-clause-acts : goal.returns-clause-acts
returns-clause-acts c = λ acts stand e. returns-clause-principals c e ∙ ap (principal_after (Given c.args.d) e) (stand e)
