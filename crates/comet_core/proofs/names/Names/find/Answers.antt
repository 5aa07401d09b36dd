use Rattle.std.proofs.Common.{ap, sym, subst, ◌∙◌}
use Rattle.comet_core.specs.Names.{NamesValue, object_of, StandsAt}
use Rattle.comet_core.proofs.NameLemmas.{found_at}
use Rattle.comet_core.proofs.names.Names.find.Goals as goal

pub returns-in-Some : goal.returns-in-Some
returns-in-Some c =
    let text = c.args.text.now in
    let place = c.in-Some.place in
    let stands = subst (λ (v : NamesValue). StandsAt v.names place text) (sym c.self.view_is) c.in-Some.ensures.there in
    found_at c.self.inside.names.items place text c.index.result.now _ c.self.invariant.1 stands c.index.ensures
    ∙ ap (λ (v : NamesValue). object_of v.names text) c.self.view_is
