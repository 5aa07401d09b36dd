use Rattle.std.proofs.Common.{ap, ◌∙◌}
use Rattle.std.specs.Prelude.{reverse}
use Rattle.comet_model.specs.Translation.{object_named}
use Rattle.comet_core.specs.Comets.{CometsValue}
use Rattle.comet_core.proofs.CometLemmas.{named_by_eight}
use Rattle.comet_core.proofs.comets.Comets.object_named.Goals as goal

pub returns : goal.returns
returns c =
    let name = c.args.name.now in
    named_by_eight (reverse c.self.inside.named.items) name c.object_named.result c.self.invariant.long
    (λ eight. c.object_named.ensures.found eight ∙ c.self.invariant.by_name name) c.object_named.ensures.none
    ∙ ap (λ (v : CometsValue). object_named v.items name) c.self.view_is
