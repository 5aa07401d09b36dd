use Rattle.std.proofs.Common.{ap, ◌∙◌}
use Rattle.comet_names.specs.declared.comet.Comet.{Comet}
use Rattle.comet_names.specs.declared.comet.CometKind.TheVariants.{C}
use Rattle.comet_model.specs.Comets.{comet_of}
use Rattle.comet_core.specs.Comets.{CometsValue}
use Rattle.comet_core.proofs.comets.Comets.comet_of.Goals as goal

-- what stands beside a designation in a key
none : Comet
none = record { kind = C; half = record { year = 0; index = 0 }; number = 0 }

pub returns : goal.returns
returns c = c.comet_of.ensures none ∙ c.self.invariant.by_object c.args.object none ∙ ap (λ (v : CometsValue). comet_of c.args.object v.items) c.self.view_is
