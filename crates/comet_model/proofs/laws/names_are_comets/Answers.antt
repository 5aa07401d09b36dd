use Rattle.comet_model.proofs.Findings.{half_is_one}
use Rattle.comet_model.proofs.Names.{are_comets}
use Rattle.act_model.specs.Deeds.{deeds}
use Rattle.comet_model.proofs.laws.names_are_comets.Goals as goal

pub returns : goal.returns
returns c = λ history entries. are_comets (deeds history) (half_is_one c.below.ensures.designations c.below.ensures.acts_fit c.below.ensures.given history) entries
