use Rattle.act_model.specs.Deeds.{deeds}
use Rattle.comet_model.proofs.Findings.{half_is_one}
use Rattle.comet_model.proofs.Fresh.{next_unnamed}
use Rattle.comet_model.proofs.laws.names_are_new.Goals as goal

pub returns : goal.returns
returns c = λ history entries naming named.
    let below = c.below.ensures in
    next_unnamed below.one_comet below.halves (deeds history) (half_is_one below.designations below.acts_fit below.given history) entries naming named
