use Rattle.act_model.proofs.TakenWith.{none_found}
use Rattle.act_model.proofs.laws.nothing_found.Goals as goal

pub returns : goal.returns
returns c = none_found
