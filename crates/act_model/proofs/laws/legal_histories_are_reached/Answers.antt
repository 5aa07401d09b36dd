use Rattle.act_model.proofs.Legal.{legal_reached}
use Rattle.act_model.proofs.laws.legal_histories_are_reached.Goals as goal

pub returns : goal.returns
returns c = λ founder history. legal_reached founder history
