use Rattle.act_model.proofs.Legal.{legal_once}
use Rattle.act_model.proofs.laws.legal_numbers_once.Goals as goal

pub returns : goal.returns
returns c = λ founder history. legal_once founder history
