use Rattle.act_model.proofs.Legal.{legal_prefix}
use Rattle.act_model.proofs.laws.prefixes_are_legal.Goals as goal

pub returns : goal.returns
returns c = λ founder earlier later. legal_prefix founder earlier later
