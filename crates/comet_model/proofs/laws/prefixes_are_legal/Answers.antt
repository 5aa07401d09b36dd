use Rattle.comet_model.proofs.Legal.{legal_prefix}
use Rattle.comet_model.proofs.laws.prefixes_are_legal.Goals as goal

pub returns : goal.returns
returns c = λ founder desk earlier later. legal_prefix founder desk earlier later
