use Rattle.act_model.proofs.Legal.{rest_turn}
use Rattle.act_model.proofs.laws.answers_are_turns.Goals as goal

pub returns : goal.returns
returns c = λ founder limit past after turn. rest_turn founder limit past after turn
