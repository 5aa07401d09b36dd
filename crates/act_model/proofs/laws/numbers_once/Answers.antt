use Rattle.act_model.proofs.Conducts.{conduct_once}
use Rattle.act_model.proofs.laws.numbers_once.Goals as goal

pub returns : goal.returns
returns c = λ founder limit before after turns. conduct_once founder limit before turns after
