use Rattle.act_model.proofs.Conducts.{conduct_extends}
use Rattle.act_model.proofs.laws.histories_grow.Goals as goal

pub returns : goal.returns
returns c = λ founder limit before after turns. conduct_extends founder limit before turns after
