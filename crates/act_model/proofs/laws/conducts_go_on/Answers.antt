use Rattle.act_model.proofs.Conducts.{conduct_more}
use Rattle.act_model.proofs.laws.conducts_go_on.Goals as goal

pub returns : goal.returns
returns c = λ founder limit before between after turns turn. conduct_more founder limit before turns between turn after
