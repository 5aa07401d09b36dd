use Rattle.comet_model.proofs.Conducts.{conduct_more}
use Rattle.comet_model.proofs.laws.conducts_go_on.Goals as goal

pub returns : goal.returns
returns c = λ founder limit desk before between after turns turn. conduct_more founder limit desk before turns between turn after
