use Rattle.act_model.proofs.Places.{one_place}
use Rattle.act_model.proofs.laws.one_place.Goals as goal

pub returns : goal.returns
returns c = λ history. one_place c.one_place.ensures c.equal_is_same.ensures c.principals_stay_own.ensures c.each_principal_once.ensures history
