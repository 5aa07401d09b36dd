use Rattle.act_model.proofs.Listed.{listed_once}
use Rattle.act_model.proofs.laws.lists_live_once.Goals as goal

pub returns : goal.returns
returns c = λ history k. listed_once history k c.each_principal_once.ensures c.equal_is_same.ensures c.principals_stay_own.ensures
