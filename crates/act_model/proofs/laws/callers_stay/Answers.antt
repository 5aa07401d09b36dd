use Rattle.act_model.proofs.Legal.{callers_stay}
use Rattle.act_model.proofs.laws.callers_stay.Goals as goal

pub returns : goal.returns
returns c = λ founder key earlier later caller. callers_stay founder earlier later key caller
