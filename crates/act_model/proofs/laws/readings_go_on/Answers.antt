use Rattle.act_model.proofs.Clocks.{gives_more}
use Rattle.act_model.proofs.laws.readings_go_on.Goals as goal

pub returns : goal.returns
returns c = λ before between after readings more. gives_more before between after readings more
