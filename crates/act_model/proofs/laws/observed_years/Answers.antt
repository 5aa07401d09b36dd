use Rattle.act_model.proofs.Years.{observed_years}
use Rattle.act_model.proofs.laws.observed_years.Goals as goal

pub returns : goal.returns
returns c = observed_years
