use Rattle.act_model.proofs.Acknowledged.{turn_acknowledges}
use Rattle.act_model.proofs.laws.acknowledged_acts_are_kept.Goals as goal

pub returns : goal.returns
returns c = λ founder limit before after turn text is act reply. turn_acknowledges founder limit before turn after text act reply is
