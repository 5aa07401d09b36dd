use Rattle.act_model.proofs.Conducts.{step_makes}
use Rattle.act_model.proofs.laws.steps_add_one_entry.Goals as goal

pub returns : goal.returns
returns c = λ founder limit past after request reading reply. step_makes founder limit past request reading reply after
