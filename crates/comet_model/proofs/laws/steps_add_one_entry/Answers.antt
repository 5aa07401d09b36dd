use Rattle.comet_model.proofs.Steps.{step_makes}
use Rattle.comet_model.proofs.laws.steps_add_one_entry.Goals as goal

pub returns : goal.returns
returns c = λ founder limit desk past after request reading reply. step_makes founder limit desk past request reading reply after
