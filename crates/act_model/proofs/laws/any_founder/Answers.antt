use Rattle.act_model.proofs.Legal.{legal_under}
use Rattle.act_model.proofs.laws.any_founder.Goals as goal

pub returns : goal.returns
returns c = λ founder other history plus legal. legal_under c.enrol_keys_are_plain.ensures founder other history plus legal
