use Rattle.act_model.proofs.Places.{adds_lines}
use Rattle.act_model.proofs.laws.acts_add_their_lines.Goals as goal

pub returns : goal.returns
returns c = λ past deed. adds_lines past deed
