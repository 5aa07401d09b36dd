use Rattle.mpc_desk.proofs.Accepting.{adds_lines}
use Rattle.mpc_desk.proofs.laws.lines_are_added.Goals as goal

pub returns : goal.returns
returns c = adds_lines c.acts_add_their_lines.ensures
