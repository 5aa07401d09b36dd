use Rattle.frame_grammar.proofs.Heads.{one_head}
use Rattle.frame_grammar.proofs.laws.one_head.Goals as goal

pub returns : goal.returns
returns c = one_head
