use Rattle.frame_grammar.proofs.Streams.{one_frame}
use Rattle.frame_grammar.proofs.laws.one_frame.Goals as goal

pub returns : goal.returns
returns c = one_frame
