use Rattle.frame_grammar.proofs.Streams.{session_reached}
use Rattle.frame_grammar.proofs.laws.session_reaches.Goals as goal

pub returns : goal.returns
returns c = session_reached
