use Rattle.frame_grammar.proofs.Streams.{one_session}
use Rattle.frame_grammar.proofs.laws.one_session.Goals as goal

pub returns : goal.returns
returns c = one_session
