use Rattle.frame_grammar.proofs.Streams.{one_stream}
use Rattle.frame_grammar.proofs.laws.one_stream.Goals as goal

pub returns : goal.returns
returns c = one_stream
