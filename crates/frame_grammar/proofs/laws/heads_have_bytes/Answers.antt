use Rattle.frame_grammar.proofs.Streams.{head_begun}
use Rattle.frame_grammar.proofs.laws.heads_have_bytes.Goals as goal

pub returns : goal.returns
returns c = head_begun
