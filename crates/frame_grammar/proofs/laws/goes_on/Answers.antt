use Rattle.frame_grammar.proofs.Streams.{frame_before, stream_before}
use Rattle.frame_grammar.proofs.Heads.{head_before}
use Rattle.frame_grammar.proofs.laws.goes_on.Goals as goal

pub returns : goal.returns
returns c = record { heads = head_before; frames = frame_before; streams = stream_before }
