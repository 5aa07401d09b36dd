use Rattle.frame_grammar.proofs.Streams.{stream_append, session_append}
use Rattle.frame_grammar.proofs.laws.session_behind.Goals as goal

pub returns : goal.returns
returns c = record { streams = stream_append; sessions = session_append }
