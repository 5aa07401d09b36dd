use Rattle.frame_grammar.proofs.Streams.{no_head_no_frame, body_missing, no_frame_in_nothing}
use Rattle.frame_grammar.proofs.laws.no_frame_yet.Goals as goal

pub returns : goal.returns
returns c = record { head = no_head_no_frame; body = body_missing; nothing = no_frame_in_nothing }
