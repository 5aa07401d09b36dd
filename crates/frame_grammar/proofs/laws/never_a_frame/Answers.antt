use Rattle.frame_grammar.proofs.Streams.{never_no_frame, never_goes_on, never_head, never_some}
use Rattle.frame_grammar.proofs.laws.never_a_frame.Goals as goal

pub returns : goal.returns
returns c = record { now = never_no_frame; later = never_goes_on; heads = never_head; some = never_some }
