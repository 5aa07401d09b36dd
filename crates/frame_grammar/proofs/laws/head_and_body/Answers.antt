use Rattle.frame_grammar.proofs.Streams.{frame_good, frame_whole, frame_at_front, head_good}
use Rattle.std.proofs.Common.{refl}
use Rattle.frame_grammar.proofs.laws.head_and_body.Goals as goal

pub returns : goal.returns
returns c = record { good = frame_good; joined = frame_whole; taken = frame_at_front; parted = head_good; cut = λ f rest. refl }
