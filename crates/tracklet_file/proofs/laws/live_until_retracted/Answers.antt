use Rattle.tracklet_file.proofs.ChangeLemmas.{live_is_not_gone}
use Rattle.tracklet_file.proofs.laws.live_until_retracted.Goals as goal

pub returns : goal.returns
returns c = live_is_not_gone
