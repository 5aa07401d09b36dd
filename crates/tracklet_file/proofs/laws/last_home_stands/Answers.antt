use Rattle.tracklet_file.proofs.ChangeLemmas.{home_is_last}
use Rattle.tracklet_file.proofs.laws.last_home_stands.Goals as goal

pub returns : goal.returns
returns c = home_is_last
