use Rattle.tracklet_file.proofs.CountLemmas.{places_together}
use Rattle.tracklet_file.proofs.laws.one_place.Goals as goal

pub returns : goal.returns
returns c = places_together
