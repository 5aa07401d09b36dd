use Rattle.tracklet_file.proofs.AddedLemmas.{retracted_as_counted}
use Rattle.tracklet_file.proofs.laws.retractions_are_counted.Goals as goal

pub returns : goal.returns
returns c = retracted_as_counted
