use Rattle.tracklet_file.proofs.AddedLemmas.{later_as_brought}
use Rattle.tracklet_file.proofs.laws.of_tracklet_as_added.Goals as goal

pub returns : goal.returns
returns c = later_as_brought
