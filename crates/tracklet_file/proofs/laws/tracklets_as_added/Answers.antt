use Rattle.std.proofs.Common.{refl}
use Rattle.tracklet_file.specs.declared.tracklet.Tracklet.{Tracklet}
use Rattle.tracklet_file.proofs.AddedLemmas.{as_many_tracklets, tracklet_as_brought}
use Rattle.tracklet_file.proofs.laws.tracklets_as_added.Goals as goal

pub returns-clause-names : goal.returns-clause-names
returns-clause-names c = tracklet_as_brought (λ (tracklet : Tracklet). tracklet.name) (λ home tracklet. refl)

pub returns-clause-stations : goal.returns-clause-stations
returns-clause-stations c = tracklet_as_brought (λ (tracklet : Tracklet). tracklet.station) (λ home tracklet. refl)

pub returns-clause-count : goal.returns-clause-count
returns-clause-count c = as_many_tracklets
