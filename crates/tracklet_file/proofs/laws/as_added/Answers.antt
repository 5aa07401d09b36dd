use Rattle.std.proofs.Common.{refl}
use Rattle.tracklet_file.specs.declared.observation.Observation.{Observation}
use Rattle.tracklet_file.proofs.AddedLemmas.{as_many, read_as_brought}
use Rattle.tracklet_file.proofs.laws.as_added.Goals as goal

pub returns-clause-sightings : goal.returns-clause-sightings
returns-clause-sightings c = read_as_brought (λ (o : Observation). o.sighting) (λ o. refl)

pub returns-clause-entries : goal.returns-clause-entries
returns-clause-entries c = read_as_brought (λ (o : Observation). o.entry) (λ o. refl)

pub returns-clause-tracks : goal.returns-clause-tracks
returns-clause-tracks c = read_as_brought (λ (o : Observation). o.track) (λ o. refl)

pub returns-clause-count : goal.returns-clause-count
returns-clause-count c = as_many
