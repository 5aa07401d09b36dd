use Rattle.std.proofs.Common.{◌≡◌, length, ap, arith}
use Rattle.std.specs.Prelude.{reverse}
use Rattle.std.proofs.lemmas.List.{length-reverse}
use Rattle.tracklet_file.specs.Contents.{Contents}
use Rattle.tracklet_file.proofs.CountLemmas.{places_together}
use Rattle.tracklet_file.proofs.file.TrackletFile.observations.Goals as goal

pub returns-clause-places : goal.returns-clause-places
returns-clause-places c =
    let together = places_together c.args.self.now.tracklets c.args.self.now.observations in
    let all : length (reverse c.self.inside.observations.items) ≡ length c.args.self.now.observations = ap (λ (v : Contents). length v.observations) c.self.view_is in
    let turned = length-reverse c.self.inside.observations.items in
    let is : c.len.result ≡ length c.self.inside.observations.items = omega arith in
    omega arith
