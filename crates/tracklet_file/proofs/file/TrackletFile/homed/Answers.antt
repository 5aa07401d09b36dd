use Rattle.std.proofs.Common.{◌≡◌, ◌∙◌, ap, arith}
use Rattle.tracklet_file.specs.Tracklets.{isolated_in, retracted_in}
use Rattle.tracklet_file.specs.Contents.{Contents}
use Rattle.tracklet_file.proofs.file.TrackletFile.homed.Goals as goal

pub returns : goal.returns
returns c =
    let isolated : c.self.inside.isolated ≡ isolated_in c.args.self.now.tracklets c.args.self.now.observations =
    c.self.invariant.kept.counted.isolated_are ∙ ap (λ (v : Contents). isolated_in v.tracklets v.observations) c.self.view_is in
    let retracted : c.self.inside.retracted ≡ retracted_in c.args.self.now.observations =
    c.self.invariant.kept.counted.retracted_are ∙ ap (λ (v : Contents). retracted_in v.observations) c.self.view_is in
    omega arith
