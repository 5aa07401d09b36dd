use Rattle.std.proofs.Common.{ap, ◌∙◌}
use Rattle.tracklet_file.specs.Observations.{has_live}
use Rattle.tracklet_file.specs.Contents.{Contents}
use Rattle.tracklet_file.proofs.IndexLemmas.{in_order_of_age}
use Rattle.tracklet_file.proofs.file.TrackletFile.has_live.Goals as goal

pub returns : goal.returns
returns c =
    c.has_live.ensures ∙ ap (λ os. has_live os c.args.station c.args.time c.args.ra c.args.dec) c.as_slice.ensures.value
    ∙ in_order_of_age c.self.inside.observations.items c.args.station c.args.time c.args.ra c.args.dec
    ∙ ap (λ (v : Contents). has_live v.observations c.args.station c.args.time c.args.ra c.args.dec) c.self.view_is
