use Rattle.std.proofs.Common.{◌-◌, ◌<◌, length, arith, subst, sym, ap, ◌∙◌}
use Rattle.std.specs.Prelude.{reverse}
use Rattle.std.specs.Option.{option_and_then}
use Rattle.tracklet_file.specs.declared.tracklet.Tracklet.{Tracklet}
use Rattle.tracklet_file.specs.Tracklets.{IsTracklet, home_of}
use Rattle.tracklet_file.specs.Contents.{Contents}
use Rattle.tracklet_file.proofs.NumberingLemmas.{number_some, place_within, read_at}
use Rattle.tracklet_file.proofs.file.TrackletFile.home.Goals as goal

pub overflow_sub-t : goal.overflow_sub-t
overflow_sub-t c = number_some c.self.inside.tracklets.items c.args.t (subst (λ (v : Contents). IsTracklet v.tracklets c.args.t) (sym c.self.view_is) c.requires)

pub index-requires : goal.index-requires
index-requires c =
    let within : c.args.t - 1 < length c.self.inside.tracklets.items = place_within c.self.inside.tracklets.items c.args.t (subst (λ (v : Contents). IsTracklet v.tracklets c.args.t) (sym c.self.view_is) c.requires) in
    omega arith

pub returns : goal.returns
returns c =
    let there : IsTracklet (reverse c.self.inside.tracklets.items) c.args.t = subst (λ (v : Contents). IsTracklet v.tracklets c.args.t) (sym c.self.view_is) c.requires in
    sym (ap (option_and_then (λ (tracklet : Tracklet). tracklet.home)) (read_at c.self.inside.tracklets.items c.args.t c.index.result.now there c.index.ensures))
    ∙ ap (λ (v : Contents). home_of v.tracklets c.args.t) c.self.view_is
