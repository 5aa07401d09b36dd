use Rattle.std.proofs.Common.{◌-◌, ◌<◌, length, arith, false, Option, subst, sym, ap, ◌∙◌}
use Rattle.std.specs.Prelude.{reverse}
use Rattle.std.specs.Option.{option_map_or}
use Rattle.tracklet_file.specs.declared.observation.Observation.{Observation}
use Rattle.tracklet_file.specs.Observations.{IsObservation, is_live}
use Rattle.tracklet_file.specs.Contents.{Contents}
use Rattle.tracklet_file.proofs.NumberingLemmas.{number_some, place_within, read_at}
use Rattle.tracklet_file.proofs.file.TrackletFile.is_live.Goals as goal

pub overflow_sub-k : goal.overflow_sub-k
overflow_sub-k c = number_some c.self.inside.observations.items c.args.k (subst (λ (v : Contents). IsObservation v.observations c.args.k) (sym c.self.view_is) c.requires)

pub index-requires : goal.index-requires
index-requires c =
    let within : c.args.k - 1 < length c.self.inside.observations.items = place_within c.self.inside.observations.items c.args.k (subst (λ (v : Contents). IsObservation v.observations c.args.k) (sym c.self.view_is) c.requires) in
    omega arith

pub returns : goal.returns
returns c =
    let there : IsObservation (reverse c.self.inside.observations.items) c.args.k = subst (λ (v : Contents). IsObservation v.observations c.args.k) (sym c.self.view_is) c.requires in
    sym (ap (λ (found : Option Observation). option_map_or (λ (o : Observation). o.live) found false) (read_at c.self.inside.observations.items c.args.k c.index.result.now there c.index.ensures))
    ∙ ap (λ (v : Contents). is_live v.observations c.args.k) c.self.view_is
