use Rattle.std.proofs.Common.{refl}
use Rattle.act_model.specs.Deeds.{deeds}
use Rattle.catalogue_export.proofs.WalkSteps.{entered_track}
use Rattle.catalogue_export.specs.Pieces.{track_head}
use Rattle.catalogue_export.proofs.walk.Walk.enter_track.Goals as goal

pub returns-clause-ok : goal.returns-clause-ok
returns-clause-ok g c =
    let history = g.V.Shelf.history c.args.shelf.now in
    let text = track_head (deeds history) c.args.t in
    entered_track history c.args.self.now c.args.out.now c.requires.0 c.args.t c.in_ok-observations.observations text c.push_made.new.out c.requires.1 c.requires.2 c.requires.3 c.in_ok-observations.ensures refl
    (c.in_ok-push_made.ensures.ok text c.track_head.ensures)
